-- The ten kinds of a refusal: their numbers, the words that name them, and the kind of a number or of a word.
use Rattle.std.specs.Prelude.{ℕ, List, [], ◌∷◌, ◌==◌, Option, codes}
use Rattle.std.specs.List.{find}
use Rattle.std.specs.Str.{bytes_eq}
use Rattle.mgf_reader.specs.declared.fault.MgfKind.{MgfKind}
use Rattle.mgf_reader.specs.declared.fault.MgfKind.TheVariants.{NestedBegin, StrayEnd, OpenBlock, PeakOutside, BadPeak}
use Rattle.mgf_reader.specs.declared.fault.MgfKind.TheVariants.{BadPrecursor, BadCharge, NoForm, LineTooLong}
use Rattle.mgf_reader.specs.declared.fault.MgfKind.TheVariants.{TooManyPeaks}

-- the kinds in the order of their numbers
abbrev pub all_kinds : List MgfKind
all_kinds =
    NestedBegin ∷ StrayEnd ∷ OpenBlock ∷ PeakOutside ∷ BadPeak ∷ BadPrecursor ∷ BadCharge ∷ NoForm ∷ LineTooLong
    ∷ TooManyPeaks ∷ []

-- the number of a kind, from 1
abbrev pub kind_number : MgfKind → ℕ
kind_number NestedBegin = 1
kind_number StrayEnd = 2
kind_number OpenBlock = 3
kind_number PeakOutside = 4
kind_number BadPeak = 5
kind_number BadPrecursor = 6
kind_number BadCharge = 7
kind_number NoForm = 8
kind_number LineTooLong = 9
kind_number TooManyPeaks = 10

-- the word of a kind, as reports and documents print it
abbrev pub kind_text : MgfKind → List ℕ
kind_text NestedBegin = codes "nested-begin"
kind_text StrayEnd = codes "stray-end"
kind_text OpenBlock = codes "open-block"
kind_text PeakOutside = codes "peak-outside"
kind_text BadPeak = codes "bad-peak"
kind_text BadPrecursor = codes "bad-precursor"
kind_text BadCharge = codes "bad-charge"
kind_text NoForm = codes "no-form"
kind_text LineTooLong = codes "line-too-long"
kind_text TooManyPeaks = codes "too-many-peaks"

-- the kind of a number, where it is one's
abbrev pub kind_of_number : ℕ → Option MgfKind
kind_of_number number = find (λ kind. kind_number kind == number) all_kinds

-- the kind of a word, where it is one's
abbrev pub kind_of_text : List ℕ → Option MgfKind
kind_of_text text = find (λ kind. bytes_eq (kind_text kind) text) all_kinds
