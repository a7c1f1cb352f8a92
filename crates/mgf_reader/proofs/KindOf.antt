-- For `kind_of_number` and `kind_of_text`: what is found passes the test, and each kind is found by what it has.
use Rattle.std.proofs.Common.{◌≡◌, ◌∙◌, ◌<◌, inl, inr, ℕ, zero, suc, Bool, true, false, nat_eq, List, [], ◌∷◌, length}
use Rattle.std.proofs.Common.{drop, get_or, Some, refl, sym, ap, arith}
use Rattle.std.proofs.lemmas.Bool.{cases_Bool, eqb-true}
use Rattle.std.proofs.lemmas.Slice.Eq.{bytes_eq-Decides}
use Rattle.std.specs.List.{find}
use Rattle.std.specs.Str.{bytes_eq}
use Rattle.mgf_reader.specs.declared.fault.MgfKind.{MgfKind}
use Rattle.mgf_reader.specs.declared.fault.MgfKind.TheVariants.{NestedBegin, StrayEnd, OpenBlock, PeakOutside, BadPeak}
use Rattle.mgf_reader.specs.declared.fault.MgfKind.TheVariants.{BadPrecursor, BadCharge, NoForm, LineTooLong}
use Rattle.mgf_reader.specs.declared.fault.MgfKind.TheVariants.{TooManyPeaks}
use Rattle.mgf_reader.specs.Fault.{all_kinds, kind_number, kind_text, kind_of_number, kind_of_text}

found-passes : (p : MgfKind → Bool) (kinds : List MgfKind) (found : MgfKind) → find p kinds ≡ Some found
    → p found ≡ true
found-passes p [] found is = cc
found-passes p (kind ∷ kinds) found is = elim (cases_Bool (p kind)) [
  | inl passes ↦ let first : Some kind ≡ Some found = simp passes at is in let same : kind ≡ found = cc in
      ap p (sym same) ∙ passes
  | inr fails ↦ found-passes p kinds found (simp fails at is)
]

-- a kind that fails the test is passed over
pub find-past : (p : MgfKind → Bool) (kinds : List MgfKind) (place : ℕ) (other : MgfKind) → place < length kinds
    → p (get_or kinds place other) ≡ false → find p (drop (suc place) kinds) ≡ find p (drop place kinds)
find-past p [] place other within fails = absurd (omega arith)
find-past p (kind ∷ kinds) zero other within fails = rw fails refl
find-past p (kind ∷ kinds) (suc place) other within fails = find-past p kinds place other (omega arith) fails

pub numbered : (number : ℕ) (kind : MgfKind) → kind_of_number number ≡ Some kind → kind_number kind ≡ number
numbered number kind is = eqb-true (kind_number kind) number
    (found-passes (λ k. nat_eq (kind_number k) number) all_kinds kind is)

pub spelled : (text : List ℕ) (kind : MgfKind) → kind_of_text text ≡ Some kind → kind_text kind ≡ text
spelled text kind is = (bytes_eq-Decides (kind_text kind) text).0
    (found-passes (λ k. bytes_eq (kind_text k) text) all_kinds kind is)

pub of_its_number : (kind : MgfKind) → kind_of_number (kind_number kind) ≡ Some kind
of_its_number NestedBegin = refl
of_its_number StrayEnd = refl
of_its_number OpenBlock = refl
of_its_number PeakOutside = refl
of_its_number BadPeak = refl
of_its_number BadPrecursor = refl
of_its_number BadCharge = refl
of_its_number NoForm = refl
of_its_number LineTooLong = refl
of_its_number TooManyPeaks = refl

pub of_its_text : (kind : MgfKind) → kind_of_text (kind_text kind) ≡ Some kind
of_its_text NestedBegin = refl
of_its_text StrayEnd = refl
of_its_text OpenBlock = refl
of_its_text PeakOutside = refl
of_its_text BadPeak = refl
of_its_text BadPrecursor = refl
of_its_text BadCharge = refl
of_its_text NoForm = refl
of_its_text LineTooLong = refl
of_its_text TooManyPeaks = refl
