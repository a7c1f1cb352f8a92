-- For `spectra_of`: what one more line changes in what is defined over lists of lines.
use Rattle.std.proofs.Common.{◌≡◌, ℕ, ◌+◌, ◌≤◌, Bool, true, false, nat_le, if◌then◌else◌, List, [], ◌∷◌, ◌++◌, length}
use Rattle.std.proofs.Common.{Option, Some, None, is_none, refl, sym, ◌∙◌, ap, append_assoc, append-nil, length-append}
use Rattle.std.proofs.Common.{add-zero, arith}
use Rattle.std.specs.Option.{option_to_list, option_and_then}
use Rattle.std.specs.List.{AllByRecursion, flat_map}
use borrow.Author.Tests.{leb-false}
use Rattle.mgf_reader.specs.declared.fault.MgfKind.TheVariants.{BadPeak, TooManyPeaks}
use Rattle.fixed_mass.specs.Units.{readable_units}
use Rattle.mgf_reader.specs.Spectrum.{PeakValue}
use Rattle.mgf_reader.specs.LineForm.{LineForm, peak, line_form}
use Rattle.mgf_reader.specs.Parameter.{Key, title, precursor, charge, value_in, last_value, title_of, precursor_of}
use Rattle.mgf_reader.specs.Parameter.{charge_list_of}
use Rattle.mgf_reader.specs.PeakLine.{peak_of, intensity_of}
use Rattle.mgf_reader.specs.Grammar.{greatest_peaks_of_a_block, fault_inside, peak_in, peaks_of, Piece, outside, block}
use Rattle.mgf_reader.specs.Grammar.{piece_lines, spectrum_of, spectra_of}
use Rattle.mgf_reader.specs.Stands.{defaults_of, outside_lines}
use Rattle.mgf_reader.specs.inside.Judging.{title_after, precursor_after, charges_after, set_by}

-- a fact of each element of two lists, joined and parted
pub all-append : {A : Type 0} (P : A → Type 0) (xs ys : List A) → AllByRecursion P xs → AllByRecursion P ys
    → AllByRecursion P (xs ++ ys)
all-append P [] ys a b = b
all-append P (x ∷ xs) ys a b = (a.0, all-append P xs ys a.1 b)

pub all-back : {A : Type 0} (P : A → Type 0) (xs ys : List A) → AllByRecursion P (xs ++ ys) → AllByRecursion P ys
all-back P [] ys a = a
all-back P (x ∷ xs) ys a = all-back P xs ys a.1

-- what the last line of a key says, with one line more
last_value-push : (key : Key) (lines : List (List ℕ)) (line value : List ℕ) → value_in key (line_form line) ≡ Some value
    → last_value key (lines ++ line ∷ []) ≡ Some value
last_value-push key [] line value is = is
last_value-push key (other ∷ lines) line value is = rw (last_value-push key lines line value is) refl

last_value-stays : (key : Key) (lines : List (List ℕ)) (line : List ℕ) → value_in key (line_form line) ≡ None
    → last_value key (lines ++ line ∷ []) ≡ last_value key lines
last_value-stays key [] line is = is
last_value-stays key (other ∷ lines) line is = rw (last_value-stays key lines line is) refl

title-push : (lines : List (List ℕ)) (line : List ℕ) (value : Option (List ℕ)) → value_in title (line_form line) ≡ value
    → title_of (lines ++ line ∷ []) ≡ title_after (title_of lines) value
title-push lines line None is = rw (last_value-stays title lines line is) refl
title-push lines line (Some value) is = rw (last_value-push title lines line value is) refl

precursor-push : (lines : List (List ℕ)) (line : List ℕ) (value : Option (List ℕ))
    → value_in precursor (line_form line) ≡ value
    → precursor_of (lines ++ line ∷ []) ≡ precursor_after (precursor_of lines) value
precursor-push lines line None is = rw (last_value-stays precursor lines line is) refl
precursor-push lines line (Some value) is = rw (last_value-push precursor lines line value is) refl

charges-push : (lines : List (List ℕ)) (line : List ℕ) (value : Option (List ℕ))
    → value_in charge (line_form line) ≡ value
    → charge_list_of (lines ++ line ∷ []) ≡ charges_after (charge_list_of lines) value
charges-push lines line None is = rw (last_value-stays charge lines line is) refl
charges-push lines line (Some value) is = rw (last_value-push charge lines line value is) refl

-- what some lines set, with one line more
pub defaults-push : (lines : List (List ℕ)) (line : List ℕ) (form : LineForm) → line_form line ≡ form
    → defaults_of (lines ++ line ∷ []) ≡ set_by (defaults_of lines) form
defaults-push lines line form is =
    let a = title-push lines line (value_in title form) (ap (value_in title) is) in
    let b = precursor-push lines line (value_in precursor form) (ap (value_in precursor) is) in
    let d = charges-push lines line (value_in charge form) (ap (value_in charge) is) in
    cc

-- a line's peak is one, whatever the line's number
abbrev peak_from : ℕ → Option ℕ → Option ℕ → Option PeakValue
peak_from line mz intensity = option_and_then
    (λ a. option_and_then (λ b. Some (record { mz = a; intensity = b; line = line })) intensity) mz

peak_from-length : (m n : ℕ) (mz intensity : Option ℕ)
    → length (option_to_list (peak_from m mz intensity)) ≡ length (option_to_list (peak_from n mz intensity))
peak_from-length m n None intensity = refl
peak_from-length m n (Some a) None = refl
peak_from-length m n (Some a) (Some b) = refl

peak_of-length : (m n : ℕ) (fields : List (List ℕ))
    → length (option_to_list (peak_of m fields)) ≡ length (option_to_list (peak_of n fields))
peak_of-length m n [] = refl
peak_of-length m n (field ∷ fields) = peak_from-length m n (readable_units 7 field) (intensity_of fields)

peak_in-length : (m n : ℕ) (form : LineForm) → length (peak_in m form) ≡ length (peak_in n form)
peak_in-length m n (peak fields) = peak_of-length m n fields
peak_in-length m n form = refl

pub peaks_of-length : (m n : ℕ) (lines : List (List ℕ)) → length (peaks_of m lines) ≡ length (peaks_of n lines)
peaks_of-length m n [] = refl
peaks_of-length m n (line ∷ lines) =
    length-append (peak_in m (line_form line)) (peaks_of (m + 1) lines)
    ∙ cc (peak_in-length m n (line_form line), peaks_of-length (m + 1) (n + 1) lines)
    ∙ sym (length-append (peak_in n (line_form line)) (peaks_of (n + 1) lines))

-- the peaks of some lines and of one more
pub peaks_of-push : (number : ℕ) (lines : List (List ℕ)) (line : List ℕ) (form : LineForm) → line_form line ≡ form
    → peaks_of number (lines ++ line ∷ []) ≡ peaks_of number lines ++ peak_in (number + length lines) form
peaks_of-push number [] line form is = append-nil (peak_in number (line_form line)) ∙ ap (peak_in number) is
    ∙ ap (λ n. peak_in n form) (sym (add-zero number))
peaks_of-push number (other ∷ lines) line form is =
    let more : number + 1 + length lines ≡ number + length (other ∷ lines) = omega arith in
    ap (λ peaks. peak_in number (line_form other) ++ peaks) (peaks_of-push (number + 1) lines line form is
    ∙ ap (λ n. peaks_of (number + 1) lines ++ peak_in n form) more)
    ∙ sym (append_assoc (peak_in number (line_form other)) (peaks_of (number + 1) lines)
    (peak_in (number + length (other ∷ lines)) form))

-- a line that has a place in a block has one whatever the number of peaks, and leaves no more of them than a block may
-- have
choose-none : {A : Type 0} (bad full : Bool) (a b : A) → (if bad then Some a else if full then Some b else None) ≡ None
    → (bad ≡ false) × (full ≡ false)
choose-none true full a b is = cc
choose-none false true a b is = cc
choose-none false false a b is = (refl, refl)

pub inside-right : (peaks : ℕ) (form : LineForm) → fault_inside peaks form ≡ None → fault_inside 0 form ≡ None
inside-right peaks (peak fields) right =
    rw (choose-none (is_none (peak_of 0 fields)) (nat_le greatest_peaks_of_a_block peaks) BadPeak TooManyPeaks right).0
    refl
inside-right peaks form right = right

option-length : {A : Type 0} (option : Option A) → length (option_to_list option) ≤ 1
option-length None = omega arith
option-length (Some a) = omega arith

pub inside-room : (peaks number : ℕ) (form : LineForm) → fault_inside peaks form ≡ None
    → peaks ≤ greatest_peaks_of_a_block → peaks + length (peak_in number form) ≤ greatest_peaks_of_a_block
inside-room peaks number (peak fields) right few =
    let room : nat_le greatest_peaks_of_a_block peaks ≡ false =
    (choose-none (is_none (peak_of 0 fields)) (nat_le greatest_peaks_of_a_block peaks) BadPeak TooManyPeaks
    right).1 in
    omega (arith, leb-false greatest_peaks_of_a_block peaks room, option-length (peak_of number fields))
inside-room peaks number form right few = omega arith

-- the lines outside among some pieces and some more
pub outside_lines-append : (some more : List Piece)
    → outside_lines (some ++ more) ≡ outside_lines some ++ outside_lines more
outside_lines-append [] more = refl
outside_lines-append (outside line ∷ some) more = ap (λ lines. line ∷ lines) (outside_lines-append some more)
outside_lines-append (block first body last ∷ some) more = outside_lines-append some more

-- the spectra of some pieces and of some more
pub spectra_of-append : (before : List (List ℕ)) (number : ℕ) (some more : List Piece)
    → spectra_of before number (some ++ more)
    ≡ spectra_of before number some ++ spectra_of (before ++ outside_lines some)
    (number + length (flat_map piece_lines some)) more
spectra_of-append before number [] more = cc (append-nil before, add-zero number)
spectra_of-append before number (outside line ∷ some) more =
    let lines : (before ++ line ∷ []) ++ outside_lines some ≡ before ++ (line ∷ outside_lines some) =
    append_assoc before (line ∷ []) (outside_lines some) in
    let place : number + 1 + length (flat_map piece_lines some)
    ≡ number + length (flat_map piece_lines (outside line ∷ some)) = omega arith in
    spectra_of-append (before ++ line ∷ []) (number + 1) some more ∙ cc
spectra_of-append before number (block first body last ∷ some) more =
    let place : number + 2 + length body + length (flat_map piece_lines some)
    ≡ number + length (flat_map piece_lines (block first body last ∷ some)) =
    omega (arith, length-append (body ++ last ∷ []) (flat_map piece_lines some), length-append body (last ∷ [])) in
    ap (λ spectra. spectrum_of before number body ∷ spectra)
    (spectra_of-append before (number + 2 + length body) some more
    ∙ ap (λ n. spectra_of before (number + 2 + length body) some ++ spectra_of (before ++ outside_lines some) n more)
    place)
