-- For `charges_of`: the charges of a value, taken one after another.
use Rattle.std.proofs.Common.{◌≡◌, ◌<◌, ◌∙◌, ℕ, true, false, List, [], ◌∷◌, ◌++◌, Option, Some, None, cond, eqb, refl}
use Rattle.std.proofs.Common.{sym, ap, arith, codes, append_assoc}
use Rattle.std.proofs.lemmas.Bool.{ne_eqb}
use Rattle.std.specs.Option.{option_map, option_and_then}
use Rattle.std.specs.Str.{str_eq_ignore_ascii_case}
use Rattle.mgf_reader.specs.declared.spectrum.Charge.{Charge}
use Rattle.mgf_reader.specs.Bytes.{is_gap, fields_by}
use Rattle.mgf_reader.specs.Parameter.{charge_of, charges_of}

pub charges_of-none : (left : List ℕ) → fields_by is_gap left ≡ [] → charges_of left ≡ Some []
unfolding charges_of
charges_of-none left none = simp none

pub charges_of-and : (left item rest : List ℕ) → fields_by is_gap left ≡ item ∷ fields_by is_gap rest
    → str_eq_ignore_ascii_case item (codes "and") ≡ true → charges_of left ≡ charges_of rest
unfolding charges_of
charges_of-and left item rest fields passes = simp (fields, passes)

charges_of-item : (left item rest : List ℕ) → fields_by is_gap left ≡ item ∷ fields_by is_gap rest
    → str_eq_ignore_ascii_case item (codes "and") ≡ false
    → charges_of left ≡ option_and_then (λ charge. option_and_then
    (λ charges. Some (cond (eqb charge.value 0) charges (charge ∷ charges))) (charges_of rest)) (charge_of item)
unfolding charges_of
charges_of-item left item rest fields stays = simp (fields, stays)

pub charges_of-bad : (left item rest : List ℕ) → fields_by is_gap left ≡ item ∷ fields_by is_gap rest
    → str_eq_ignore_ascii_case item (codes "and") ≡ false → charge_of item ≡ None → charges_of left ≡ None
charges_of-bad left item rest fields stays bad = charges_of-item left item rest fields stays ∙ rw bad refl

charges_of-good : (left item rest : List ℕ) (charge : Charge) → fields_by is_gap left ≡ item ∷ fields_by is_gap rest
    → str_eq_ignore_ascii_case item (codes "and") ≡ false → charge_of item ≡ Some charge
    → charges_of left ≡ option_and_then (λ charges. Some (cond (eqb charge.value 0) charges (charge ∷ charges)))
    (charges_of rest)
charges_of-good left item rest charge fields stays good = charges_of-item left item rest fields stays ∙ rw good refl

pub charges_of-zero : (left item rest : List ℕ) (charge : Charge) → fields_by is_gap left ≡ item ∷ fields_by is_gap rest
    → str_eq_ignore_ascii_case item (codes "and") ≡ false → charge_of item ≡ Some charge → charge.value ≡ 0
    → charges_of left ≡ charges_of rest
charges_of-zero left item rest charge fields stays good zero = charges_of-good left item rest charge fields stays good
    ∙ rw zero (same (charges_of rest)) where
      same : (o : Option (List Charge)) → option_and_then (λ charges. Some charges) o ≡ o
      same None = refl
      same (Some charges) = refl

-- behind the charges found so far stand those of what is left
pub more_by_push : (found : List Charge) (charge : Charge) (o : Option (List Charge))
    → option_map (λ more. found ++ more) (option_and_then (λ charges. Some (charge ∷ charges)) o)
    ≡ option_map (λ more. (found ++ charge ∷ []) ++ more) o
more_by_push found charge None = refl
more_by_push found charge (Some charges) = ap Some (sym (append_assoc found (charge ∷ []) charges))

pub charges_of-counts : (left item rest : List ℕ) (found : List Charge) (charge : Charge)
    → fields_by is_gap left ≡ item ∷ fields_by is_gap rest → str_eq_ignore_ascii_case item (codes "and") ≡ false
    → charge_of item ≡ Some charge → eqb charge.value 0 ≡ false
    → option_map (λ more. found ++ more) (charges_of left)
    ≡ option_map (λ more. (found ++ charge ∷ []) ++ more) (charges_of rest)
charges_of-counts left item rest found charge fields stays good counts =
    ap (option_map (λ (more : List Charge). found ++ more)) (charges_of-good left item rest charge fields stays good)
    ∙ rw counts (more_by_push found charge (charges_of rest))

pub above_zero : (n : ℕ) → 0 < n → eqb n 0 ≡ false
above_zero n h = ne_eqb n 0 (λ is. omega (arith, is, h))
