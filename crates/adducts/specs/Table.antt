-- The adducts of the table, by their names.
use Rattle.std.specs.Prelude.{ℕ, ℤ, pos, neg_ℤ, Bool, true, false, List, [], ◌∷◌, ◌++◌, codes, replicate, Option}
use Rattle.std.specs.List.{find}
use Rattle.std.specs.Option.{option_map}
use Rattle.std.specs.Str.{bytes_eq}
use Rattle.element_table.specs.Formula.{empty_formula}
use Rattle.adducts.specs.Adduct.{AdductValue}

-- NH3
abbrev pub ammonia : List ℕ
ammonia = (3 ∷ 0 ∷ 1 ∷ []) ++ replicate 13 0

-- a row of the table: whether the charge is positive, the shift in units of 10^-7 Da, what is added to the molecule,
-- and the least number of twice the rings and double bonds
abbrev pub adduct_row : Bool → ℤ → List ℕ → ℤ → AdductValue
adduct_row plus shift extra bound = record { plus = plus; shift = shift; extra = extra; bound = bound }

-- the table, each row beside its name
abbrev pub adducts : List (List ℕ × AdductValue)
adducts =
    (codes "[M+H]+", adduct_row true (pos 10072764) empty_formula (neg_ℤ (pos 1)))
    ∷ (codes "[M+NH4]+", adduct_row true (pos 10072764) ammonia (neg_ℤ (pos 3)))
    ∷ (codes "[M+Na]+", adduct_row true (pos 229892207) empty_formula (neg_ℤ (pos 1)))
    ∷ (codes "[M+K]+", adduct_row true (pos 389631579) empty_formula (neg_ℤ (pos 1)))
    ∷ (codes "[M-H]-", adduct_row false (neg_ℤ (pos 10072764)) empty_formula (neg_ℤ (pos 1)))
    ∷ (codes "[M+Cl]-", adduct_row false (pos 349694013) empty_formula (neg_ℤ (pos 1)))
    ∷ []

-- the adduct of a name, where the table has the name
abbrev pub adduct_named : List ℕ → Option AdductValue
adduct_named name = option_map (λ known. known.1) (find (λ known. bytes_eq known.0 name) adducts)
