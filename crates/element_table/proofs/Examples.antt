-- Of all definitions: worked examples, computed.
use Rattle.std.specs.Prelude.{◌≡◌, ℕ, length, pos, negsuc, List, [], ◌∷◌, ◌++◌, true, false, codes, replicate, refl, Ok}
use Rattle.std.specs.Prelude.{Err}
use Rattle.std.specs.Prelude.{None, Result, Some, map, slice_set}
use Rattle.std.specs.declared.cmp.Ordering.TheVariants.{Equal, Greater, Less}
use Rattle.std.specs.Fmt.{digits}
use Rattle.element_table.specs.Elements.{place_of}
use Rattle.element_table.specs.Formula.{empty_formula, formula_cmp, is_proper_part, is_within, loss_of, mass_of}
use Rattle.element_table.specs.Formula.{union_of}
use Rattle.element_table.specs.FormulaReading.{formula_of}
use Rattle.element_table.specs.FormulaText.{formula_text}
use Rattle.element_table.specs.declared.reading.FormulaFault.{FormulaFault}
use Rattle.element_table.specs.declared.reading.FormulaFault.TheVariants.{NoFormula, UnknownElement, CountTooLarge}
use Rattle.element_table.specs.Listed.{listed_of, passes}
use Rattle.element_table.specs.Rule.{Rule, any, bond_coefficients, fragment_rule_of, neutral_rule_of, odd, rdbe2_of}
use Rattle.element_table.specs.Window.{Window, half_width_of}

-- a formula of hydrogen, carbon, nitrogen and oxygen
abbrev hcno : ℕ → ℕ → ℕ → ℕ → List ℕ
hcno h c n o = (h ∷ c ∷ n ∷ o ∷ []) ++ replicate 12 0

abbrev water : List ℕ
water = hcno 2 0 0 1

abbrev glucose : List ℕ
glucose = hcno 12 6 0 6

abbrev caffeine : List ℕ
caffeine = hcno 10 8 4 2

abbrev hydrogen_chloride : List ℕ
hydrogen_chloride = (1 ∷ []) ++ replicate 6 0 ++ (1 ∷ []) ++ replicate 8 0

abbrev metaphosphoric_acid : List ℕ
metaphosphoric_acid = (1 ∷ 0 ∷ 0 ∷ 3 ∷ 1 ∷ []) ++ replicate 11 0

mass_of-water : mass_of water ≡ 180105646
mass_of-water = refl

mass_of-glucose : mass_of glucose ≡ 1800633876
mass_of-glucose = refl

mass_of-caffeine : mass_of caffeine ≡ 1940803752
mass_of-caffeine = refl

mass_of-empty : mass_of empty_formula ≡ 0
mass_of-empty = refl

-- glucose less water is C6H10O5, of 1620528230 units
loss_of-water : loss_of glucose water ≡ hcno 10 6 0 5
loss_of-water = refl

union_of-water : union_of (hcno 10 6 0 5) water ≡ glucose
union_of-water = refl

mass_of-loss : mass_of (loss_of glucose water) ≡ 1620528230
mass_of-loss = refl

rdbe2_of-water : rdbe2_of water ≡ pos 0
rdbe2_of-water = refl

rdbe2_of-glucose : rdbe2_of glucose ≡ pos 2
rdbe2_of-glucose = refl

rdbe2_of-caffeine : rdbe2_of caffeine ≡ pos 12
rdbe2_of-caffeine = refl

formula_text-glucose : formula_text glucose ≡ codes "C6H12O6"
unfolding digits
formula_text-glucose = refl

formula_text-water : formula_text water ≡ codes "H2O"
unfolding digits
formula_text-water = refl

formula_text-hydrogen_chloride : formula_text hydrogen_chloride ≡ codes "HCl"
formula_text-hydrogen_chloride = refl

formula_text-empty : formula_text empty_formula ≡ codes "-"
formula_text-empty = refl

formula_text-methanol : formula_text (hcno 4 1 0 1) ≡ codes "CH4O"
unfolding digits
formula_text-methanol = refl

formula_text-metaphosphoric_acid : formula_text metaphosphoric_acid ≡ codes "HO3P"
unfolding digits
formula_text-metaphosphoric_acid = refl

formula_text-ammonia : formula_text (hcno 3 0 1 0) ≡ codes "H3N"
unfolding digits
formula_text-ammonia = refl

-- ten parts in a million of 181.0707
half_width-ten_ppm : half_width_of 10 10000 1810707000 ≡ 18107
half_width-ten_ppm = refl

-- the other bound is greater
half_width-units : half_width_of 1 10000 1810707000 ≡ 10000
half_width-units = refl

-- no half-width is greater than 0.2 Da
half_width-greatest : half_width_of 100 10000 90000000000 ≡ 2000000
half_width-greatest = refl

abbrev around : ℕ → ℕ → Window
around centre half = record { centre = pos centre; half = half }

list_of_water : listed_of (around 180105646 190) water [] ≡ water ∷ []
unfolding listed_of
list_of_water = refl

list_one_unit_away : listed_of (around 180105647 0) water [] ≡ []
unfolding listed_of
list_one_unit_away = refl

-- the ends of a window are in it
list_at_its_end : listed_of (around 180105746 100) water [] ≡ water ∷ []
unfolding listed_of
list_at_its_end = refl

list_past_its_end : listed_of (around 180105747 100) water [] ≡ []
unfolding listed_of
list_past_its_end = refl

-- all lists of two counts in formula order, in a wide window
list_in_order : listed_of (around 0 2000000000) (hcno 1 1 0 0) [] ≡ hcno 0 0 0 0 ∷ hcno 0 1 0 0 ∷ hcno 1 0 0 0
    ∷ hcno 1 1 0 0 ∷ []
unfolding listed_of
list_in_order = refl

CH4_passes : passes (fragment_rule_of (negsuc 0) ∷ []) (hcno 4 1 0 0) ≡ true
CH4_passes = refl

CH5_passes : passes (fragment_rule_of (negsuc 0) ∷ []) (hcno 5 1 0 0) ≡ true
CH5_passes = refl

CH6_fails : passes (fragment_rule_of (negsuc 0) ∷ []) (hcno 6 1 0 0) ≡ false
CH6_fails = refl

length-bond_coefficients : length bond_coefficients ≡ 16
length-bond_coefficients = refl

-- the heavier elements, by their simplest compounds
mass_of-phosphane : mass_of (3 ∷ 0 ∷ 0 ∷ 0 ∷ 1 ∷ []) ≡ 339972370
mass_of-phosphane = refl

mass_of-hydrogen_sulfide : mass_of (2 ∷ 0 ∷ 0 ∷ 0 ∷ 0 ∷ 1 ∷ []) ≡ 339877212
mass_of-hydrogen_sulfide = refl

-- a formula with one more place of some count
abbrev with : List ℕ → ℕ → ℕ → List ℕ
with counts place count = slice_set counts place count

abbrev heavy : List ℕ
heavy = with (with (with empty_formula 10 1) 9 2) 8 10

-- as many atoms of each element as there may be
abbrev full : List ℕ
full = replicate 11 1999 ++ replicate 5 0

formula_text-heavy : formula_text heavy ≡ codes "Br10I2Si"
unfolding digits
formula_text-heavy = refl

formula_text-one_element : formula_text (with empty_formula 6 1999) ≡ codes "F1999"
unfolding digits
formula_text-one_element = refl

formula_text-full : formula_text full ≡ codes "C1999H1999N1999O1999P1999S1999F1999Cl1999Br1999I1999Si1999"
unfolding digits
formula_text-full = refl

-- texts, and what is read of them
abbrev texts : List (List ℕ × Result (List ℕ) FormulaFault)
texts =
    (codes "-", Ok empty_formula)
    ∷ (codes "CH3OH", Ok (hcno 4 1 0 1))
    ∷ (codes "C6H12O6", Ok glucose)
    ∷ (codes "Cl2", Ok (with empty_formula 7 2))
    ∷ (codes "ClC", Ok (with (hcno 0 1 0 0) 7 1))
    ∷ (codes "C1999", Ok (hcno 0 1999 0 0))
    ∷ (codes "C1000C999", Ok (hcno 0 1999 0 0))
    ∷ (codes "OCO", Ok (hcno 0 1 0 2))
    ∷ (codes "SiIBr10I", Ok heavy)
    ∷ (codes "HPF6SN", Ok (with (with (with (hcno 1 0 1 0) 4 1) 5 1) 6 6))
    ∷ []

-- texts of another form, whatever their symbols and counts
abbrev formless : List (List ℕ)
formless =
    [] ∷ codes "C02" ∷ codes "C0" ∷ codes "Xx0" ∷ codes "c" ∷ codes "2C" ∷ codes "C-" ∷ codes "-C" ∷ codes "--"
    ∷ codes "C H" ∷ codes " C" ∷ codes "Cll" ∷ codes "Xxx2" ∷ codes "C2h" ∷ codes "C1/2" ∷ codes "C1:" ∷ codes "NaC01"
    ∷ []

-- texts with an unknown symbol, whatever their counts
abbrev of_unknown : List (List ℕ)
of_unknown =
    codes "Xx2" ∷ codes "Na" ∷ codes "CL" ∷ codes "C2000Na" ∷ codes "CXx2000C" ∷ codes "C2000Xx2" ∷ []

abbrev too_many : List (List ℕ)
too_many =
    codes "C2000" ∷ codes "C1000C1000" ∷ codes "C99999999999999999999999" ∷ codes "C65537HC65535" ∷ []

texts_are_read : map (λ row. formula_of row.0) texts ≡ map (λ row. row.1) texts
unfolding formula_of
texts_are_read = refl

formless_are_refused : map formula_of formless ≡ replicate 17 (Err NoFormula)
unfolding formula_of
formless_are_refused = refl

unknown_are_refused : map formula_of of_unknown ≡ replicate 6 (Err UnknownElement)
unfolding formula_of
unknown_are_refused = refl

too_many_are_refused : map formula_of too_many ≡ replicate 4 (Err CountTooLarge)
unfolding formula_of
too_many_are_refused = refl

-- symbols, and where they stand in the table
places : map place_of (codes "H" ∷ codes "Cl" ∷ codes "Si" ∷ []) ≡ Some 0 ∷ Some 7 ∷ Some 10 ∷ []
places = refl

no_places : map place_of ([] ∷ codes "h" ∷ codes "CL" ∷ codes "Na" ∷ codes "K" ∷ codes "Sii" ∷ codes "-" ∷ [])
    ≡ replicate 7 None
no_places = refl

-- twice the rings and double bonds of nothing, methane, CH5, CH6, benzene and H3Cl
rdbe2_of-others : map rdbe2_of
    (empty_formula ∷ hcno 4 1 0 0 ∷ hcno 5 1 0 0 ∷ hcno 6 1 0 0 ∷ hcno 6 6 0 0 ∷ with (hcno 3 0 0 0) 7 1 ∷ [])
    ≡ pos 2 ∷ pos 0 ∷ negsuc 0 ∷ negsuc 1 ∷ pos 8 ∷ negsuc 1 ∷ []
rdbe2_of-others = refl

-- water is a part of glucose, and caffeine none; a formula is no proper part of itself
parts : map (λ part. is_within part glucose) (water ∷ caffeine ∷ glucose ∷ []) ≡ true ∷ false ∷ true ∷ []
parts = refl

proper_parts : map (λ part. is_proper_part part glucose) (water ∷ caffeine ∷ glucose ∷ []) ≡ true ∷ false ∷ false ∷ []
proper_parts = refl

-- formula order begins with hydrogen: carbon monoxide comes before ethylene
formula_cmp-hydrogen_first : formula_cmp (hcno 0 1 0 1) (hcno 4 2 0 0) ≡ Less
formula_cmp-hydrogen_first = refl

formula_cmp-turned : formula_cmp (hcno 4 2 0 0) (hcno 0 1 0 1) ≡ Greater
formula_cmp-turned = refl

formula_cmp-same : formula_cmp (hcno 4 2 0 0) (hcno 4 2 0 0) ≡ Equal
formula_cmp-same = refl

-- an atom more, of odd or of even parity
abbrev odd_rule : Rule
odd_rule = record { coefficients = bond_coefficients; constant = pos 2; parity = odd }

even_electrons : map (λ counts. passes (neutral_rule_of ∷ []) counts)
    (glucose ∷ hcno 5 1 0 0 ∷ hcno 6 1 0 0 ∷ hcno 3 1 0 0 ∷ [])
    ≡ true ∷ false ∷ false ∷ false ∷ []
even_electrons = refl

odd_electrons : map (λ counts. passes (odd_rule ∷ []) counts) (hcno 3 1 0 0 ∷ glucose ∷ hcno 7 1 0 0 ∷ []) ≡ true
    ∷ false ∷ false ∷ []
odd_electrons = refl

-- the rule that there are six atoms of carbon at most, beside that of a candidate
abbrev six_carbons : Rule
six_carbons = record { coefficients = (pos 0 ∷ negsuc 0 ∷ []) ++ replicate 14 (pos 0); constant = pos 6; parity = any }

every_rule : map (λ counts. passes (neutral_rule_of ∷ six_carbons ∷ []) counts)
    (glucose ∷ hcno 14 7 0 7 ∷ hcno 13 6 0 6 ∷ [])
    ≡ true ∷ false ∷ false ∷ []
every_rule = refl

no_rule : passes [] (hcno 6 1 0 0) ≡ true
no_rule = refl
