-- The element table: a column for each thing that is said of an element, and the greatest numbers of formulas.
use Rattle.std.specs.Prelude.{ℕ, List, [], ◌∷◌, Option, codes}
use Rattle.std.specs.List.{position}
use Rattle.std.specs.Str.{bytes_eq}

-- how many elements the table has
abbrev pub element_count : ℕ
element_count = 11

-- how many counts a formula has; the places past the table's elements are free
abbrev pub formula_places : ℕ
formula_places = 16

-- the greatest count of an element in a formula
abbrev pub greatest_count : ℕ
greatest_count = 1999

-- the mass of the heaviest atom, which is iodine, in units of 10^-7 Da
abbrev pub heaviest_atom : ℕ
heaviest_atom = 1269044719

-- no element forms more bonds
abbrev pub greatest_valence : ℕ
greatest_valence = 4

-- the symbols, in the order of the table
abbrev pub symbols : List (List ℕ)
symbols =
    codes "H" ∷ codes "C" ∷ codes "N" ∷ codes "O" ∷ codes "P" ∷ codes "S"
    ∷ codes "F" ∷ codes "Cl" ∷ codes "Br" ∷ codes "I" ∷ codes "Si" ∷ []

-- the mass of the lightest stable isotope of each element, in units of 10^-7 Da
abbrev pub masses : List ℕ
masses =
    10078250 ∷ 120000000 ∷ 140030740 ∷ 159949146 ∷ 309737620 ∷ 319720712
    ∷ 189984032 ∷ 349688527 ∷ 789183376 ∷ 1269044719 ∷ 279769265 ∷ []

-- how many bonds each element forms
abbrev pub valences : List ℕ
valences = 1 ∷ 4 ∷ 3 ∷ 2 ∷ 3 ∷ 2 ∷ 1 ∷ 1 ∷ 1 ∷ 1 ∷ 4 ∷ []

-- where a symbol stands in the table, if it does
abbrev pub place_of : List ℕ → Option ℕ
place_of symbol = position (λ known. bytes_eq known symbol) symbols
