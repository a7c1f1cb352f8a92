-- The one spelling of a formula.
use Rattle.std.specs.Prelude.{◌++◌, ℕ, List, [], ◌∷◌, slice_index, slice_index_or, codes, decimal, if◌then◌else◌, ◌==◌}
use Rattle.std.specs.List.{flat_map, list_all}
use Rattle.element_table.specs.Elements.{symbols}

-- how many bytes a spelling may have
abbrev pub greatest_formula_text : ℕ
greatest_formula_text = 96

-- the places in the order of print: carbon, hydrogen, and the others as in the table
abbrev pub printed_places : List ℕ
printed_places = 1 ∷ 0 ∷ 2 ∷ 3 ∷ 4 ∷ 5 ∷ 6 ∷ 7 ∷ 8 ∷ 9 ∷ 10 ∷ []

-- an element's part of the spelling: its symbol and its count, where a count of one is left out; nothing where there is
-- no atom of it
abbrev pub element_text : ℕ → ℕ → List ℕ
element_text place count =
    if count == 0 then [] else (slice_index_or symbols place [] ++ (if count == 1 then [] else decimal count))

-- the spelling of a formula; the empty one is a dash
abbrev pub formula_text : List ℕ → List ℕ
formula_text counts =
    if list_all (λ count. count == 0) counts then codes "-"
    else flat_map (λ place. element_text place (slice_index counts place)) printed_places
