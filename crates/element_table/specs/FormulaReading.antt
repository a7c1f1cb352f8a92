-- The formula that a text writes, or the first reason why it writes none.
use Rattle.std.specs.Prelude.{ℕ, ◌-◌, Bool, true, false, not, ◌&&◌, ◌==◌, nat_le, List, [], ◌∷◌, ◌++◌, map, replicate}
use Rattle.std.specs.Prelude.{codes, sum_by, Result, Ok, Err, if◌then◌else◌}
use Rattle.std.specs.Char.{is_ascii_lowercase, is_ascii_uppercase}
use Rattle.std.specs.List.{before_first, list_all, list_any}
use Rattle.std.specs.Str.{all_ascii_digits, bytes_eq}
use Rattle.std.specs.Str.Parse.{digits_value}
use Rattle.element_table.specs.Elements.{symbols, element_count, greatest_count, formula_places}
use Rattle.element_table.specs.Formula.{empty_formula}
use Rattle.element_table.specs.declared.reading.FormulaFault.{FormulaFault}
use Rattle.element_table.specs.declared.reading.FormulaFault.TheVariants.{NoFormula, UnknownElement, CountTooLarge}

-- the pieces of a text: each capital letter with all that stands before the next one
abbrev pub pieces_of : List ℕ → List (List ℕ)
pieces_of [] = []
pieces_of (byte ∷ bytes) =
    if is_ascii_uppercase byte then (byte ∷ before_first is_ascii_uppercase bytes) ∷ pieces_of bytes
    else pieces_of bytes

-- the symbol of a piece: its capital letter, with the small letter that may stand after it
abbrev pub symbol_of : List ℕ → List ℕ
symbol_of (capital ∷ next ∷ rest) = if is_ascii_lowercase next then capital ∷ next ∷ [] else capital ∷ []
symbol_of piece = piece

-- the digits of a piece: all that stands after its symbol
abbrev pub digits_of : List ℕ → List ℕ
digits_of (capital ∷ next ∷ rest) = if is_ascii_lowercase next then rest else next ∷ rest
digits_of piece = []

-- a count: no digit at all, or digits of which the first is no nought
abbrev pub is_count : List ℕ → Bool
is_count [] = true
is_count (digit ∷ digits) = not (digit == 48) && all_ascii_digits (digit ∷ digits)

-- the number that the digits write, and one where there is none
abbrev pub count_of_digits : List ℕ → ℕ
count_of_digits [] = 1
count_of_digits (digit ∷ digits) = digits_value 10 (digit ∷ digits)

-- symbols, at least one, each with a count
abbrev pub is_formula_text : List ℕ → Bool
is_formula_text [] = false
is_formula_text (byte ∷ bytes) =
    is_ascii_uppercase byte && list_all (λ piece. is_count (digits_of piece)) (pieces_of (byte ∷ bytes))

-- the symbol of an element of the table
abbrev pub is_known : List ℕ → Bool
is_known symbol = list_any (λ known. bytes_eq known symbol) symbols

-- what a count of one symbol is to the element of another
abbrev pub share_of : List ℕ → List ℕ → ℕ → ℕ
share_of element symbol count = if bytes_eq element symbol then count else 0

-- how many atoms of an element the pieces have in all
abbrev pub total_of : List (List ℕ) → List ℕ → ℕ
total_of pieces element =
    sum_by (λ piece. share_of element (symbol_of piece) (count_of_digits (digits_of piece))) pieces

-- the same by places; a place without an element has none
abbrev pub totals_of : List (List ℕ) → List ℕ
totals_of pieces = map (λ element. total_of pieces element) symbols ++ replicate (formula_places - element_count) 0

-- the formula of pieces of the right form, or the first reason why they have none
abbrev pub formula_of_pieces : List (List ℕ) → Result (List ℕ) FormulaFault
formula_of_pieces pieces =
    if not (list_all (λ piece. is_known (symbol_of piece)) pieces) then Err UnknownElement
    else (if not (list_all (λ total. nat_le total greatest_count) (totals_of pieces)) then Err CountTooLarge
    else Ok (totals_of pieces))

-- The formula of a text. A dash writes the empty one.
unfoldable pub formula_of : List ℕ → Result (List ℕ) FormulaFault
formula_of text =
    if bytes_eq text (codes "-") then Ok empty_formula
    else (if not (is_formula_text text) then Err NoFormula else formula_of_pieces (pieces_of text))
