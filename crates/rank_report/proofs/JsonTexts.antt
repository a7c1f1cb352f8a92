-- Of the JSON values of a report: their texts, and that they hold no float.
use Rattle.std.proofs.Common.{◌≡◌, ◌++◌, ◌∙◌, ℕ, ℤ, pos, negsuc, List, [], ◌∷◌, true, false, ◌<◌, ◌+◌}
use Rattle.std.proofs.Common.{get_or, take, length, map, codes, sym, ap, refl}
use Rattle.std.proofs.lemmas.List.{append_assoc, map-append, map_more}
use Rattle.std.specs.Fmt.{signed_decimal}
use Rattle.serde_json.specs.Data.{Data}
use Rattle.serde_json.specs.Find.{of_integer, is_float}
use Rattle.serde_json.specs.View.{items_of, view}
use Rattle.serde_json.specs.declared.value.Value.{Value}
use Rattle.serde_json.specs.Written.{compact_text, items_text, number_text, has_float, items_have_float}
use Rattle.rank_report.specs.JsonReport.{with_commas}

pub integer_text : (z : ℤ) → number_text (of_integer z) ≡ signed_decimal z
integer_text (pos n) = refl
integer_text (negsuc n) = refl

pub integer_is_no_float : (z : ℤ) → is_float (of_integer z) ≡ false
integer_is_no_float (pos n) = refl
integer_is_no_float (negsuc n) = refl

-- the first item's text and those behind it
texts_from : {X : Type 0} (value : X → Data) (text : X → List ℕ) → ((x : X) → compact_text (value x) ≡ text x)
    → (x : X) (xs : List X)
    → compact_text (value x) ++ items_text true (items_of (map value xs)) ≡ with_commas (map text (x ∷ xs)) ++ codes "]"
texts_from value text same x [] = ap (λ t. t ++ codes "]") (same x)
texts_from value text same x (y ∷ ys) =
    ap (λ t. t ++ (44 ∷ (compact_text (value y) ++ items_text true (items_of (map value ys))))) (same x)
    ∙ ap (λ rest. text x ++ (44 ∷ rest)) (texts_from value text same y ys)
    ∙ sym (append_assoc (text x) (44 ∷ with_commas (map text (y ∷ ys))) (codes "]"))

-- the items of an array and the bracket behind them
pub array_text : {X : Type 0} (value : X → Data) (text : X → List ℕ) → ((x : X) → compact_text (value x) ≡ text x)
    → (xs : List X) → items_text false (items_of (map value xs)) ≡ with_commas (map text xs) ++ codes "]"
array_text value text same [] = refl
array_text value text same (x ∷ xs) = texts_from value text same x xs

pub array_has_no_float : {X : Type 0} (value : X → Data) → ((x : X) → has_float (value x) ≡ false)
    → (xs : List X) → items_have_float (items_of (map value xs)) ≡ false
array_has_no_float value none [] = refl
array_has_no_float value none (x ∷ xs) = rw (none x, array_has_no_float value none xs) refl

-- a loop's step: the values of the items so far, and now of one more
pub values_step : {X : Type 0} (value : X → Data) (xs : List X) (i : ℕ) (x : X) (old new : List Value) (v : Value)
    → i < length xs → x ≡ get_or xs i x → map view old ≡ map value (take i xs) → view v ≡ value x
    → new ≡ old ++ v ∷ [] → map view new ≡ map value (take (i + 1) xs)
values_step value xs i x old new v within item before made now =
    ap (λ vs. map view vs) now ∙ map-append view old (v ∷ []) ∙ ap (λ vs. vs ++ view v ∷ []) before
    ∙ ap (λ d. map value (take i xs) ++ d ∷ []) (made ∙ ap value item)
    ∙ sym (map_more value xs i x within)

-- the line of a value that is known
pub line_made : (value known : Data) (text line : List ℕ)
    → (has_float value ≡ false → text ≡ compact_text value ++ codes "\n")
    → value ≡ known → has_float known ≡ false → compact_text known ++ codes "\n" ≡ line → text ≡ line
line_made value known text line made is none same =
    made (ap has_float is ∙ none) ∙ ap (λ d. compact_text d ++ codes "\n") is ∙ same
