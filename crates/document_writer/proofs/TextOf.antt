-- The text of lines that are made of items.
use Rattle.std.proofs.Common.{◌≡◌, ◌<◌, ◌+◌, ◌∙◌, ◌++◌, ℕ, ℤ, pos, List, [], ◌∷◌, get_or, length, map, refl, sym, take}
use Rattle.std.proofs.Common.{ap}
use Rattle.std.specs.Prelude.{codes, decimal}
use Rattle.std.specs.Fmt.{signed_decimal}
use Rattle.std.specs.List.{flat_map}
use Rattle.std.proofs.lemmas.Grind.{flat_map-append}
use Rattle.std.proofs.lemmas.List.{append-nil, append_assoc, flat_map_more, length-map, take_more}
use Rattle.tree_document.specs.Line.{Line, table_line, table_row_line, line_text}
use Rattle.tree_document.specs.Document.{cert_lines, text_of}
use Rattle.tree_certificate.specs.Value.{a_table}

pub text_of-append : (first later : List Line) → text_of (first ++ later) ≡ text_of first ++ text_of later
text_of-append first later = flat_map-append _ first later

map_of_map : {A B C : Type 0} (f : B → C) (g : A → B) (items : List A)
    → map f (map g items) ≡ map (λ x. f (g x)) items
map_of_map f g [] = refl
map_of_map f g (x ∷ items) = ap (λ t. f (g x) ∷ t) (map_of_map f g items)

-- the texts of items, one item more
pub one_more : {X : Type 0} (f : X → List ℕ) (old now new : List ℕ) (items : List X) (place : ℕ) (item : X)
    → place < length items → item ≡ get_or items place item → now ≡ old ++ flat_map f (take place items)
    → new ≡ now ++ f item → new ≡ old ++ flat_map f (take (place + 1) items)
one_more f old now new items place item within is now_is new_is =
    new_is ∙ ap (λ t. t ++ f item) now_is ∙ flat_map_more f old (take place items) item
    ∙ ap (λ all. old ++ flat_map f all)
    (ap (λ x. take place items ++ x ∷ []) is ∙ sym (take_more items place item within))

pub text_of_map : {X : Type 0} (f : X → Line) (items : List X)
    → text_of (map f items) ≡ flat_map (λ x. line_text (f x) ++ codes "\n") items
text_of_map f [] = refl
text_of_map f (x ∷ items) = ap (λ t. (line_text (f x) ++ codes "\n") ++ t) (text_of_map f items)

-- a line, and lines made of items
pub head_and_items : {X : Type 0} (old head all : List ℕ) (line : Line) (f : X → Line) (items : List X)
    → head ≡ old ++ (line_text line ++ codes "\n") → all ≡ head ++ flat_map (λ x. line_text (f x) ++ codes "\n") items
    → all ≡ old ++ text_of (line ∷ map f items)
head_and_items old head all line f items head_is all_is =
    all_is ∙ (λ i. head_is i ++ sym (text_of_map f items) i)
    ∙ append_assoc old (line_text line ++ codes "\n") (text_of (map f items))

pub text_of_flat : {X : Type 0} (f : X → List Line) (items : List X)
    → text_of (flat_map f items) ≡ flat_map (λ x. text_of (f x)) items
text_of_flat f [] = refl
text_of_flat f (x ∷ items) =
    text_of-append (f x) (flat_map f items) ∙ ap (λ t. text_of (f x) ++ t) (text_of_flat f items)

-- a line, and the lines of items that have several
pub head_and_groups : {X : Type 0} (old head all : List ℕ) (line : Line) (f : X → List Line) (items : List X)
    → head ≡ old ++ (line_text line ++ codes "\n") → all ≡ head ++ flat_map (λ x. text_of (f x)) items
    → all ≡ old ++ text_of (line ∷ flat_map f items)
head_and_groups old head all line f items head_is all_is =
    all_is ∙ (λ i. head_is i ++ sym (text_of_flat f items) i)
    ∙ append_assoc old (line_text line ++ codes "\n") (text_of (flat_map f items))

-- a line, lines made of items, and lines behind them
pub head_items_and_last : {X : Type 0} (old head middle all : List ℕ) (line : Line) (f : X → Line) (items : List X)
    (last : List Line)
    → head ≡ old ++ (line_text line ++ codes "\n") → middle ≡ head ++ flat_map (λ x. line_text (f x) ++ codes "\n")
    items → all ≡ middle ++ text_of last
    → all ≡ old ++ text_of (line ∷ map f items ++ last)
head_items_and_last old head middle all line f items last head_is middle_is all_is =
    all_is ∙ ap (λ t. t ++ text_of last) (head_and_items old head middle line f items head_is middle_is)
    ∙ append_assoc old (text_of (line ∷ map f items)) (text_of last)
    ∙ ap (λ t. old ++ t) (sym (text_of-append (line ∷ map f items) last))

-- the lines of a table
pub table_lines : {X : Type 0} (numbers : X → List ℤ) (rows : List X)
    → table_line (length rows) ∷ map (λ row. table_row_line (numbers row)) rows
    ≡ cert_lines (a_table (map numbers rows))
table_lines numbers rows =
    λ i. table_line (sym (length-map rows numbers) i) ∷ sym (map_of_map table_row_line numbers rows) i

-- a line, and two groups of lines behind it
pub head_and_two : (old head middle all : List ℕ) (line : Line) (first second : List Line)
    → head ≡ old ++ text_of (line ∷ []) → middle ≡ head ++ text_of first → all ≡ middle ++ text_of second
    → all ≡ old ++ text_of (line ∷ (first ++ second))
head_and_two old head middle all line first second head_is middle_is all_is =
    all_is ∙ ap (λ t. t ++ text_of second) (middle_is ∙ ap (λ t. t ++ text_of first) head_is)
    ∙ regroup old (line_text line ++ codes "\n") (text_of first) (text_of second)
    ∙ ap (λ t. old ++ ((line_text line ++ codes "\n") ++ t)) (sym (text_of-append first second))
  where
    regroup : (a b c d : List ℕ) → ((a ++ (b ++ [])) ++ c) ++ d ≡ a ++ (b ++ (c ++ d))
    regroup a b c d = simp (append_assoc, append-nil)

-- natural numbers, as they stand in a list of signed ones
pub natural_texts : (numbers : List ℕ) → flat_map (λ number. codes " " ++ signed_decimal number)
    (map (λ number. pos number) numbers) ≡ flat_map (λ number. codes " " ++ decimal number) numbers
natural_texts [] = refl
natural_texts (number ∷ numbers) = ap (λ t. (codes " " ++ decimal number) ++ t) (natural_texts numbers)
