-- Of place_of: where a symbol stands, as the search from the first place on finds it.
use Rattle.std.proofs.Common.{◌≡◌, ◌<◌, ◌+◌, ◌∙◌, ℕ, Bool, true, false, cond, not, ◌||◌, List, [], ◌∷◌, Some, None}
use Rattle.std.proofs.Common.{length, get_or, ltb, refl, sym, ap, arith}
use Rattle.std.specs.List.{list_any, position_or_len}
use Rattle.std.specs.Option.{is_some}
use Rattle.std.specs.Str.{bytes_eq}
use Rattle.std.proofs.lemmas.Bool.{le-ltb, lt-ltb, ltb-false, ltb-true}
use Rattle.std.proofs.lemmas.List.Sums.{position_or_len_is}
use Rattle.element_table.specs.Elements.{place_of, symbols}
use Rattle.element_table.specs.FormulaReading.{is_known}

-- a list has an element that passes exactly where the first of them stands before its end
found : {X : Type 0} (p : X → Bool) (xs : List X) → ltb (position_or_len p xs) (length xs) ≡ list_any p xs
found p [] = refl
found p (x ∷ xs) = step (p x) (ltb (position_or_len p xs) (length xs)) refl (found p xs)
  where
    step : (here later : Bool) → ltb (position_or_len p xs) (length xs) ≡ later
        → ltb (position_or_len p xs) (length xs) ≡ list_any p xs
        → ltb (cond (not here) (1 + position_or_len p xs) 0) (length (x ∷ xs)) ≡ (here || list_any p xs)
    step true later is rest = lt-ltb 0 (length (x ∷ xs)) (omega arith)
    step false true is rest =
        let within = ltb-true _ _ is in
        lt-ltb (1 + position_or_len p xs) (length (x ∷ xs)) (omega arith) ∙ sym is ∙ rest
    step false false is rest =
        let past = ltb-false _ _ is in
        le-ltb (1 + position_or_len p xs) (length (x ∷ xs)) (omega arith) ∙ sym is ∙ rest

-- a symbol that has a place is known
pub is_some-place_of : (symbol : List ℕ) → is_some (place_of symbol) ≡ is_known symbol
is_some-place_of symbol = step (ltb (position_or_len test symbols) 11) ∙ found test symbols
  where
    test : List ℕ → Bool
    test = λ known. bytes_eq known symbol

    step : (b : Bool) → is_some (cond b (Some (position_or_len test symbols)) None) ≡ b
    step true = refl
    step false = refl

-- the first place whose element has the symbol
pub place_of-found : (symbol : List ℕ) (place : ℕ) → place < 11
    → ((before : ℕ) → before < place → bytes_eq (get_or symbols before []) symbol ≡ false)
    → bytes_eq (get_or symbols place []) symbol ≡ true → Some place ≡ place_of symbol
place_of-found symbol place within before here =
    let is = position_or_len_is (λ known. bytes_eq known symbol) symbols place [] (omega arith) before (λ _. here) in
    sym (ap (λ first. cond (ltb first 11) (Some first) None) is
    ∙ ap (λ b. cond b (Some place) None) (lt-ltb place 11 within))

-- no place
pub place_of-none : (symbol : List ℕ) → ((place : ℕ) → place < 11 → bytes_eq (get_or symbols place []) symbol ≡ false)
    → None ≡ place_of symbol
place_of-none symbol none =
    let is =
    position_or_len_is (λ known. bytes_eq known symbol) symbols 11 [] (omega arith) none
    (λ within. absurd (omega arith)) in
    sym (ap (λ first. cond (ltb first 11) (Some first) None) is)
