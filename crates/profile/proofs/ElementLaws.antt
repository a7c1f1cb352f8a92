-- The integers at the symbols of the elements.
use Rattle.std.proofs.Common.{◌≡◌, ◌∙◌, ◌-◌, ◌<◌, ◌≤◌, ℕ, zero, suc, pos, List, [], ◌∷◌, length, map, get_or, replicate}
use Rattle.std.proofs.Common.{refl, arith}
use Rattle.std.proofs.lemmas.List.{get_or_append_left, get_or-append_right}
use Rattle.element_table.specs.Elements.{symbols}
use Rattle.toml.specs.Data.{Members}
use Rattle.profile.specs.Table.{element_numbers, number_at}

pub length-element_numbers : (entries : Members) → length (element_numbers entries) ≡ 16
unfolding element_numbers
length-element_numbers entries = refl

get_or-map : {A B : Type 0} (f : A → B) (xs : List A) (i : ℕ) (d : A) (e : B) → i < length xs
    → get_or (map f xs) i e ≡ f (get_or xs i d)
get_or-map f [] i d e within = absurd (omega arith)
get_or-map f (x ∷ xs) zero d e within = refl
get_or-map f (x ∷ xs) (suc i) d e within = get_or-map f xs i d e (omega arith)

-- at a place with an element
pub get_or-element_numbers : (entries : Members) (place : ℕ) → place < 11
    → get_or (element_numbers entries) place (pos 0) ≡ number_at entries (get_or symbols place []) (pos 0)
unfolding element_numbers
get_or-element_numbers entries place within =
    get_or_append_left (map (λ symbol. number_at entries symbol (pos 0)) symbols) (replicate 5 (pos 0))
    (pos 0) place within
    ∙ get_or-map (λ symbol. number_at entries symbol (pos 0)) symbols place [] (pos 0) within

pub noughts : (n i : ℕ) → get_or (replicate n (pos 0)) i (pos 0) ≡ pos 0
noughts zero i = refl
noughts (suc n) zero = refl
noughts (suc n) (suc i) = noughts n i

-- at a place without an element
pub get_or-element_numbers_past : (entries : Members) (place : ℕ) → 11 ≤ place
    → get_or (element_numbers entries) place (pos 0) ≡ pos 0
unfolding element_numbers
get_or-element_numbers_past entries place past =
    get_or-append_right (map (λ symbol. number_at entries symbol (pos 0)) symbols) (replicate 5 (pos 0)) 11 place
    (pos 0) refl past
    ∙ noughts 5 (place - 11)
