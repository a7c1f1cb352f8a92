-- A field ends at the next space or at the end of the line.
use Rattle.std.proofs.Common.{◌≡◌, ◌<◌, ◌∙◌, ℕ, Bool, true, false, not, cond, List, [], ◌∷◌, ◌++◌, length, take}
use Rattle.std.proofs.Common.{drop, get_or, Option, Some, None, refl, sym, ap, arith}
use Rattle.std.specs.List.{before_first, list_all, position_or_len, prefix_len}
use Rattle.std.proofs.lemmas.Bool.{and_parts, eq-eqb, eqb-true}
use Rattle.std.proofs.lemmas.List.Sums.{position_or_len_is}
use Rattle.std.proofs.lemmas.Option.{some_pair_parts}
use Rattle.std.proofs.lemmas.List.{take_at, drop_at, take-append-drop}
use Rattle.line_fields.specs.Field.{is_space, token_at}

-- the bytes of a field hold no space
abbrev pub NoSpace : List ℕ → Type 0
NoSpace token = list_all (λ byte. not (is_space byte)) token ≡ true

-- a rest is empty or begins with a space
abbrev pub IsRest : List ℕ → Type 0
IsRest [] = Unit {0}
IsRest (byte ∷ rest) = byte ≡ 32

-- no space stands at the first places
abbrev pub NoneBefore : List ℕ → ℕ → Type 0
NoneBefore bytes count = (place : ℕ) → place < count → is_space (get_or bytes place 0) ≡ false

-- so many bytes stand before the first space, if there is one
pub before_space : (bytes : List ℕ) (count : ℕ) → count < length bytes → NoneBefore bytes count
    → get_or bytes count 0 ≡ 32 → count ≡ position_or_len is_space bytes
before_space bytes count within none space =
    sym (position_or_len_is is_space bytes count 0 (omega arith) none (λ here. eq-eqb _ 32 space))

pub none_at_all : (bytes : List ℕ) (count : ℕ) → count ≡ length bytes → NoneBefore bytes count
    → count ≡ position_or_len is_space bytes
none_at_all bytes count ends none =
    sym (position_or_len_is is_space bytes count 0 (omega arith) none (λ within. absurd (omega arith)))

prefix_len-front : (test : ℕ → Bool) (xs ys : List ℕ) → list_all test xs ≡ true → prefix_len test ys ≡ 0
    → prefix_len test (xs ++ ys) ≡ length xs
prefix_len-front test [] ys all none = none
prefix_len-front test (x ∷ xs) ys all none =
    let parts = and_parts (test x) (list_all test xs) all in
    let later : prefix_len test (xs ++ ys) ≡ length xs = prefix_len-front test xs ys parts.1 none in
    rw parts.0 (omega arith)

at_rest : (rest : List ℕ) → IsRest rest → prefix_len (λ byte. not (is_space byte)) rest ≡ 0
at_rest [] is = refl
at_rest (byte ∷ rest) is = rw is refl

-- a field and its rest are taken apart
pub token_at-front : (token rest : List ℕ) → NoSpace token → IsRest rest
    → token_at (32 ∷ (token ++ rest)) ≡ Some (token, rest)
token_at-front token rest none is =
    let place : position_or_len is_space (token ++ rest) ≡ length token =
    prefix_len-front (λ byte. not (is_space byte)) token rest none (at_rest rest is) in
    let front : before_first is_space (token ++ rest) ≡ token =
    ap (λ n. take n (token ++ rest)) place ∙ take_at token rest (length token) refl in
    let behind : drop (position_or_len is_space (token ++ rest)) (token ++ rest) ≡ rest =
    ap (λ n. drop n (token ++ rest)) place ∙ drop_at token rest (length token) refl in
    λ i. Some (front i, behind i)

-- what is taken apart is a field and its rest
pub token_at-sound : (text token rest : List ℕ) → token_at text ≡ Some (token, rest) → text ≡ 32 ∷ (token ++ rest)
token_at-sound [] token rest is = (cc)
token_at-sound (byte ∷ bytes) token rest is = step (is_space byte) refl is
  where
    step : (b : Bool) → is_space byte ≡ b → cond {A = Option (List ℕ × List ℕ)} b
        (Some (before_first is_space bytes, drop (position_or_len is_space bytes) bytes)) None ≡ Some (token, rest)
        → byte ∷ bytes ≡ 32 ∷ (token ++ rest)
    step false other taken = (cc)
    step true space taken =
        let first : byte ≡ 32 = eqb-true byte 32 space in
        let parts = some_pair_parts (before_first is_space bytes) token (drop (position_or_len is_space bytes) bytes)
        rest taken in
        let front : before_first is_space bytes ≡ token = parts.0 in
        let behind : drop (position_or_len is_space bytes) bytes ≡ rest = parts.1 in
        let whole : before_first is_space bytes ++ drop (position_or_len is_space bytes) bytes ≡ bytes =
        take-append-drop (position_or_len is_space bytes) bytes in
        let both : bytes ≡ token ++ rest = sym whole ∙ (λ i. front i ++ behind i) in
        λ i. first i ∷ both i
