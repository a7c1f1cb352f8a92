-- Of enumerate_from: the text of one more numbered item.
use Rattle.std.proofs.Common.{◌≡◌, ◌<◌, ◌+◌, ◌++◌, ◌∙◌, ℕ, List, [], ◌∷◌, length, get_or, take, sym, ap, arith}
use Rattle.std.specs.List.{enumerate_from, flat_map}
use Rattle.std.proofs.lemmas.List.{append-nil, append_assoc, length-take-le, take_more}

pub numbered_more : {X A : Type 0} (f : ℕ × X → List A) (n : ℕ) (xs : List X) (x : X)
    → flat_map f (enumerate_from n (xs ++ x ∷ [])) ≡ flat_map f (enumerate_from n xs) ++ f (n + length xs, x)
numbered_more f n [] x =
    let first : n ≡ n + 0 = omega arith in
    append-nil (f (n, x)) ∙ ap (λ number. f (number, x)) first
numbered_more f n (y ∷ ys) x =
    let number : n + 1 + length ys ≡ n + length (y ∷ ys) = omega arith in
    ap (λ rest. f (n, y) ++ rest) (numbered_more f (n + 1) ys x)
    ∙ sym (append_assoc (f (n, y)) (flat_map f (enumerate_from (n + 1) ys)) (f (n + 1 + length ys, x)))
    ∙ ap (λ number. (f (n, y) ++ flat_map f (enumerate_from (n + 1) ys)) ++ f (number, x)) number

-- a loop's step: what was appended for the items so far, and now for one more
pub numbered_step : {X A : Type 0} (f : ℕ × X → List A) (first : ℕ) (old : List A) (xs : List X) (i number : ℕ) (x : X)
    (text new : List A)
    → i < length xs → x ≡ get_or xs i x → number ≡ first + i
    → text ≡ old ++ flat_map f (enumerate_from first (take i xs)) → new ≡ text ++ f (number, x)
    → new ≡ old ++ flat_map f (enumerate_from first (take (i + 1) xs))
numbered_step f first old xs i number x text new within item place before now =
    let so_far = flat_map f (enumerate_from first (take i xs)) in
    let many : length (take i xs) ≡ i = length-take-le i xs (omega arith) in
    let count : number ≡ first + length (take i xs) = omega (arith, many) in
    let longer : take i xs ++ x ∷ [] ≡ take (i + 1) xs =
    ap (λ last. take i xs ++ last ∷ []) item ∙ sym (take_more xs i x within) in
    now ∙ ap (λ t. t ++ f (number, x)) before ∙ append_assoc old so_far (f (number, x))
    ∙ ap (λ n. old ++ (so_far ++ f (n, x))) count
    ∙ ap (λ more. old ++ more) (sym (numbered_more f first (take i xs) x))
    ∙ ap (λ items. old ++ flat_map f (enumerate_from first items)) longer
