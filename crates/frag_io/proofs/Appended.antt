-- For `appended`: the bytes that several calls append are those of each call in turn.
use Rattle.std.proofs.Common.{◌≡◌, ◌+◌, ◌-◌, ◌++◌, ◌<◌, ◌≢◌, ℕ, List, [], ◌∷◌, Option, Some, None, length, take, drop}
use Rattle.std.proofs.Common.{min, refl}
use Rattle.std.proofs.Common.{sym, ap, ◌∙◌, append_assoc, arith, length-drop}
use Rattle.std.proofs.lemmas.List.{take_all}
use Rattle.std.proofs.Math.Seq.{take-add}
use Rattle.frag_io.specs.Desk.{appended}

-- two first parts of a text, one behind the other; the second is taken of all that follows the first
pub appended-more : (told : Option (List ℕ)) (n m : ℕ) (bytes : List ℕ)
    → appended (appended told (take n bytes)) (take m (take (length bytes - n) (drop n bytes)))
    ≡ appended told (take (n + m) bytes)
appended-more None n m bytes = refl
appended-more (Some told) n m bytes =
    let all : take (length bytes - n) (drop n bytes) ≡ drop n bytes =
    take_all _ _ (omega (arith, length-drop n bytes)) in
    let joined : take n bytes ++ take m (take (length bytes - n) (drop n bytes)) ≡ take (n + m) bytes =
    ap (λ (l : List ℕ). take n bytes ++ take m l) all ∙ sym (take-add n m bytes) in
    ap (λ (l : List ℕ). Some l) (append_assoc told (take n bytes) (take m (take (length bytes - n) (drop n bytes)))
    ∙ ap (λ (l : List ℕ). told ++ l) joined)

-- a write takes some of a piece that has some
pub writes_some : (bytes : List ℕ) (n piece : ℕ) → n ≡ min (length bytes) piece → 0 < piece → bytes ≢ [] → 0 < n
writes_some [] n piece is fits some = absurd (some refl)
writes_some (byte ∷ bytes) n piece is fits some = omega arith
