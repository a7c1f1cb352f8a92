-- A list that is filled place by place.
use Rattle.std.proofs.Common.{◌≡◌, ◌<◌, ◌+◌, ◌-◌, ◌∙◌, ℕ, suc, List, ◌∷◌, ◌++◌, length, take, get_or, set, ap, arith}
use Rattle.std.proofs.Common.{sym, append_assoc}
use Rattle.std.proofs.Math.Seq.{set-append_seam}
use Rattle.std.proofs.lemmas.List.{length-take-le, take_more}
use Rattle.std.specs.Prelude.{replicate}

-- the next item of a list takes the place of a blank
pub fill-more : {X : Type 0} (items filled : List X) (blank item : X) (n i : ℕ) → i < n → i < length items
    → filled ≡ take i items ++ replicate (n - i) blank → item ≡ get_or items i blank
    → set filled i item ≡ take (i + 1) items ++ replicate (n - (i + 1)) blank
fill-more {X} items filled blank item n i within in_items so_far is =
    let rest : List X = replicate (n - (i + 1)) blank in
    let left : n - i ≡ suc (n - (i + 1)) = omega arith in
    let reached : length (take i items) ≡ i = length-take-le i items (omega arith) in
    let filled_is : filled ≡ take i items ++ blank ∷ rest = so_far ∙ ap (λ k. take i items ++ replicate k blank) left in
    let set_is : set filled i item ≡ take i items ++ item ∷ rest =
    ap (λ l. set l i item) filled_is ∙ ap (λ k. set (take i items ++ blank ∷ rest) k item) (sym reached)
    ∙ set-append_seam (take i items) blank rest item in
    let more = take_more items i blank in_items in
    rw (more, append_assoc, ← is) set_is
