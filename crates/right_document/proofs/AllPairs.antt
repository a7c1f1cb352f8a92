-- `AllPairs` over a map: what holds of every two in turn that are made of those of a list.
use Rattle.std.proofs.Common.{List, [], ◌∷◌, zero, suc, map, arith}
use Rattle.std.specs.List.{AllPairs}
use Rattle.std.proofs.lemmas.List.Elements.{All-map}

pub AllPairs-map : {X Y : Type 0} (R : Y → Y → Type 0) (f : X → Y) (xs : List X)
    → AllPairs (λ one later. R (f one) (f later)) xs
    → AllPairs R (map f xs)
AllPairs-map R f [] pairs i j none earlier within = absurd (omega arith)
AllPairs-map R f (x ∷ xs) pairs i zero none earlier within = absurd (omega arith)
AllPairs-map R f (x ∷ xs) pairs zero (suc j) none earlier within =
    All-map (R (f x)) f xs (λ k d below. pairs 0 (suc k) d (omega arith) (omega arith)) j none (omega arith)
AllPairs-map R f (x ∷ xs) pairs (suc i) (suc j) none earlier within =
    AllPairs-map R f xs (λ a b d before inside. pairs (suc a) (suc b) d (omega arith) (omega arith)) i j none
    (omega arith) (omega arith)
