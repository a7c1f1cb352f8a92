-- Of score_of: the score of a list of edges, one edge after another.
use Rattle.std.proofs.Common.{◌≡◌, ◌+◌, ◌*◌, ◌<◌, ◌≤◌, ◌∙◌, ℕ, ℤ, pos, ◌+ℤ◌, ◌≤ℤ◌, List, [], ◌∷◌, ◌++◌, length, get_or}
use Rattle.std.proofs.Common.{take, ap, arith, rules, to_z, of_z, negsuc, w32, w64}
use Rattle.std.proofs.lemmas.Int.{ints, to_z-of_z}
use Rattle.std.proofs.lemmas.List.{map_more}
use Rattle.colour_graph.specs.Colourful.{total, weights_of, score_of}
use mir.Val.{SFits}
use Rattle.colour_graph.specs.Graph.{Graph, IsScore, edge_at}

last_added : (n : ℤ) → n +ℤ pos 0 ≡ pos 0 +ℤ n
last_added n = omega (arith, ints)

regrouped : (a b c : ℤ) → a +ℤ (b +ℤ c) ≡ (a +ℤ b) +ℤ c
regrouped a b c = omega (arith, ints)

total-push : (ns : List ℤ) (n : ℤ) → total (ns ++ n ∷ []) ≡ total ns +ℤ n
total-push [] n = last_added n
total-push (first ∷ ns) n = ap (λ rest. first +ℤ rest) (total-push ns n) ∙ regrouped first (total ns) n

-- the score of the first edges, and of one more
pub score_of-more : (graph : Graph) (edges : List ℕ) (count : ℕ) → count < length edges
    → score_of graph (take (count + 1) edges)
    ≡ score_of graph (take count edges) +ℤ (edge_at graph (get_or edges count 0)).weight
score_of-more graph edges count within =
    ap (λ weights. graph.root_score +ℤ total weights)
    (map_more (λ edge. (edge_at graph edge).weight) edges count 0 within)
    ∙ ap (λ sum. graph.root_score +ℤ sum)
    (total-push (weights_of graph (take count edges)) (edge_at graph (get_or edges count 0)).weight)
    ∙ regrouped graph.root_score (total (weights_of graph (take count edges)))
    (edge_at graph (get_or edges count 0)).weight

-- a score so far: the root's and so many weights
pub record IsNear (score : ℤ) (count : ℕ) : Type 0 where
  pub not_below : pos 0 ≤ℤ (score +ℤ pos (100000 * (count + 1)))
  pub not_above : score ≤ℤ pos (100000 * (count + 1))

pub IsNear-root : (score : ℤ) → IsScore score → IsNear score 0
IsNear-root score is =
    record { not_below = omega (arith, ints, is.not_below); not_above = omega (arith, ints, is.not_above) }

pub IsNear-more : (score weight : ℤ) (count : ℕ) → IsNear score count → IsScore weight
    → IsNear (score +ℤ weight) (count + 1)
IsNear-more score weight count near is = record {
  not_below = omega (arith, ints, near.not_below, is.not_below);
  not_above = omega (arith, ints, near.not_above, is.not_above);
}

pub SFits-near : (score : ℤ) (count : ℕ) → IsNear score count → count ≤ 100000 → SFits w64 score
SFits-near score count near few =
    let low : pos 0 ≤ℤ (score +ℤ pos 10000100000) = omega (arith, ints, near.not_below) in
    let high : score ≤ℤ pos 10000100000 = omega (arith, ints, near.not_above) in
    search rules

-- what the code adds up is the sum
pub added : (score weight out : ℤ) (count : ℕ) → IsNear score count → IsScore weight → out ≡ weight → SFits w64 out
    → count < 100000
    → to_z w64 (of_z w64 (score +ℤ to_z w64 (of_z w64 out))) ≡ score +ℤ weight
added score weight out count near is same fits few =
    ap (λ n. to_z w64 (of_z w64 (score +ℤ n))) (to_z-of_z w64 out fits ∙ same)
    ∙ to_z-of_z w64 (score +ℤ weight)
    (SFits-near (score +ℤ weight) (count + 1) (IsNear-more score weight count near is) (omega arith))

pub SFits-score : (score : ℤ) → IsScore score → SFits w32 score
SFits-score score is =
    let low : negsuc 99999 ≤ℤ score = is.not_below in
    let high : score ≤ℤ pos 100000 = is.not_above in
    search rules
