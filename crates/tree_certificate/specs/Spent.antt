-- When a bound that says more than a tree's score has used up its budget of splits, so that only more splits could
-- close the gap.
use Rattle.std.specs.Prelude.{◌≡◌, ◌+◌, ℕ, ℤ, ◌≤ℤ◌, ◌<ℤ◌, Bool, List, [], ◌∷◌, ◌++◌, slice_get, Some}
use Rattle.std.specs.List.{All}
use Rattle.colour_graph.specs.Cap.{cap_of}
use Rattle.colour_graph.specs.EdgeSet.{all_edges, leaving, only}
use Rattle.colour_graph.specs.Graph.{Graph}
use Rattle.tree_certificate.specs.BoundHolds.{IsDecided, nodes_of, splits_of}
use Rattle.tree_certificate.specs.BoundValue.{BoundValue, PriceValue, priced, split}
use Rattle.tree_certificate.specs.PriceHolds.{price_total}

-- The nodes of a bound are its leaves, which are prices and potentials, and its splits. They are numbered in order, a
-- split before its sides, the first side before the second, and each has the set that it is reached with.
pub record Leaf : Type 0 where
  pub node : ℕ
  pub allowed : List Bool
  pub cert : PriceValue

pub record SplitNode : Type 0 where
  pub node : ℕ
  pub allowed : List Bool

-- the leaves of a bound that is reached with a set, where it has this number
abbrev pub leaves_of : Graph → List Bool → BoundValue → ℕ → List Leaf
leaves_of graph allowed (priced cert) node = record { node = node; allowed = allowed; cert = cert } ∷ []
leaves_of graph allowed (split colour part first second) node =
    leaves_of graph (only graph allowed colour part) first (node + 1)
    ++ leaves_of graph (leaving allowed part) second (node + 1 + nodes_of first)

-- its splits
abbrev pub split_nodes_of : Graph → List Bool → BoundValue → ℕ → List SplitNode
split_nodes_of graph allowed (priced cert) node = []
split_nodes_of graph allowed (split colour part first second) node =
    record { node = node; allowed = allowed } ∷ split_nodes_of graph (only graph allowed colour part) first (node + 1)
    ++ split_nodes_of graph (leaving allowed part) second (node + 1 + nodes_of first)

-- a number is the greatest total of some leaves
pub record IsGreatestTotal (graph : Graph) (leaves : List Leaf) (greatest : ℤ) : Type 0 where
  pub most : All (λ leaf. price_total graph leaf.cert ≤ℤ greatest) leaves
  pub place : ℕ
  pub leaf : Leaf
  pub is_leaf : slice_get leaves place ≡ Some leaf
  pub reached : price_total graph leaf.cert ≡ greatest

-- a leaf says no more than the cap of its set
abbrev pub IsTight : Graph → Leaf → Type 0
IsTight graph leaf = price_total graph leaf.cert ≤ℤ cap_of graph leaf.allowed

-- a split is of a set whose cap is at least a number
abbrev pub IsUseful : Graph → ℤ → SplitNode → Type 0
IsUseful graph upper split_node = upper ≤ℤ cap_of graph split_node.allowed

-- a leaf that says more than a score can be split
abbrev pub CanGoOn : Graph → ℤ → Leaf → Type 0
CanGoOn graph score leaf = score <ℤ price_total graph leaf.cert → ¬ IsDecided graph leaf.allowed

-- A bound of all edges has exactly as many splits as the budget, its upper bound is the greatest total of its leaves,
-- and no split was wasted: each leaf is tight, each split is of a set whose cap is at least the upper bound, and each
-- leaf that says more than the score can be split.
pub record Spent (graph : Graph) (bound : BoundValue) (score upper : ℤ) (budget : ℕ) : Type 0 where
  pub splits : splits_of bound ≡ budget
  pub greatest : IsGreatestTotal graph (leaves_of graph (all_edges graph) bound 0) upper
  pub tight : All (IsTight graph) (leaves_of graph (all_edges graph) bound 0)
  pub useful : All (IsUseful graph upper) (split_nodes_of graph (all_edges graph) bound 0)
  pub go_on : All (CanGoOn graph score) (leaves_of graph (all_edges graph) bound 0)
