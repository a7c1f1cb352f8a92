-- A bound that grows by splits. Each part of it keeps the greatest total of its leaves.
use Rattle.std.specs.Prelude.{◌≡◌, ◌≤◌, ◌+◌, ◌*◌, ℕ, ℤ, pos, ◌≤ℤ◌, Bool, List, [], length}
use Rattle.std.specs.Int.{int_max}
use Rattle.colour_graph.specs.Cap.{cap_of}
use Rattle.colour_graph.specs.EdgeSet.{edges_into, leaving, only}
use Rattle.colour_graph.specs.Graph.{Graph}
use Rattle.tree_certificate.specs.BoundHolds.{IsDecided, IsSplit}
use Rattle.tree_certificate.specs.BoundValue.{BoundValue, PriceValue, priced, split}
use Rattle.tree_certificate.specs.PriceHolds.{PriceHolds, price_total}
use Rattle.branch_search.specs.declared.growing.Node.{Node, Leaf, Fork', Row_of-Node, end_of-Node, more_of-Node}

pub data Grown : Type 0 where
  leaf : PriceValue → ℤ → Grown
  fork : ℤ → ℕ → List ℕ → Grown → Grown → Grown

abbrev mutual
  pub grown_of : Node → Grown
  grown_of (Leaf cert total) = leaf cert total
  grown_of (Fork' total colour part left first right second) = fork total colour part (first_of first) (first_of second)

  first_of : {m : _} → Row_of-Node m → Grown
  first_of end_of-Node = leaf (record { prices = []; potentials = [] }) (pos 0)
  first_of (more_of-Node node rest) = grown_of node

abbrev pub total_in : Grown → ℤ
total_in (leaf cert total) = total
total_in (fork total colour part first second) = total

abbrev pub splits_in : Grown → ℕ
splits_in (leaf cert total) = 0
splits_in (fork total colour part first second) = 1 + splits_in first + splits_in second

-- the bound that it is
abbrev pub bound_in : Grown → BoundValue
bound_in (leaf cert total) = priced cert
bound_in (fork total colour part first second) = split colour part (bound_in first) (bound_in second)

-- a split names half of the edges of its set, rounded either way
pub record IsHalf (graph : Graph) (allowed : List Bool) (colour : ℕ) (part : List ℕ) : Type 0 where
  pub is_split : IsSplit graph allowed colour part
  pub first : 2 * length part ≤ length (edges_into graph allowed colour) + 1
  pub second : length (edges_into graph allowed colour) ≤ 2 * length part + 1

-- What is so of each leaf: it holds on its set, says no more than the set's cap, and can be split if it says more than
-- the score of the tree that was found.
pub record IsLeaf (graph : Graph) (allowed : List Bool) (score : ℤ) (cert : PriceValue) (total : ℤ) : Type 0 where
  pub holds : PriceHolds graph allowed cert
  pub is_total : total ≡ price_total graph cert
  pub capped : total ≤ℤ cap_of graph allowed
  pub decided : IsDecided graph allowed → total ≤ℤ score

-- What is so of a part of the search that is reached with a set: the cap of each split's set is at least a number.
abbrev pub Stands : Graph → List Bool → ℤ → ℤ → Grown → Type 0
Stands graph allowed score upper (leaf cert total) = IsLeaf graph allowed score cert total
Stands graph allowed score upper (fork total colour part first second) =
    IsHalf graph allowed colour part × (total ≡ int_max (total_in first) (total_in second))
    × (upper ≤ℤ cap_of graph allowed) × Stands graph (only graph allowed colour part) score upper first
    × Stands graph (leaving allowed part) score upper second
