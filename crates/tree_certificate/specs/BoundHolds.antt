-- What a bound has to hold, so that no colourful list of edges of a set scores more than a number: a leaf, which is
-- prices and potentials, does, or the set is split by the edges into a colour, of which a list has at most one, and
-- each side has such a bound.
use Rattle.std.specs.Prelude.{◌≤◌, ◌<◌, ◌+◌, ◌*◌, ℕ, ℤ, ◌≤ℤ◌, Bool, List, length, max}
use Rattle.std.specs.List.{All, AllPairs, Contains}
use Rattle.colour_graph.specs.EdgeSet.{edges_into, leaving, only}
use Rattle.colour_graph.specs.Graph.{Graph, colour_count}
use Rattle.tree_certificate.specs.PriceHolds.{PriceHolds, price_total}
use Rattle.tree_certificate.specs.BoundValue.{BoundValue, priced, split}

-- A colour and some of the edges of a set into it, in rising order, but not all of them.
pub record IsSplit (graph : Graph) (allowed : List Bool) (colour : ℕ) (part : List ℕ) : Type 0 where
  pub among : (1 ≤ colour) × (colour ≤ colour_count graph)
  pub rising : AllPairs (λ first later. first < later) part
  pub members : All (λ edge. Contains (edges_into graph allowed colour) edge) part
  pub some : 0 < length part
  pub proper : length part < length (edges_into graph allowed colour)

-- A bound holds on a set for a number: a leaf does, or the first side of a split without the other edges into its
-- colour, and the second without those that it names.
abbrev pub BoundHolds : Graph → List Bool → BoundValue → ℤ → Type 0
BoundHolds graph allowed (priced cert) upper = PriceHolds graph allowed cert × (price_total graph cert ≤ℤ upper)
BoundHolds graph allowed (split colour part first second) upper =
    IsSplit graph allowed colour part × BoundHolds graph (only graph allowed colour part) first upper
    × BoundHolds graph (leaving allowed part) second upper

-- how many splits a bound has
abbrev pub splits_of : BoundValue → ℕ
splits_of (priced cert) = 0
splits_of (split colour part first second) = 1 + splits_of first + splits_of second

-- how many nodes it has: its splits, and its leaves, of which there is one more
abbrev pub nodes_of : BoundValue → ℕ
nodes_of bound = 2 * splits_of bound + 1

-- how many splits stand above its deepest leaf
abbrev pub depth_of : BoundValue → ℕ
depth_of (priced cert) = 0
depth_of (split colour part first second) = 1 + max (depth_of first) (depth_of second)

-- A certificate has at most so many splits above a leaf.
abbrev pub greatest_depth : ℕ
greatest_depth = 1024

-- a set with at most one edge into each colour: nothing of it can be split
abbrev pub IsDecided : Graph → List Bool → Type 0
IsDecided graph allowed =
    (colour : ℕ) → 1 ≤ colour → colour ≤ colour_count graph → length (edges_into graph allowed colour) ≤ 1
