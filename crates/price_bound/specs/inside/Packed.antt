-- Edges that are packed for the rounds of an improvement: where they may point to.
use Rattle.std.specs.Prelude.{◌<◌, ◌≤◌, ℕ, ℤ, pos, ◌≤ℤ◌, List, length}
use Rattle.std.specs.List.{All}
use Rattle.colour_graph.specs.Graph.{greatest_graph}
use Rattle.price_bound.specs.declared.packed.Group.{Group}
use Rattle.price_bound.specs.declared.packed.Packed.{Packed}
use Rattle.price_bound.specs.declared.packed.Scaled.{Scaled}
use Rattle.tree_certificate.specs.Number.{number_in}

-- an edge between two of so many vertices
pub record IsScaled (vertices : ℕ) (edge : Scaled) : Type 0 where
  pub tail : edge.tail < vertices
  pub head : edge.head < vertices

-- a group of so many edges
pub record IsGroup (edges : ℕ) (group : Group) : Type 0 where
  pub tail : group.tail < greatest_graph
  pub colour : group.colour < greatest_graph
  pub in_order : group.first ≤ group.past
  pub within : group.past ≤ edges

pub record IsPacked (packed : Packed) : Type 0 where
  pub edges : All (IsScaled greatest_graph) packed.edges.items
  pub groups : All (IsGroup (length packed.edges.items)) packed.groups.items

-- a scaled potential
pub record IsHeld (number : ℤ) : Type 0 where
  pub not_below : pos 0 ≤ℤ number
  pub not_above : number ≤ℤ pos 281474976710656

abbrev pub AreHeld : List ℤ → Type 0
AreHeld numbers = (place : ℕ) → IsHeld (number_in numbers place)
