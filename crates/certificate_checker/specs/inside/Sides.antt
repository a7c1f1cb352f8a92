-- The sides of a split, made of one set by taking edges out and putting them back.
use Rattle.std.specs.Prelude.{◌<◌, ℕ, Bool, ◌||◌, List, length, map}
use Rattle.std.specs.List.{All, AllPairs, Contains, range_with_len}
use Rattle.colour_graph.specs.EdgeSet.{edges_into, is_allowed, is_named}
use Rattle.colour_graph.specs.Graph.{Graph}

-- the set with the edges that a part names
abbrev pub adding : List Bool → List ℕ → List Bool
adding allowed part = map (λ edge. is_allowed allowed edge || is_named part edge) (range_with_len 0 (length allowed))

-- a part names edges of a set into a colour, in rising order
pub record AreRisingInto (graph : Graph) (allowed : List Bool) (colour : ℕ) (part : List ℕ) : Type 0 where
  pub rising : AllPairs (λ first later. first < later) part
  pub members : All (λ edge. Contains (edges_into graph allowed colour) edge) part
