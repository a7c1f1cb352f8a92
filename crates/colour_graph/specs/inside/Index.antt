-- The index of a graph: for each colour, how many edges go to it or to smaller colours.
use Rattle.std.specs.Prelude.{◌≤◌, ◌<◌, ◌↔◌, ℕ, pos, List, length, slice_index, slice_index_or}
use Rattle.std.specs.List.{All}
use Rattle.colour_graph.specs.declared.edge.Edge.{Edge}

-- the colour of the head of the edge at a place
abbrev pub head_colour_at : List ℕ → List Edge → ℕ → ℕ
head_colour_at colours edges edge =
    slice_index colours (slice_index_or edges edge (record { tail = 0; head = 0; weight = pos 0 })).head

-- what edges have to be for an index: each head is a vertex, and the heads' colours never fall
pub record CanIndex (colours : List ℕ) (edges : List Edge) : Type 0 where
  pub heads : All (λ edge. edge.head < length colours) edges
  pub in_order : (first later : ℕ) → first ≤ later → later < length edges
      → head_colour_at colours edges first ≤ head_colour_at colours edges later

-- the edges to colours up to this one are those below a place
pub record EndsAt (colours : List ℕ) (edges : List Edge) (colour place : ℕ) : Type 0 where
  pub within : place ≤ length edges
  pub splits : (edge : ℕ) → edge < length edges → (edge < place) ↔ (head_colour_at colours edges edge ≤ colour)

-- a place for each colour
abbrev pub IsIndex : List ℕ → List Edge → List ℕ → Type 0
IsIndex colours edges ends = (colour : ℕ) → colour < length ends → EndsAt colours edges colour (slice_index ends colour)
