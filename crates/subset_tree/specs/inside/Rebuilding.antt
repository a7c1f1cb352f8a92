-- What reading a best list of edges out of a table goes through. Each colour that is not decided yet has a vertex that
-- owns it. A colour is left out by its owner, or the owner takes an edge into it, and its head then owns a part of the
-- owner's later colours.
use Rattle.std.specs.Prelude.{◌≡◌, ◌<◌, ◌+◌, ℕ, ℤ, ◌+ℤ◌, Bool, true, nat_eq, if◌then◌else◌, List, [], ◌∷◌, length}
use Rattle.colour_graph.specs.Graph.{Graph, colour_count, edge_at, head_colour}
use Rattle.tree_certificate.specs.ColourSet.{IsPartOf, place_of, without}
use Rattle.tree_certificate.specs.TableHolds.{number_of}

-- the colours that a vertex owns
abbrev pub owned : ℕ → List ℕ → List Bool
owned vertex [] = []
owned vertex (owner ∷ owners) = nat_eq owner vertex ∷ owned vertex owners

-- the owners after a part of the colours was given to a vertex
abbrev pub given : List Bool → ℕ → List ℕ → List ℕ
given part vertex [] = []
given [] vertex (owner ∷ owners) = owner ∷ owners
given (taken ∷ part) vertex (owner ∷ owners) = (if taken then vertex else owner) ∷ given part vertex owners

-- what an edge adds up to, if its head gets a part of the tail's colours
abbrev pub sum_with : Graph → List (List ℤ) → List Bool → ℕ → List Bool → ℤ
sum_with graph rows set edge part =
    ((edge_at graph edge).weight +ℤ number_of graph rows (edge_at graph edge).head part)
    +ℤ number_of graph rows (edge_at graph edge).tail (without set part)

-- A vertex reaches its number for a colour and some later ones by an edge into that colour, whose head gets a part of
-- the later ones.
pub record IsTaken (graph : Graph) (rows : List (List ℤ)) (vertex : ℕ) (set : List Bool) (edge : ℕ) (part : List Bool)
    : Type 0 where
  pub within : edge < length graph.edges
  pub tail : (edge_at graph edge).tail ≡ vertex
  pub head : head_colour graph edge + length set ≡ colour_count graph
  pub is_part : IsPartOf part set
  pub reached : sum_with graph rows set edge part ≡ number_of graph rows vertex (true ∷ set)

-- the same of the part that has a place
pub record IsChoice (graph : Graph) (rows : List (List ℤ)) (vertex : ℕ) (set : List Bool) (edge place : ℕ)
    : Type 0 where
  pub part : List Bool
  pub at_place : place_of part ≡ place
  pub taken : IsTaken graph rows vertex set edge part

-- A vertex reaches its number without a colour.
abbrev pub IsLeftOut : Graph → List (List ℤ) → ℕ → List Bool → Type 0
IsLeftOut graph rows vertex set = number_of graph rows vertex set ≡ number_of graph rows vertex (true ∷ set)

-- no part makes an edge reach its tail's number
abbrev pub IsMissed : Graph → List (List ℤ) → List Bool → ℕ → Type 0
IsMissed graph rows set edge =
    (part : List Bool) → IsPartOf part set
    → sum_with graph rows set edge part ≡ number_of graph rows (edge_at graph edge).tail (true ∷ set) → ⊥

-- An edge was taken into the colour of the first owner, and its head got a part of what that owner has beside.
pub record IsStep (graph : Graph) (rows : List (List ℤ)) (owner : ℕ) (before after : List ℕ) (edge : ℕ)
    : Type 0 where
  pub part : List Bool
  pub taken : IsTaken graph rows owner (owned owner before) edge part
  pub passed : after ≡ given part (edge_at graph edge).head before
