-- The first number of a vertex that is not high enough.
use Rattle.std.specs.Prelude.{◌≡◌, ◌<◌, ◌≤◌, ◌+◌, ◌*◌, ◌↔◌, ℕ, ℤ, ◌≤ℤ◌, ◌<ℤ◌, Bool, true, List, ◌∷◌, length}
use Rattle.std.specs.Prelude.{Option, Some, None}
use Rattle.colour_graph.specs.Graph.{Graph}
use Rattle.tree_certificate.specs.TableHolds.{IsHighAt, IsHighEnough, number_at, number_of, place_in, row_length}
use Rattle.certificate_checker.specs.Places.{IsNeeded}
use Rattle.tree_certificate.specs.ColourSet.{place_of}
use Rattle.tree_certificate.specs.Enough.{IsEnough}
use Rattle.tree_certificate.specs.Number.{number_in}
use Rattle.certificate_checker.specs.inside.Enough.{IsLeastEnough}
use Rattle.certificate_checker.specs.declared.low.Low.{Low}

-- Of the numbers of a row for one colour and a set of the colours behind it, by the place of the set: the first that is
-- not enough.
pub record IsLowSet (row own gains : List ℤ) (step count : ℕ) (low : Low) : Type 0 where
  pub set : ℕ
  pub counted : set < count
  pub place : low.place ≡ step * (1 + 2 * set)
  pub needed : IsLeastEnough own gains set low.needed
  pub is_low : number_in row low.place <ℤ low.needed
  pub before : (other : List Bool) → place_of other < set
      → IsEnough own gains other (number_in row (step * (1 + 2 * place_of other)))

abbrev pub IsFoundSet : List ℤ → List ℤ → List ℤ → ℕ → ℕ → Option Low → Type 0
IsFoundSet row own gains step count None = (set : List Bool) → place_of set < count
    → IsEnough own gains set (number_in row (step * (1 + 2 * place_of set)))
IsFoundSet row own gains step count (Some low) = IsLowSet row own gains step count low

-- the number of a vertex is enough for a set beside one smaller colour
abbrev pub IsSetHigh : Graph → List (List ℤ) → ℕ → List Bool → Type 0
IsSetHigh graph rows vertex set = IsHighEnough graph rows vertex set (number_of graph rows vertex (true ∷ set))

-- Of the numbers of a vertex for the sets of these sizes beside one smaller colour, by place: the first that is too
-- low.
pub record IsLowOfSizes (graph : Graph) (rows : List (List ℤ)) (vertex from past : ℕ) (low : Low) : Type 0 where
  pub set : List Bool
  pub not_smaller : from ≤ length set
  pub not_larger : length set < past
  pub place : low.place ≡ place_in graph vertex (true ∷ set)
  pub needed : (upper : ℤ) → (low.needed ≤ℤ upper) ↔ IsHighEnough graph rows vertex set upper
  pub is_low : number_at rows vertex low.place <ℤ low.needed
  pub before : (other : List Bool) → from ≤ length other → length other < past
      → place_in graph vertex (true ∷ other) < low.place → IsSetHigh graph rows vertex other

abbrev pub IsFoundOfSizes : Graph → List (List ℤ) → ℕ → ℕ → ℕ → Option Low → Type 0
IsFoundOfSizes graph rows vertex from past None =
    (set : List Bool) → from ≤ length set → length set < past → IsSetHigh graph rows vertex set
IsFoundOfSizes graph rows vertex from past (Some low) = IsLowOfSizes graph rows vertex from past low

-- the one of two that stands first
abbrev pub IsEarlier : Option Low → Option Low → Option Low → Type 0
IsEarlier None other result = result ≡ other
IsEarlier (Some low) None result = result ≡ Some low
IsEarlier (Some low) (Some other) result =
    (low.place ≤ other.place → result ≡ Some low) × (other.place < low.place → result ≡ Some other)

-- the first number of a vertex that is too low
pub record IsLowOfVertex (graph : Graph) (rows : List (List ℤ)) (vertex : ℕ) (low : Low) : Type 0 where
  pub in_row : low.place < row_length graph vertex
  pub before : (at : ℕ) → at < low.place → IsHighAt graph rows vertex at
  pub needed : IsNeeded graph rows vertex low.place low.needed
  pub is_low : number_at rows vertex low.place <ℤ low.needed

abbrev pub IsFoundOfVertex : Graph → List (List ℤ) → ℕ → Option Low → Type 0
IsFoundOfVertex graph rows vertex None =
    (place : ℕ) → place < row_length graph vertex → IsHighAt graph rows vertex place
IsFoundOfVertex graph rows vertex (Some low) = IsLowOfVertex graph rows vertex low

-- the numbers of all vertices before one are high enough
abbrev pub AreHighBefore : Graph → List (List ℤ) → ℕ → Type 0
AreHighBefore graph rows vertex = (earlier place : ℕ) → earlier < vertex → place < row_length graph earlier
    → IsHighAt graph rows earlier place

-- all numbers are high enough
abbrev pub AreHigh : Graph → List (List ℤ) → Type 0
AreHigh graph rows = AreHighBefore graph rows (length graph.colours)
