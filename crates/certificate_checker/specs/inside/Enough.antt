-- What a number of a table is to be at least, over the numbers of one vertex for the sets of the colours behind one,
-- and what the edges from it into that colour gain.
use Rattle.std.specs.Prelude.{◌≡◌, ◌<◌, ◌≤◌, ◌-◌, ◌/◌, ◌%◌, ◌↔◌, ℕ, ℤ, pos, negsuc, ◌+ℤ◌, ◌≤ℤ◌, Bool, List}
use Rattle.std.specs.Int.Bits.{bit_and}
use Rattle.colour_graph.specs.Graph.{Graph, edge_at, head_colour}
use Rattle.tree_certificate.specs.ColourSet.{place_of}
use Rattle.tree_certificate.specs.Enough.{IsEnough, UsefulPart}
use Rattle.tree_certificate.specs.Number.{number_in}
use Rattle.tree_certificate.specs.TableHolds.{number_at}

-- a number of a table
pub record IsNumber (number : ℤ) : Type 0 where
  pub not_below : negsuc 999999999999999 ≤ℤ number
  pub not_above : number ≤ℤ pos 1000000000000000

-- what an edge gains, or what stands for no edge: no sum of this with a number of a table is above another number
pub record IsGain (gain : ℤ) : Type 0 where
  pub not_below : negsuc 1999999999999999 ≤ℤ gain
  pub not_above : gain ≤ℤ pos 1000000000100000

abbrev pub AreNumbersBelow : List ℤ → ℕ → Type 0
AreNumbersBelow numbers count = (place : ℕ) → place < count → IsNumber (number_in numbers place)

abbrev pub AreGainsBelow : List ℤ → ℕ → Type 0
AreGainsBelow gains count = (place : ℕ) → place < count → IsGain (number_in gains place)

-- no edge gains anything
abbrev pub AreNoGains : List ℤ → ℕ → Type 0
AreNoGains gains count = (place : ℕ) → place < count → number_in gains place ≡ negsuc 1999999999999999

-- The set that stands at a place has a colour, given by the place of the set of it alone.
abbrev pub HasColour : ℕ → ℕ → Type 0
HasColour place colour = place / colour % 2 ≡ 1

-- A colour adds nothing to the set that stands at a place: from this set no more is gained than from the one without
-- it, whose number is no greater.
abbrev pub AddsNothingTo : List ℤ → List ℤ → ℕ → ℕ → Type 0
AddsNothingTo own gains place colour = (number_in gains place ≤ℤ number_in gains (place - colour))
    × (number_in own (place - colour) ≤ℤ number_in own place)

abbrev pub AddsNothingFrom : List ℤ → List ℤ → ℕ → ℕ → ℕ → Type 0
AddsNothingFrom own gains first past colour = (place : ℕ) → first ≤ place → place < past
    → AddsNothingTo own gains place colour

-- It adds nothing wherever it is in a set that stands before a place.
abbrev pub AddsNothing : List ℤ → List ℤ → ℕ → ℕ → Type 0
AddsNothing own gains count colour = (place : ℕ) → place < count → HasColour place colour
    → AddsNothingTo own gains place colour

-- The number for the set that stands at a place is no greater than the one without a colour.
abbrev pub RaisesNothingTo : List ℤ → ℕ → ℕ → Type 0
RaisesNothingTo numbers place colour = number_in numbers place ≤ℤ number_in numbers (place - colour)

abbrev pub RaisesNothingFrom : List ℤ → ℕ → ℕ → ℕ → Type 0
RaisesNothingFrom numbers first past colour = (place : ℕ) → first ≤ place → place < past
    → RaisesNothingTo numbers place colour

-- the same wherever the colour is in a set that stands before a place
abbrev pub RaisesNothing : List ℤ → ℕ → ℕ → Type 0
RaisesNothing numbers count colour = (place : ℕ) → place < count → HasColour place colour
    → RaisesNothingTo numbers place colour

-- No head needs a colour that is not of a set that stands at a place, whichever of so many sets is looked at.
abbrev pub AreUseful : List ℤ → List ℤ → ℕ → ℕ → Type 0
AreUseful own gains count useful = (set : List Bool) → place_of set < count
    → UsefulPart own gains set (bit_and (place_of set) useful)

-- a set that stands at a place, where what is enough for this one is enough for another
pub record TellingPart (own gains : List ℤ) (set : List Bool) (place : ℕ) : Type 0 where
  pub part : List Bool
  pub at_place : place_of part ≡ place
  pub enough : (candidate : ℤ) → IsEnough own gains part candidate → IsEnough own gains set candidate

-- No colour makes a difference that is not of a set that stands at a place, whichever of so many sets is looked at.
abbrev pub AreTelling : List ℤ → List ℤ → ℕ → ℕ → Type 0
AreTelling own gains count telling = (set : List Bool) → place_of set < count
    → TellingPart own gains set (bit_and (place_of set) telling)

-- A number is the least one that is enough for the sets that stand at a place.
abbrev pub IsLeastEnough : List ℤ → List ℤ → ℕ → ℤ → Type 0
IsLeastEnough own gains place needed = (set : List Bool) → place_of set ≡ place
    → (candidate : ℤ) → (needed ≤ℤ candidate) ↔ IsEnough own gains set candidate

-- A number is enough for the edges from a vertex into a colour that stand before one, where their heads get a set.
pub record IsEnoughBefore (graph : Graph) (rows : List (List ℤ)) (vertex colour past place : ℕ) (candidate : ℤ)
    : Type 0 where
  pub lowest : negsuc 1999999999999999 ≤ℤ candidate
  pub each : (edge : ℕ) → edge < past → (edge_at graph edge).tail ≡ vertex → head_colour graph edge ≡ colour
      → ((edge_at graph edge).weight +ℤ number_at rows (edge_at graph edge).head place) ≤ℤ candidate

-- What the edges from a vertex into a colour gain that stand before one, for so many sets.
pub record AreGainsBefore (graph : Graph) (rows : List (List ℤ)) (vertex colour past count : ℕ) (gains : List ℤ)
    : Type 0 where
  pub near : AreGainsBelow gains count
  pub exact : (place : ℕ) → place < count → (candidate : ℤ)
      → (number_in gains place ≤ℤ candidate) ↔ IsEnoughBefore graph rows vertex colour past place candidate
