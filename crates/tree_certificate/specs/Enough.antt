-- What the number of a vertex for a set of colours beside one smaller colour is to be at least, over its numbers for
-- the sets without that colour, and what the edges from it into that colour gain by the set that their heads get.
use Rattle.std.specs.Prelude.{◌≡◌, ◌<◌, ◌↔◌, ℕ, ℤ, ◌+ℤ◌, ◌≤ℤ◌, Bool, List}
use Rattle.tree_certificate.specs.ColourSet.{IsPartOf, place_of, without}
use Rattle.tree_certificate.specs.Number.{number_in}

-- A number is the greater of one and the sum of two others.
abbrev pub IsRaised : ℤ → ℤ → ℤ → ℤ → Type 0
IsRaised more most gain rest =
    (candidate : ℤ) → (more ≤ℤ candidate) ↔ ((most ≤ℤ candidate) × ((gain +ℤ rest) ≤ℤ candidate))

-- A number is enough for a set beside one smaller colour: for that colour left out, and for each part of the set that a
-- head of that colour gets.
pub record IsEnough (own gains : List ℤ) (set : List Bool) (candidate : ℤ) : Type 0 where
  pub left_out : number_in own (place_of set) ≤ℤ candidate
  pub taken : (part : List Bool) → IsPartOf part set
      → (number_in gains (place_of part) +ℤ number_in own (place_of (without set part))) ≤ℤ candidate

-- the same where a head gets no other colours than those of a part of the set
pub record IsEnoughOf (own gains : List ℤ) (set useful : List Bool) (candidate : ℤ) : Type 0 where
  pub left_out : number_in own (place_of set) ≤ℤ candidate
  pub taken : (part : List Bool) → IsPartOf part useful
      → (number_in gains (place_of part) +ℤ number_in own (place_of (without set part))) ≤ℤ candidate

-- the same for the empty part and for the parts of it whose places are above one
pub record IsEnoughAbove (own gains : List ℤ) (set useful : List Bool) (place : ℕ) (candidate : ℤ) : Type 0 where
  pub left_out : number_in own (place_of set) ≤ℤ candidate
  pub empty : (number_in gains 0 +ℤ number_in own (place_of set)) ≤ℤ candidate
  pub taken : (part : List Bool) → IsPartOf part useful → place < place_of part
      → (number_in gains (place_of part) +ℤ number_in own (place_of (without set part))) ≤ℤ candidate

-- a part of a set that stands at a place
pub record PartAt (set : List Bool) (place : ℕ) : Type 0 where
  pub part : List Bool
  pub is_part : IsPartOf part set
  pub at_place : place_of part ≡ place

-- the part of a set that stands at a place, where a head needs no other colour of the set
pub record UsefulPart (own gains : List ℤ) (set : List Bool) (place : ℕ) : Type 0 where
  pub part : List Bool
  pub is_part : IsPartOf part set
  pub at_place : place_of part ≡ place
  pub enough : (candidate : ℤ) → IsEnoughOf own gains set part candidate → IsEnough own gains set candidate
