-- What a bound without a table is, as a plain value.
use Rattle.std.specs.Prelude.{ℕ, ℤ, List}

-- the prices of the colours, from 1 on, and the potentials of the vertices
pub record PriceValue : Type 0 where
  pub prices : List ℤ
  pub potentials : List ℤ

-- what shows a bound without a table: a leaf, which is prices and potentials; or a split: a colour, some of the edges
-- into it, the bound of what is left where these alone go to the colour, and that of what is left without them
pub data BoundValue : Type 0 where
  priced : PriceValue → BoundValue
  split : ℕ → List ℕ → BoundValue → BoundValue → BoundValue
