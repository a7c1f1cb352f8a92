-- A formula with its mass.
use Rattle.std.specs.Prelude.{◌≡◌, ℕ, List, length}
use Rattle.element_table.specs.Elements.{formula_places}
use Rattle.element_table.specs.Formula.{mass_of}

pub record IsWeighed (counts : List ℕ) (mass : ℕ) : Type 0 where
  pub places : length counts ≡ formula_places
  pub weighed : mass ≡ mass_of counts
