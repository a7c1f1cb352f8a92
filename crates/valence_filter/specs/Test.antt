-- What a test of formulas is true to.
use Rattle.std.specs.Prelude.{◌≡◌, ℕ, Bool, List}
use Rattle.std.specs.Borrow.{Bor}
use Rattle.element_table.specs.Formula.{IsFormula}
use Rattle.element_table.specs.Rule.{Rule}
use Rattle.element_table.specs.Listed.{passes}

-- A test answers as rules do: it may be called on every formula, and answers whether all of the rules hold.
pub record AnswersAs (rules : List Rule) (pre : Bor (List ℕ) → Type 0) (post : Bor (List ℕ) → Bool → Type 0)
    : Type 0 where
  pub callable : (formula : Bor (List ℕ)) → IsFormula formula.now → pre formula
  pub right : (formula : Bor (List ℕ)) (answer : Bool) → IsFormula formula.now → post formula answer
      → answer ≡ passes rules formula.now
