use Rattle.std.proofs.Common.{◌≤◌, sym, subst, ℕ}
use Rattle.element_table.specs.Window.{greatest_half_width}
use Rattle.solve_command.proofs.GoodEntries.{error-small}
use Rattle.solve_command.proofs.entry.entry_of.Goals as goal

pub returns-clause-good : goal.returns-clause-good
returns-clause-good g c =
    c.in_ok-outcome.ensures.good c.args.candidate.now c.ion_error.result c.is_formula.ensures
    (subst (λ (error : ℕ). error ≤ greatest_half_width) (sym c.ion_error.ensures)
    (error-small _ _ c.args.lists.now c.requires.lists))
