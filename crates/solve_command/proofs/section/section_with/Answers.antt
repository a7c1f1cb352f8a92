use Rattle.std.proofs.Common.{arith, true, List, ℕ, ◌≡◌, subst}
use Rattle.tree_document.specs.Title.{are_bytes}
use Rattle.solve_command.proofs.GoodSections.{section_is_good}
use Rattle.solve_command.proofs.section.section_with.Goals as goal

pub returns-clause-good : goal.returns-clause-good
returns-clause-good c =
    section_is_good (record { line = c.args.line; title = c.args.title; body = c.args.body }) (omega arith)
    (subst (λ (title : List ℕ). are_bytes title ≡ true) c.items.ensures c.is_bytes.ensures) c.requires
