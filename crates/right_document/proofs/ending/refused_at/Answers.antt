use Rattle.std.proofs.Common.{subst, sym, ℕ, arith}
use Rattle.tree_document.specs.Document.{IsGoodLine}
use Rattle.tree_document.specs.Line.{refused_line}
use Rattle.right_document.proofs.GoodReasons.{refusal_is_good}
use Rattle.right_document.proofs.ending.refused_at.Goals as goal

pub returns-clause-good : goal.returns-clause-good
returns-clause-good c =
    subst (λ (kind : ℕ). IsGoodLine (refused_line c.args.line kind)) (sym c.number.ensures)
    (refusal_is_good c.args.line c.args.kind (omega (arith, c.ranges.line.fits)))
