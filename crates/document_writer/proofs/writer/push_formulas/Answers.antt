use Rattle.std.proofs.Common.{◌++◌, arith}
use Rattle.std.specs.Prelude.{codes}
use Rattle.tree_document.specs.Line as spec
use Rattle.document_writer.proofs.TextOf.{one_more}
use Rattle.document_writer.proofs.writer.push_formulas.Goals as goal

pub loop-formula-preserved : goal.loop-formula-preserved
loop-formula-preserved c =
    one_more (λ counts. spec.line_text (spec.formula_line counts) ++ codes "\n") _ _ _ c.args.formulas.now
    c.loop-formula.formula-index
    c.formula-item.result (omega arith) c.formula-item.is c.loop-formula.invariant c.in_ok-push_formula_line.ensures
