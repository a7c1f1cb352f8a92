use Rattle.std.proofs.Common.{◌≡◌, ◌+◌, length, map}
use Rattle.std.specs.Prelude.{replicate}
use Rattle.tree_document.specs.Line as spec
use Rattle.line_fields.specs.Need.{need_formula}
use Rattle.line_reader.specs.Verdict.{Took}
use Rattle.document_reader.proofs.reader.read_formulas.Given as goal

abbrev pub invariant-loop-left : goal.invariant-loop-left
invariant-loop-left l = record {
  took : Took (replicate l.fn.count need_formula) (replicate l.left need_formula)
      (map (λ counts. spec.formula_line counts) l.items.items) l.fn.bytes l.rest;
  all : length l.items.items + l.left ≡ l.fn.count;
}

abbrev pub decreases-loop-left : goal.decreases-loop-left
decreases-loop-left l = l.left
