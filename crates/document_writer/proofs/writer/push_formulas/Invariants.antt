use Rattle.std.proofs.Common.{◌≡◌, ◌++◌, take}
use Rattle.std.specs.Prelude.{codes}
use Rattle.std.specs.List.{flat_map}
use Rattle.tree_document.specs.Line as spec
use Rattle.document_writer.proofs.writer.push_formulas.Given as goal

abbrev pub invariant-loop-formula : goal.invariant-loop-formula
invariant-loop-formula l =
    l.text.items ≡ l.initial.text.items ++ flat_map (λ counts. spec.line_text (spec.formula_line counts) ++ codes "\n")
    (take l.formula-index l.formulas)
