use Rattle.std.proofs.Common.{◌≡◌, ◌∙◌, List, ℕ, [], ◌∷◌, ap, length, map, subst, sym}
use Rattle.std.specs.Prelude.{replicate}
use Rattle.tree_document.specs.Line.{Line, formula_line, list_line}
use Rattle.line_fields.specs.Need.{need_formula, need_list}
use Rattle.line_reader.specs.Verdict.{Took}
use Rattle.document_reader.proofs.Sequence.{last_took}
use Rattle.document_reader.proofs.reader.read_list.Goals as goal

pub returns : goal.returns
returns c =
    let items : List (List ℕ) = c.in-Ok-read_formulas.both.0.items in
    let same : items ≡ c.of-formulas.result = sym c.of-formulas.ensures in
    let count : c.in-Ok.both.0.2 ≡ length c.of-formulas.result =
    sym c.in-Ok-read_formulas.ensures.count ∙ ap length same in
    subst (λ (lines : List Line). Took (need_list ∷ []) [] lines c.args.bytes.now c.in-Ok-read_formulas.both.1.now)
    (λ i. list_line c.in-Ok.both.0.0 c.in-Ok.both.0.1 (count i) ∷ map formula_line (same i))
    (last_took (need_list ∷ []) (replicate c.in-Ok.both.0.2 need_formula)
    (list_line c.in-Ok.both.0.0 c.in-Ok.both.0.1 c.in-Ok.both.0.2 ∷ []) (map formula_line items) c.args.bytes.now
    c.in-Ok.both.1.now c.in-Ok-read_formulas.both.1.now
    c.in-Ok.ensures c.in-Ok-read_formulas.ensures.taken)
