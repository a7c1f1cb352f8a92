use Rattle.std.proofs.Common.{◌≡◌, ◌∙◌, ◌&&◌, true, length, map, pos, leb, arith, sym}
use Rattle.std.specs.List.{list_all}
use Rattle.std.proofs.lemmas.Bool.{le-leb}
use Rattle.std.proofs.lemmas.List.{length-map}
use Rattle.tree_certificate.specs.Number.{is_near}
use Rattle.std.proofs.lemmas.List.Folds.{list_all-map}
use Rattle.tree_document.specs.Line.{greatest_edge, greatest_edges}
use Rattle.line_reader.proofs.bound_lines.are_edges.Goals as goal

pub returns-then-edges-le-GREATEST_EDGES-clause-exactly : goal.returns-then-edges-le-GREATEST_EDGES-clause-exactly
returns-then-edges-le-GREATEST_EDGES-clause-exactly c =
    let numbers = map (λ edge. pos edge) c.args.edges.now in
    let few : leb (length numbers) greatest_edges ≡ true =
    le-leb (length numbers) greatest_edges (omega (arith, length-map c.args.edges.now (λ edge. pos edge))) in
    c.are_within.ensures.test ∙ sym (list_all-map (is_near greatest_edge) (λ edge. pos edge) c.args.edges.now)
    ∙ (λ i. sym few i && list_all (is_near greatest_edge) numbers)
