use Rattle.std.proofs.Common.{◌≡◌, ◌∙◌, ap, arith}
use Rattle.std.proofs.lemmas.List.{get_or_default}
use Rattle.colour_graph.proofs.Order.{edges-few}
use Rattle.colour_graph.specs.Graph.{edge_at}
use Rattle.tree_document.specs.declared.entry.TreeRow.{TreeRow}
use Rattle.tree_entry.specs.Rows.{head_of}
use Rattle.entry_checker.proofs.AreFirsts.{AreFirsts-noted, AreFirsts-passed}
use Rattle.entry_checker.proofs.rows.note_row.Goals as goal

pub overflow_cast-firsts : goal.overflow_cast-firsts
overflow_cast-firsts c = omega (arith, c.requires.few, edges-few _ c.is_graph.ensures)

pub overflow_add-firsts : goal.overflow_add-firsts
overflow_add-firsts c = omega (arith, c.requires.few, edges-few _ c.is_graph.ensures)

pub returns-then-firsts-head-eq0-clause-firsts : goal.returns-then-firsts-head-eq0-clause-firsts
returns-then-firsts-head-eq0-clause-firsts c =
    let graph = c.args.graph.now in
    let goes : c.from-head.result ≡ head_of graph c.args.rows.now c.args.place =
    c.from-head.ensures ∙ ap (λ edge. edge.head) c.edge_at.ensures.edge
    ∙ ap (λ (row : TreeRow). (edge_at graph row.edge).head)
    (get_or_default c.args.rows.now c.args.place c.index-rows-place.result _
    c.requires.in_rows) in
    AreFirsts-noted graph c.args.rows.now c.args.place c.from-head.result c.args.firsts.now goes
    (omega (arith, c.from-head.ensures, c.edge_at.ensures.is_edge.head, c.requires.vertices)) c.if-firsts-head-eq0.true
    c.requires.firsts

pub returns-else-firsts-head-eq0-clause-firsts : goal.returns-else-firsts-head-eq0-clause-firsts
returns-else-firsts-head-eq0-clause-firsts c =
    let graph = c.args.graph.now in
    let goes : c.from-head.result ≡ head_of graph c.args.rows.now c.args.place =
    c.from-head.ensures ∙ ap (λ edge. edge.head) c.edge_at.ensures.edge
    ∙ ap (λ (row : TreeRow). (edge_at graph row.edge).head)
    (get_or_default c.args.rows.now c.args.place c.index-rows-place.result _
    c.requires.in_rows) in
    AreFirsts-passed graph c.args.rows.now c.args.place c.from-head.result c.args.firsts.now goes
    c.if-firsts-head-eq0.false
    c.requires.firsts
