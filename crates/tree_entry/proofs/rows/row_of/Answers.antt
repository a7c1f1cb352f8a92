use Rattle.std.proofs.Common.{◌≡◌, ◌<◌, ◌-◌, [], ◌∙◌, ℕ, List, length, get_or, slice_index, ap, subst, arith, rules}
use Rattle.std.proofs.Common.{w32}
use Rattle.std.proofs.lemmas.Int.{ints, to_z-of_z}
use Rattle.std.proofs.lemmas.List.{get_or_default}
use Rattle.tree_entry.specs.Rows.{IsParent}
use Rattle.colour_graph.specs.Graph.{colour_of, edge_at, head_colour}
use Rattle.colour_graph.specs.declared.edge.Edge.{Edge}
use Rattle.element_table.specs.Formula.{loss_of}
use Rattle.loss_graph.specs.LossGraph.{LossGraphValue, formula_at}
use Rattle.tree_entry.proofs.AreRows.{IsRow-next}
use Rattle.tree_entry.proofs.rows.row_of.Goals as goal

-- the formula of a vertex as it was read
formula_read : (inside built : LossGraphValue) (formulas : List (List ℕ)) (place vertex : ℕ) (read : List ℕ)
    → inside ≡ built
    → formulas ≡ inside.formulas → read ≡ get_or formulas place read → place ≡ vertex → vertex < length inside.formulas
    → read ≡ formula_at built vertex
formula_read inside built formulas place vertex read same items is at within =
    is ∙ ap (λ (fs : List (List ℕ)). get_or fs place read) items ∙ ap (λ n. get_or inside.formulas n read) at
    ∙ get_or_default inside.formulas vertex read [] within ∙ ap (λ (b : LossGraphValue). formula_at b vertex) same

pub returns-clause-row : goal.returns-clause-row
returns-clause-row c =
    let built = c.args.built.now in
    let edge = edge_at built.graph c.args.edge in
    let read = c.edge_at-here.result in
    let graph_is = ap (λ built. built.graph) c.built.view_is in
    let here : read ≡ edge = c.edge_at-here.ensures.edge ∙ ap (λ graph. edge_at graph c.args.edge) graph_is in
    let long = c.built.invariant.formulas in
    let at_vertex = formula_read _ built c.items-formulas.result.now in
    let head : c.index-formulas-from.result ≡ formula_at built edge.head =
    at_vertex c.from.result read.head c.index-formulas-from.result c.built.view_is c.items-formulas.ensures.items
    c.index-formulas-from.is c.from.ensures (omega (arith, long, c.edge_at-here.ensures.is_edge.head))
    ∙ ap (λ (edge : Edge). formula_at built edge.head) here in
    let tail : c.index-formulas-from-2.result ≡ formula_at built edge.tail =
    at_vertex c.from-2.result read.tail c.index-formulas-from-2.result c.built.view_is c.items-formulas.ensures.items
    c.index-formulas-from-2.is c.from-2.ensures (omega (arith, long, c.edge_at-here.ensures.is_edge.tail))
    ∙ ap (λ (edge : Edge). formula_at built edge.tail) here in
    let colour : c.from-3.result ≡ head_colour built.graph c.args.edge =
    c.from-3.ensures ∙ c.colour_of-colour.ensures.colour ∙ ap (λ graph. colour_of graph read.head) graph_is
    ∙ ap (λ (edge : Edge). colour_of built.graph edge.head) here in
    let rows = c.args.rows.now in
    IsRow-next built rows _ (record {
      edge = c.requires.edge;
      rises = c.requires.rises;
      parent = subst (λ (edge : Edge). IsParent built.graph rows (length rows) edge.tail c.parent_of.result) here
          c.parent_of.ensures;
      peak = ap (λ (peaks : List ℕ). get_or peaks (c.from-3.result - 1) 0) (c.items.ensures
          ∙ ap (λ built. built.peaks) c.built.view_is)
          ∙ ap (λ n. slice_index built.peaks (n - 1)) colour;
      formula = head;
      loss = c.minus-loss.ensures ∙ ap (λ whole. loss_of whole c.index-formulas-from.result) tail
          ∙ ap (loss_of (formula_at built edge.tail)) head;
      weight = to_z-of_z w32 read.weight (search (rules, ints)) ∙ ap (λ (edge : Edge). edge.weight) here;
    })
