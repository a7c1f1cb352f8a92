use Rattle.std.proofs.Common.{ℤ, List, ap, map, subst, sym, ◌∙◌}
use Rattle.colour_graph.specs.Colourful.{score_of}
use Rattle.colour_graph.specs.EdgeSet.{all_edges}
use Rattle.tree_certificate.specs.TableHolds.{TableHolds, table_total}
use Rattle.tree_certificate.specs.Value.{a_table}
use Rattle.subset_tree.proofs.Exactness.{in_all, table_holds}
use Rattle.subset_tree.proofs.solving.solve_small.Goals as goal

pub returns-clause-best : goal.returns-clause-best
returns-clause-best c = record {
  colourful = c.in_ok-edges.ensures.colourful;
  greatest =
      c.what_holds_bounds_every_tree.ensures c.args.graph.now (a_table _)
      (score_of c.args.graph.now c.in_ok-edges.edges.items) c.is_graph.ensures
      (table_holds c.args.graph.now _ c.in_ok-edges.edges.items c.in_ok-rows.ensures.exact
      (c.in_ok-edges.ensures.score ∙ ap (λ rs. table_total c.args.graph.now (map (λ row. row.items) rs))
      c.deref.ensures.value));
}

pub returns-clause-holds : goal.returns-clause-holds
returns-clause-holds c =
    subst (λ (rows : List (List ℤ)). TableHolds c.args.graph.now rows
    (score_of c.args.graph.now c.in_ok-edges.edges.items)) (sym (rw c.unwrap.ensures at c.new.ensures.rows))
    (table_holds c.args.graph.now _ c.in_ok-edges.edges.items c.in_ok-rows.ensures.exact
    (c.in_ok-edges.ensures.score ∙ ap (λ rs. table_total c.args.graph.now (map (λ row. row.items) rs))
    c.deref.ensures.value))

pub returns-clause-maximal : goal.returns-clause-maximal
returns-clause-maximal c =
    c.a_best_list_is_maximal.ensures c.args.graph.now c.in_ok-edges.edges.items
    c.is_graph.ensures
    (record {
      colourful = c.in_ok-edges.ensures.colourful;
      greatest =
          c.what_holds_bounds_every_tree.ensures c.args.graph.now (a_table _)
          (score_of c.args.graph.now c.in_ok-edges.edges.items) c.is_graph.ensures
          (table_holds c.args.graph.now _ c.in_ok-edges.edges.items c.in_ok-rows.ensures.exact
          (c.in_ok-edges.ensures.score ∙ ap (λ rs. table_total c.args.graph.now (map (λ row. row.items) rs))
          c.deref.ensures.value));
    })

pub returns-clause-capped : goal.returns-clause-capped
returns-clause-capped c =
    c.the_cap_bounds_every_tree.ensures c.args.graph.now
    (all_edges c.args.graph.now) c.is_graph.ensures c.in_ok-edges.edges.items
    c.in_ok-edges.ensures.colourful
    (in_all c.args.graph.now c.in_ok-edges.edges.items c.in_ok-edges.ensures.colourful)
