use Rattle.std.proofs.Common.{◌≡◌, ◌≤ℤ◌, ◌∙◌, ◌≤◌, ℤ, List, ℕ, length, slice_index, ap, refl, sym, subst, arith, rules}
use Rattle.std.proofs.Common.{w64}
use Rattle.std.proofs.lemmas.Int.{ints, to_z-of_z}
use Rattle.std.proofs.lemmas.List.{length-map}
use Rattle.tree_entry.specs.EntryIsRight.{EntryIsRight}
use Rattle.tree_entry.specs.Rows.{AreRows, edges_of}
use Rattle.colour_graph.specs.Bounded.{IsBest, IsBounded}
use Rattle.colour_graph.specs.Cap.{cap_of}
use Rattle.colour_graph.specs.Colourful.{score_of}
use Rattle.colour_graph.specs.EdgeSet.{all_edges}
use Rattle.colour_graph.specs.Graph.{Graph, greatest_graph}
use Rattle.colour_graph.specs.Maximal.{IsMaximal}
use Rattle.loss_graph.specs.LossGraph.{LossGraphValue}
use Rattle.tree_certificate.specs.TableHolds.{TableHolds}
use Rattle.profile.specs.Profile.{greatest_peaks}
use Rattle.tree_document.specs.Line.{greatest_rows}
use Rattle.tree_certificate.specs.Value.{a_table}
use Rattle.tree_document.specs.declared.entry.Mark.TheVariants.{Optimal}
use Rattle.tree_document.specs.declared.entry.TreeRow.{TreeRow}
use Rattle.solve_command.proofs.GoodTrees.{IsSmall, tree_is_good}
use Rattle.solve_command.proofs.entry.best_tree.Goals as goal

-- the edges of a best tree, and a table that holds for their score
record IsSolved (graph : Graph) (edges : List ℕ) (table : List (List ℤ)) : Type 0 where
  best : IsBest graph edges
  maximal : IsMaximal graph edges
  capped : score_of graph edges ≤ℤ cap_of graph (all_edges graph)
  holds : TableHolds graph table (score_of graph edges)

right_entry : (built : LossGraphValue) (graph : Graph) (edges : List ℕ) (rows : List TreeRow) (table : List (List ℤ))
    (score : ℤ) (budget : ℕ)
    → graph ≡ built.graph → AreRows built rows → edges_of rows ≡ edges → IsSolved graph edges table
    → score ≡ score_of graph edges
    → EntryIsRight built (record { score = score; upper = score; mark = Optimal; rows = rows; cert = a_table table })
    budget
right_entry built graph edges rows table score budget same right are solved total = record {
  rows = right;
  colourful = rw (← same, are) solved.best.colourful;
  maximal = rw (← same, are) solved.maximal;
  score = rw (← same, are) total;
  capped = rw (← same, total) solved.capped;
  mark = refl;
  gap = tt;
  cert = rw (← same, total) solved.holds;
}

-- no tree scores more than a best one
bounded_by : (graph : Graph) (built : LossGraphValue) (edges : List ℕ) (score : ℤ) → graph ≡ built.graph
    → IsBest graph edges
    → score ≡ score_of graph edges → IsBounded built.graph (all_edges built.graph) score
bounded_by graph built edges score same best total = rw (← same, total) best.greatest

pub returns-clause-entry : goal.returns-clause-entry
returns-clause-entry c budget =
    let graph = c.built.inside.graph in
    let edges = c.in_ok-edges.edges.items in
    let found = c.in_ok-edges.ensures in
    let edges_are : edges_of c.of.result ≡ edges = ap edges_of c.of.ensures ∙ c.in_ok-rows.ensures.edges
    ∙ c.deref-2.ensures.value in
    let total : c.tree_score-score.result ≡ score_of graph edges = c.tree_score-score.ensures
    ∙ ap (score_of graph) c.deref.ensures.value in
    right_entry c.args.built.now graph edges c.of.result _ _ budget (ap (λ built. built.graph) c.built.view_is)
    (rw c.of.ensures c.in_ok-rows.ensures.rows) edges_are
    (record { best = found.best; maximal = found.maximal; capped = found.capped; holds = found.holds })
    (to_z-of_z w64 c.tree_score-score.result (search (rules, ints)) ∙ total)

pub returns-clause-bounded : goal.returns-clause-bounded
returns-clause-bounded c =
    let graph = c.built.inside.graph in
    let edges = c.in_ok-edges.edges.items in
    let total : c.tree_score-score.result ≡ score_of graph edges = c.tree_score-score.ensures
    ∙ ap (score_of graph) c.deref.ensures.value in
    bounded_by graph c.args.built.now edges _ (ap (λ built. built.graph) c.built.view_is) c.in_ok-edges.ensures.best
    (to_z-of_z w64 c.tree_score-score.result (search (rules, ints)) ∙ total)

pub returns-clause-good : goal.returns-clause-good
returns-clause-good c =
    let built = c.args.built.now in
    let is_small : IsSmall built = subst IsSmall c.built.view_is (record {
      graph = c.is_graph.ensures;
      parts = c.built.invariant;
      vertices = subst (λ (built : LossGraphValue). length built.graph.colours ≤ greatest_graph)
          (sym c.built.view_is) c.requires.vertices;
      peaks = subst (λ (built : LossGraphValue). (colour : ℕ) → slice_index built.peaks colour ≤ greatest_peaks)
          (sym c.built.view_is) c.requires.peaks;
      formulas = c.are_formulas.ensures;
      losses = c.a_whole_is_its_part_and_its_loss.ensures.formula;
    }) in
    let edges_are = c.in_ok-rows.ensures.edges ∙ c.deref-2.ensures.value in
    let rows : length c.of.result ≤ greatest_rows =
    omega (
      arith,
      ap length c.of.ensures,
      ap length edges_are,
      length-map c.in_ok-rows.rows.items
          (λ (row : TreeRow). row.edge),
      c.in_ok-edges.ensures.few,
    ) in
    tree_is_good built _ _ 0 is_small (returns-clause-entry c 0) rows refl refl
    (rw (← c.built.view_is) c.in_ok-edges.ensures.holds.fits) c.rows-numbers.ensures.numbers
