use Rattle.std.proofs.Common.{◌≡◌, ◌∙◌, ap, arith, of_z, rules, sym, to_z, w64}
use Rattle.std.proofs.lemmas.Int.{to_z-of_z}
use Rattle.colour_graph.specs.Colourful.{score_of}
use Rattle.entry_checker.proofs.IsColourful.{colourful-few}
use Rattle.entry_checker.proofs.entry.wrong_score.Goals as goal

pub tree_score-score-requires-clause-few : goal.tree_score-score-requires-clause-few
tree_score-score-requires-clause-few c =
    let is_graph = rw (ap (λ built. built.graph) c.built.view_is) at c.is_graph.ensures in
    let few = colourful-few c.args.built.now.graph c.args.edges.now is_graph
    (rw c.requires.edges c.requires.before.before.colourful) in
    omega (arith, few, c.requires.vertices)

pub returns : goal.returns
returns c =
    let score_is : to_z w64 (of_z w64 c.tree.inside.score) ≡ c.tree.inside.score = search rules in
    let computed_is = to_z-of_z w64 c.tree_score-score.result (record { sfits = c.tree_score-score.type_inv }) in
    record {
      before = c.requires.before;
      score = sym (ap (λ tree. tree.score) c.tree.view_is) ∙ sym score_is ∙ ap (to_z w64) c.if-tree-score.false
          ∙ computed_is ∙ c.tree_score-score.ensures
          ∙ ap (λ built. score_of built.graph c.args.edges.now) c.built.view_is
          ∙ ap (score_of c.args.built.now.graph) c.requires.edges;
    }
