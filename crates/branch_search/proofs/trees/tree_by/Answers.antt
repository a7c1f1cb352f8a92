use Rattle.std.proofs.Common.{◌≡◌, ◌≤◌, ◌+◌, Bool, true, false, List, Some, None, replicate, set, subst, ap}
use Rattle.std.proofs.Common.{◌∙◌, refl, w64, arith}
use Rattle.std.proofs.lemmas.Int.{to_z-of_z}
use Rattle.std.proofs.lemmas.List.{length_push}
use Rattle.colour_graph.specs.Colourful.{score_of}
use Rattle.colour_graph.specs.Graph.{colour_count}
use Rattle.price_bound.proofs.Edges.{colours-few}
use Rattle.branch_search.specs.inside.Choosing.{IsBestInto}
use Rattle.branch_search.proofs.TreeSteps.{AreMarks-none, AreMarks-taken, IsTreeTo-left, IsTreeTo-none, IsTreeTo-taken}
use Rattle.branch_search.proofs.Worth.{IsWorth-all, IsWorth-left, IsWorth-none, IsWorth-taken}
use Rattle.branch_search.proofs.trees.tree_by.Goals as goal

pub loop-colour-init : goal.loop-colour-init
loop-colour-init c =
    let graph = c.args.graph.now in
    let is = c.is_graph.ensures in
    let blank = c.in_ok-marks.ensures.items_if_clones_equal (λ y same. same)
    ∙ ap (λ n. replicate n false) c.vertex_count.ensures in
    rw c.new-edges.ensures.items (record {
      counted = omega arith;
      tree = IsTreeTo-none graph is;
      marks = AreMarks-none graph (set c.in_ok-marks.marks.items 0 true) is (ap (λ marks. set marks 0 true) blank);
      worth = IsWorth-none graph c.args.allowed.now c.args.cert.now is;
      few = omega arith;
    })

pub overflow_add-colour : goal.overflow_add-colour
overflow_add-colour c =
    let is = c.is_graph.ensures in
    let few = colours-few c.args.graph.now is.colours in
    omega (arith, few, is.colours.few, c.loop-colour-test.true, c.colour_count.ensures, c.from.ensures)

pub loop-colour-preserved-in-Continue-branch-2 : goal.loop-colour-preserved-in-Continue-branch-2
loop-colour-preserved-in-Continue-branch-2 c =
    let graph = c.args.graph.now in
    let allowed = c.args.allowed.now in
    let cert = c.args.cert.now in
    let before = c.loop-colour.colour in
    let edges = c.loop-colour.edges.items in
    let marks = c.loop-colour.marks.items in
    let edge = c.in-Some.edge in
    let is = c.is_graph.ensures in
    let known = c.loop-colour.invariant in
    let counted : before + 1 ≤ colour_count graph =
    omega (arith, c.loop-colour-test.true, c.colour_count.ensures, c.from.ensures) in
    let best : IsBestInto graph allowed cert marks (before + 1) (Some edge) =
    subst (λ (seen : List Bool). IsBestInto graph allowed cert seen (before + 1) (Some edge)) c.deref.ensures.value
    c.in-Some.ensures in
    let head = c.from-in-Some.ensures ∙ ap (λ e. e.head) c.edge_at.ensures.edge in
    rw c.in_ok-push.ensures.items (record {
      counted = counted;
      tree = IsTreeTo-taken graph allowed cert marks before (before + 1) edges edge is refl known.tree
          known.marks best.0;
      marks = AreMarks-taken graph edges edge marks (set marks c.from-in-Some.result true) is best.0.within known.marks
          (ap (λ h. set marks h true) head);
      worth = IsWorth-taken graph allowed cert marks before (before + 1) edges is refl counted known.tree known.marks
          edge best known.worth;
      few = omega (arith, length_push edges edge, known.few);
    })

pub loop-colour-preserved : goal.loop-colour-preserved
loop-colour-preserved c =
    let graph = c.args.graph.now in
    let allowed = c.args.allowed.now in
    let cert = c.args.cert.now in
    let before = c.loop-colour.colour in
    let edges = c.loop-colour.edges.items in
    let marks = c.loop-colour.marks.items in
    let known = c.loop-colour.invariant in
    let counted : before + 1 ≤ colour_count graph =
    omega (arith, c.loop-colour-test.true, c.colour_count.ensures, c.from.ensures) in
    let none : IsBestInto graph allowed cert marks (before + 1) None =
    subst (λ (seen : List Bool). IsBestInto graph allowed cert seen (before + 1) None) c.deref.ensures.value
    c.in_default.ensures in
    record {
      counted = counted;
      tree = IsTreeTo-left graph allowed cert marks before (before + 1) edges refl known.tree known.marks none;
      marks = known.marks;
      worth = IsWorth-left graph allowed cert marks before (before + 1) edges c.is_graph.ensures refl counted known.tree
          known.marks none known.worth;
      few = omega (arith, known.few);
    }

pub returns-clause-reached : goal.returns-clause-reached
returns-clause-reached c decided plain =
    let graph = c.args.graph.now in
    let cert = c.args.cert.now in
    let known = c.loop-colour.invariant in
    let all : c.loop-colour.colour ≡ colour_count graph =
    omega (arith, c.loop-colour-test.false, known.counted, c.colour_count.ensures, c.from.ensures) in
    let same = to_z-of_z w64 c.tree_score-score.result (record { sfits = c.tree_score-score.type_inv }) in
    rw same (IsWorth-all graph c.args.allowed.now cert c.loop-colour.colour c.loop-colour.edges.items
    c.tree_score-score.result all (c.tree_score-score.ensures ∙ ap (λ es. score_of graph es) c.deref-2.ensures.value)
    known.worth decided plain)
