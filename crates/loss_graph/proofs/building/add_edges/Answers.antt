use Rattle.std.proofs.Common.{◌≡◌, ◌∙◌, [], ◌++◌, ap, append-nil, arith, length, sym, to_z, w32}
use Rattle.std.proofs.lemmas.Int.{to_z-of_z}
use Rattle.std.proofs.lemmas.List.{get_or_default}
use Rattle.std.specs.List.{flat_map, range_with_len}
use Rattle.loss_graph.specs.LossGraph.{edges_to, head_score_of}
use Rattle.loss_graph.specs.Vertices.{vertex_at}
use Rattle.loss_graph.specs.inside.Joining.{with_edges}
use Rattle.loss_graph.proofs.Heads.{edges_to-root, greatest-small, heads-more, heads_below-more, intense-at}
use Rattle.loss_graph.proofs.Heads.{intensity-le}
use Rattle.loss_graph.proofs.building.add_edges.Goals as goal

pub loop-head-init : goal.loop-head-init
loop-head-init c = record {
  joined =
      c.requires.none
      ∙ ap (λ graph. with_edges graph []) (sym c.requires.none)
      ∙ ap (λ edges. with_edges c.args.builder.now (edges ++ []))
      (sym (edges_to-root c.args.choice.now c.args.scores.now c.args.lists.now c.args.vertices.now c.requires.can));
  below = λ k d within. absurd (omega (arith, within, ap (λ graph. length graph.edges) c.requires.none));
}

pub head_score-base-requires : goal.head_score-base-requires
head_score-base-requires c =
    let is : c.index-vertices-head.result ≡ vertex_at c.args.vertices.now c.loop-head.head =
    c.index-vertices-head.is ∙ get_or_default c.args.vertices.now c.loop-head.head c.index-vertices-head.result
    (record { formula = []; peak = 0; colour = 0 }) c.loop-head-test.true in
    let part = c.requires.parts c.loop-head.head (omega (arith, c.loop-head.auto.head)) c.loop-head-test.true in
    let peak = (vertex_at c.args.vertices.now c.loop-head.head).peak in
    record {
      list = rw is part.list;
      measured = rw is (c.requires.lists.each peak (record { mz = 0; intensity = 0; formulas = [] }) part.list).mz;
      in_window = rw is part.in_window;
      intense = rw is (intense-at c.args.choice.now _ c.args.lists.now c.requires.lists peak part.peak part.list);
      weaker = rw (is, c.greatest_intensity-greatest.ensures)
          (intensity-le c.args.lists.now peak part.peak part.list);
      greatest = c.greatest_intensity-greatest.ensures;
      small = rw c.greatest_intensity-greatest.ensures
          (greatest-small c.args.choice.now _ c.args.lists.now c.requires.lists);
    }

pub loop-head-preserved : goal.loop-head-preserved
loop-head-preserved c =
    let is : c.index-vertices-head.result ≡ vertex_at c.args.vertices.now c.loop-head.head =
    c.index-vertices-head.is ∙ get_or_default c.args.vertices.now c.loop-head.head c.index-vertices-head.result
    (record { formula = []; peak = 0; colour = 0 }) c.loop-head-test.true in
    record {
      joined =
          heads-more c.args.choice.now c.args.scores.now c.args.lists.now c.args.vertices.now c.args.builder.now _
          c.loop-head.head c.loop-head.builder c.add_edges_to.new.builder c.requires.can
          c.loop-head-test.true c.loop-head.invariant.joined c.in_ok-add_edges_to.ensures
          (to_z-of_z w32 c.head_score-base.result (record { sfits = c.head_score-base.type_inv })
          ∙ c.head_score-base.ensures.score
          ∙ ap (head_score_of c.args.choice.now c.args.scores.now c.args.lists.now) is);
      below =
          heads_below-more c.args.scores.now c.args.vertices.now _ c.loop-head.head c.loop-head.builder
          c.add_edges_to.new.builder c.in_ok-add_edges_to.ensures c.loop-head.invariant.below;
    }

pub returns : goal.returns
returns c =
    let all : c.loop-head.head ≡ length c.args.vertices.now = omega (arith, c.requires.can.some) in
    c.loop-head.invariant.joined
    ∙ ap (λ head. with_edges c.args.builder.now
    (flat_map (edges_to c.args.choice.now c.args.scores.now c.args.lists.now c.args.vertices.now)
    (range_with_len 0 head))) all
