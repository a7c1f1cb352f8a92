use Rattle.std.proofs.Common.{◌≡◌, ◌∙◌, ◌<◌, arith, to_z, w32, w64}
use Rattle.std.proofs.lemmas.Int.{to_z-of_z}
use Rattle.colour_graph.specs.Graph.{colour_count}
use Rattle.entry_checker.proofs.ColourCount.{fewer_colours}
use Rattle.colour_graph.proofs.Scores.{IsNear-more, added}
use Rattle.certificate_checker.proofs.CapOf.{cap-more}
use Rattle.certificate_checker.proofs.Fits.{SFits-score}
use Rattle.entry_checker.proofs.cap.cap_in.Goals as goal

pub overflow_cast-before : goal.overflow_cast-before
overflow_cast-before c =
    let low = fewer_colours c.args.graph.now c.is_graph.ensures.colours in
    omega (arith, low, c.colour_count-before-end.ensures, c.requires.vertices)

pub overflow_add-before : goal.overflow_add-before
overflow_add-before c =
    let low = fewer_colours c.args.graph.now c.is_graph.ensures.colours in
    omega (arith, low, c.colour_count-before-end.ensures, c.requires.vertices)

pub loop-before-preserved : goal.loop-before-preserved
loop-before-preserved c =
    let graph = c.args.graph.now in
    let low = fewer_colours graph c.is_graph.ensures.colours in
    let few : c.loop-before.before < 100000 =
    omega (arith, low, c.colour_count-before-end.ensures, c.requires.vertices) in
    let most = c.greatest_into.result in
    let out_is = c.from-cap-in-loop-before.ensures
    ∙ to_z-of_z w32 most (SFits-score most c.greatest_into.ensures.near) in
    let sum_is = added (to_z w64 c.loop-before.cap-bits) most c.from-cap-in-loop-before.result c.loop-before.before
    c.loop-before.invariant.near
    c.greatest_into.ensures.near out_is (record { sfits = c.from-cap-in-loop-before.type_inv }) few in
    record {
      so_far = cap-more graph c.args.allowed.now c.loop-before.before
          (to_z w64 c.loop-before.cap-bits) most _ c.loop-before.invariant.so_far
          c.greatest_into.ensures.greatest sum_is;
      near = rw sum_is (IsNear-more (to_z w64 c.loop-before.cap-bits) most c.loop-before.before
          c.loop-before.invariant.near
          c.greatest_into.ensures.near);
    }

pub returns : goal.returns
returns c =
    let ended : c.loop-before.before ≡ colour_count c.args.graph.now =
    omega (arith, c.colour_count-before-end.ensures) in
    rw ended at c.loop-before.invariant.so_far
