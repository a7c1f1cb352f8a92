use Rattle.std.proofs.Common.{◌≡◌, ◌<◌, ◌/◌, ◌+◌, ◌++◌, ◌∷◌, [], ℕ, subst, sym, ap, ◌∙◌, length, arith}
use Rattle.colour_graph.specs.Graph.{head_colour}
use Rattle.colour_graph.proofs.Counting.{goes_to-row}
use Rattle.branch_search.proofs.Halves.{HalfBefore, half-full, half-last, half-more, half-none, half-passed}
use Rattle.branch_search.proofs.splitting.half_of.Goals as goal
use Rattle.branch_search.proofs.splitting.half_of.Goals.{then-len-count+then-has+in_ok-push, else-len-count}
use Rattle.branch_search.proofs.splitting.half_of.Goals.{else-len-count-via-then-len-count+else-has}
use Rattle.branch_search.proofs.splitting.half_of.Goals.{else-len-count-via-else-len-count}

pub loop-place-init : goal.loop-place-init
loop-place-init c =
    rw c.new-part.ensures.items (half-none c.args.graph.now c.args.allowed.now c.args.colour
    (c.into_colour-count.result / 2) c.edges_into-first.result.0 c.edges_into-first.result.1 c.edges_into-first.ensures)

pub loop-place-preserved : goal.loop-place-preserved
loop-place-preserved c =
    let graph = c.args.graph.now in
    let allowed = c.args.allowed.now in
    let most = c.into_colour-count.result / 2 in
    let place = c.loop-place.place in
    let known = c.loop-place.invariant in
    let in_graph : place < length graph.edges =
    omega (arith, c.edges_into-first.ensures.within, c.loop-place-test.true) in
    let there : head_colour graph place ≡ c.args.colour =
    (c.edges_into-first.ensures.members place in_graph).0 (c.loop-place.auto.place, c.loop-place-test.true) in
    let row = goes_to-row graph allowed c.args.colour _ _ place c.edges_into-first.ensures c.loop-place.auto.place
    c.loop-place-test.true in
    elim c.if-len-count.branch [
      | then-len-count+then-has+in_ok-push w ↦
          let pushed : c.if-len-count.part.items ≡ c.loop-place.part.items ++ place ∷ [] =
          ap (λ v. v.items) w.part-is ∙ w.in_ok-push.ensures.items in
          let goes = row ∙ sym w.has.ensures ∙ w.if-has.true in
          subst (HalfBefore graph allowed c.args.colour most (place + 1)) (sym pushed)
          (half-more graph allowed c.args.colour most place c.loop-place.part.items known
          (omega (arith, w.if-len-count.true, c.len.ensures)) (record {
            within = in_graph;
            in_set = sym w.has.ensures ∙ w.if-has.true;
            there = there;
          }) goes)
      | else-len-count w ↦ rw w.part-is (elim w.else-len-count.branch [
        | else-len-count-via-then-len-count+else-has v ↦
            half-passed graph allowed c.args.colour most place c.loop-place.part.items known
            (row ∙ sym v.has.ensures ∙ v.if-has.false)
        | else-len-count-via-else-len-count v ↦
            half-full graph allowed c.args.colour most place c.loop-place.part.items known
            (omega (arith, v.if-len-count.false, c.len.ensures))
      ])
    ]

pub returns : goal.returns
returns c =
    let last : c.loop-place.place ≡ c.edges_into-first.result.1 =
    omega (arith, c.edges_into-first.ensures.in_order, c.loop-place.auto.place-end, c.loop-place-test.false) in
    half-last c.args.graph.now c.args.allowed.now c.args.colour (c.into_colour-count.result / 2)
    c.edges_into-first.result.0 c.edges_into-first.result.1 c.loop-place.part.items c.edges_into-first.ensures
    (ap (λ n. n / 2) c.into_colour-count.ensures) c.requires.open c.requires.colour
    (subst (λ (place : ℕ). HalfBefore c.args.graph.now c.args.allowed.now c.args.colour
    (c.into_colour-count.result / 2) place c.loop-place.part.items) last c.loop-place.invariant)
