use Rattle.std.proofs.Common.{◌≡◌, ◌+◌, [], ◌∷◌, ◌++◌, ℤ, arith, ap, sym, ◌∙◌, map, to_z, of_z, w32, w64}
use Rattle.std.proofs.lemmas.Int.{to_z-of_z}
use Rattle.std.proofs.lemmas.List.FromFn.{map-range_with_len_more}
use Rattle.std.specs.List.{range_with_len}
use Rattle.colour_graph.proofs.Scores.{SFits-score}
use Rattle.price_bound.specs.inside.Exact.{IsAmount}
use Rattle.price_bound.specs.inside.Kept.{best_into}
use Rattle.price_bound.proofs.Edges.{colours-few}
use Rattle.price_bound.proofs.Numbers.{IsAmount-score, IsAmount-zero, each-push}
use Rattle.price_bound.proofs.starting.greatest_weights.Goals as goal

pub overflow_cast-before : goal.overflow_cast-before
overflow_cast-before c =
    let colours = c.is_graph.ensures.colours in
    omega (arith, colours-few c.args.graph.now colours, colours.few, c.colour_count-before-end.ensures)

pub overflow_add-before : goal.overflow_add-before
overflow_add-before c =
    let colours = c.is_graph.ensures.colours in
    omega (arith, colours-few c.args.graph.now colours, colours.few, c.colour_count-before-end.ensures)

pub loop-before-preserved : goal.loop-before-preserved
loop-before-preserved c =
    let best = best_into c.args.graph.now c.args.allowed.now in
    let before = c.loop-before.before in
    let weight_is : to_z w64 (of_z w64 c.from.result) ≡ c.greatest_into-weight.result =
    to_z-of_z w64 c.from.result (record { sfits = c.from.type_inv }) ∙ c.from.ensures
    ∙ to_z-of_z w32 c.greatest_into-weight.result
    (SFits-score c.greatest_into-weight.result c.greatest_into-weight.ensures.near) in
    let pushed : c.push.new.self.items ≡ c.loop-before.weights.items ++ c.greatest_into-weight.result ∷ [] =
    c.in_ok-push.ensures.items ∙ ap (λ (w : ℤ). c.loop-before.weights.items ++ w ∷ []) weight_is in
    rw pushed (record {
      so_far = ap (λ ws. ws ++ c.greatest_into-weight.result ∷ []) c.loop-before.invariant.so_far
          ∙ ap (λ (w : ℤ). map best (range_with_len 1 before) ++ w ∷ []) c.greatest_into-weight.ensures.greatest
          ∙ sym (map-range_with_len_more best 1 before (before + 1) (omega arith));
      amounts = each-push IsAmount c.loop-before.weights.items c.greatest_into-weight.result IsAmount-zero
          c.loop-before.invariant.amounts
          (IsAmount-score c.greatest_into-weight.result c.greatest_into-weight.ensures.near
          c.greatest_into-weight.ensures.not_below);
    })
