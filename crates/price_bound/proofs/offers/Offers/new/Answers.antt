use Rattle.std.proofs.Common.{◌≡◌, ◌≤◌, ◌+ℤ◌, pos, arith, ap, ◌∙◌, length, replicate, to_z, of_z, w32, w64}
use Rattle.std.proofs.lemmas.Int.{to_z-of_z}
use Rattle.std.proofs.lemmas.List.{length-replicate}
use Rattle.colour_graph.specs.Graph.{colour_count}
use Rattle.colour_graph.proofs.Scores.{SFits-score}
use Rattle.colour_graph.specs.Cap.{cap_of}
use Rattle.colour_graph.specs.Colourful.{total}
use Rattle.price_bound.proofs.Edges.{colours-few}
use Rattle.price_bound.proofs.Keeping.{AreNear-amounts, best-length, clear-replicate, kept_best}
use Rattle.price_bound.proofs.Numbers.{IsAmount-zero}
use Rattle.price_bound.proofs.Totals.{IsNear-score, IsSumNear-total, SFits-with, with_prices}
use Rattle.price_bound.proofs.offers.Offers.new.Goals as goal

pub sum-requires-clause-few : goal.sum-requires-clause-few
sum-requires-clause-few c =
    let colours = c.is_graph.ensures.colours in
    rw (c.deref.ensures.value, c.in_ok-prices.ensures.weights, best-length c.args.graph.now c.args.allowed.now)
    (omega (arith, colours-few c.args.graph.now colours, colours.few))

pub sum-requires-clause-near : goal.sum-requires-clause-near
sum-requires-clause-near c = rw c.deref.ensures.value
    (AreNear-amounts c.in_ok-prices.prices.items c.in_ok-prices.ensures.amounts)

pub overflow_add-total : goal.overflow_add-total
overflow_add-total c =
    let colours = c.is_graph.ensures.colours in
    let weights = c.in_ok-prices.prices.items in
    let long : length weights ≡ colour_count c.args.graph.now =
    rw c.in_ok-prices.ensures.weights (best-length c.args.graph.now c.args.allowed.now) in
    let few : length weights ≤ 4096 = omega (arith, colours-few c.args.graph.now colours, colours.few) in
    let sum = IsSumNear-total weights (AreNear-amounts weights c.in_ok-prices.ensures.amounts) in
    let sum_is : c.sum.result ≡ total weights = c.sum.ensures ∙ ap total c.deref.ensures.value in
    let root : c.from.result ≡ c.root_score.result = c.from.ensures
    ∙ to_z-of_z w32 c.root_score.result (SFits-score c.root_score.result c.root_score.ensures.near) in
    let score = IsNear-score c.root_score.result c.root_score.ensures.near in
    rw (root, sum_is, with_prices _ _ _ sum score few) (SFits-with _ _ _ sum score few)

pub returns : goal.returns
returns c =
    let graph = c.args.graph.now in
    let allowed = c.args.allowed.now in
    let colours = c.is_graph.ensures.colours in
    let weights = c.in_ok-prices.prices.items in
    let long : length weights ≡ colour_count graph = rw c.in_ok-prices.ensures.weights (best-length graph allowed) in
    let few : length weights ≤ 4096 = omega (arith, colours-few graph colours, colours.few) in
    let sum = IsSumNear-total weights (AreNear-amounts weights c.in_ok-prices.ensures.amounts) in
    let sum_is : c.sum.result ≡ total weights = c.sum.ensures ∙ ap total c.deref.ensures.value in
    let root : c.from.result ≡ c.root_score.result = c.from.ensures
    ∙ to_z-of_z w32 c.root_score.result (SFits-score c.root_score.result c.root_score.ensures.near) in
    let score = IsNear-score c.root_score.result c.root_score.ensures.near in
    let zeros : c.in_ok-vec.field-0.items ≡ replicate c.vertex_count-vertices.result (pos 0) =
    c.in_ok-vec.ensures.items_if_clones_equal (λ y is. is) in
    let prices : c.in_ok-vec-2.field-0.items ≡ replicate c.colour_count.result (pos 0) =
    c.in_ok-vec-2.ensures.items_if_clones_equal (λ y is. is) in
    let potentials : c.in_ok-vec-3.field-0.items ≡ replicate c.vertex_count-vertices.result (pos 0) =
    c.in_ok-vec-3.ensures.items_if_clones_equal (λ y is. is) in
    let gains : c.in_ok-gains.gains.items ≡ replicate c.vertex_count-vertices.result (pos 0) =
    c.in_ok-gains.ensures.items_if_clones_equal (λ y is. is) in
    let vertices = c.vertex_count-vertices.ensures in
    let total_is : to_z w64 (of_z w64 (to_z w64 (of_z w64 c.from.result) +ℤ to_z w64 (of_z w64 c.sum.result)))
    ≡ cap_of graph allowed =
    rw (root, sum_is, with_prices _ _ _ sum score few) (to_z-of_z w64 _ (SFits-with _ _ _ sum score few)
    ∙ ap (λ n. n +ℤ total weights) c.root_score.ensures.score
    ∙ ap (λ ws. graph.root_score +ℤ total ws) c.in_ok-prices.ensures.weights) in
    rw total_is (record {
      offers = record {
        kept = kept_best graph allowed c.in_ok-prices.prices c.in_ok-vec.field-0 c.vertex_count-vertices.result
            c.in_ok-prices.ensures.weights zeros vertices c.in_ok-prices.ensures.amounts;
        trial = record {
          fits = record {
            price_count = rw prices (length-replicate c.colour_count.result (pos 0) ∙ c.colour_count.ensures);
            potential_count = rw potentials (length-replicate c.vertex_count-vertices.result (pos 0) ∙ vertices);
          };
          prices = rw prices (λ place. rw (clear-replicate c.colour_count.result place) IsAmount-zero);
        };
        gain_count = rw gains (length-replicate c.vertex_count-vertices.result (pos 0) ∙ vertices);
        clear = rw gains (clear-replicate c.vertex_count-vertices.result);
      };
    })
