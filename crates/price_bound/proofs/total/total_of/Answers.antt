use Rattle.std.proofs.Common.{◌≡◌, ◌+ℤ◌, arith, ap, ◌∙◌, w32, w64}
use Rattle.std.proofs.lemmas.Int.{to_z-of_z}
use Rattle.colour_graph.specs.Colourful.{total}
use Rattle.colour_graph.proofs.Scores.{SFits-score}
use Rattle.tree_certificate.specs.Number.{number_in}
use Rattle.price_bound.proofs.Totals.{few_prices, IsNear-at, IsSumNear-total, SFits-whole, SFits-with, with_prices}
use Rattle.price_bound.proofs.Totals.{with_root}
use Rattle.price_bound.proofs.total.total_of.Goals as goal

pub sum-requires-clause-few : goal.sum-requires-clause-few
sum-requires-clause-few c =
    let few = few_prices c.args.graph.now c.args.prices.now c.is_graph.ensures.colours c.requires.prices in
    omega (arith, few)

pub overflow_add-result : goal.overflow_add-result
overflow_add-result c =
    let few = few_prices c.args.graph.now c.args.prices.now c.is_graph.ensures.colours c.requires.prices in
    let first = IsNear-at c.args.potentials.now 0 c.requires.potentials_near
    (omega (arith, c.requires.potentials, c.is_graph.ensures.colours.some)) in
    let sum = IsSumNear-total c.args.prices.now c.requires.prices_near in
    rw (c.sum.ensures, with_prices _ _ _ sum first few) (SFits-with _ _ _ sum first few)

pub overflow_add-result-2 : goal.overflow_add-result-2
overflow_add-result-2 c =
    let few = few_prices c.args.graph.now c.args.prices.now c.is_graph.ensures.colours c.requires.prices in
    let first = IsNear-at c.args.potentials.now 0 c.requires.potentials_near
    (omega (arith, c.requires.potentials, c.is_graph.ensures.colours.some)) in
    let sum = IsSumNear-total c.args.prices.now c.requires.prices_near in
    let root : c.from.result ≡ c.root_score.result = c.from.ensures
    ∙ to_z-of_z w32 c.root_score.result (SFits-score c.root_score.result c.root_score.ensures.near) in
    rw (root, c.sum.ensures, with_root _ _ _ _ sum first c.root_score.ensures.near few)
    (SFits-whole _ _ _ _ sum first c.root_score.ensures.near few)

pub returns : goal.returns
returns c =
    let few = few_prices c.args.graph.now c.args.prices.now c.is_graph.ensures.colours c.requires.prices in
    let first = IsNear-at c.args.potentials.now 0 c.requires.potentials_near
    (omega (arith, c.requires.potentials, c.is_graph.ensures.colours.some)) in
    let sum = IsSumNear-total c.args.prices.now c.requires.prices_near in
    let root : c.from.result ≡ c.root_score.result = c.from.ensures
    ∙ to_z-of_z w32 c.root_score.result (SFits-score c.root_score.result c.root_score.ensures.near) in
    rw (root, c.sum.ensures, with_root _ _ _ _ sum first c.root_score.ensures.near few)
    (to_z-of_z w64 _ (SFits-whole _ _ _ _ sum first c.root_score.ensures.near few)
    ∙ ap (λ n. n +ℤ (number_in c.args.potentials.now 0 +ℤ total c.args.prices.now)) c.root_score.ensures.score)
