use Rattle.std.proofs.Common.{◌≡◌, ℤ, List, ap, ◌∙◌}
use Rattle.std.proofs.lemmas.List.{with_items_is}
use Rattle.price_bound.specs.inside.Exact.{cert_with}
use Rattle.price_bound.proofs.Keeping.{AreNear-amounts}
use Rattle.price_bound.proofs.PlainPrices.{ArePlain-written}
use Rattle.price_bound.proofs.unpriced.plain.Goals as goal

pub unwrap-requires : goal.unwrap-requires
unwrap-requires c =
    let prices = c.in_ok-prices.prices.items in
    let potentials = c.set_potentials-low.new.potentials in
    let long = c.set_potentials-low.auto.potentials ∙ c.deref_mut.ensures.len in
    let plain = ArePlain-written c.args.graph.now c.args.allowed.now c.colour_count.result prices potentials
    c.set_potentials-low.result
    (c.in_ok-prices.ensures.items_if_clones_equal (λ y is. is)) c.colour_count.ensures (long
    ∙ c.in_ok-potentials.ensures.len ∙ c.vertex_count-vertices.ensures)
    c.is_graph.ensures c.requires.vertices c.requires.few (record {
      exact = rw c.deref.ensures.value at c.set_potentials-low.ensures.exact;
      amounts = c.set_potentials-low.ensures.low;
      high = rw c.deref.ensures.value at c.set_potentials-low.ensures.high;
    }) in
    c.new.ensures.some.1 (
      AreNear-amounts prices plain.price_amounts,
      rw (with_items_is c.in_ok-potentials.potentials potentials long)
          (AreNear-amounts potentials plain.potential_amounts),
    )

pub returns : goal.returns
returns c =
    let prices = c.in_ok-prices.prices.items in
    let potentials = c.set_potentials-low.new.potentials in
    let long = c.set_potentials-low.auto.potentials ∙ c.deref_mut.ensures.len in
    let plain = ArePlain-written c.args.graph.now c.args.allowed.now c.colour_count.result prices potentials
    c.set_potentials-low.result
    (c.in_ok-prices.ensures.items_if_clones_equal (λ y is. is)) c.colour_count.ensures (long
    ∙ c.in_ok-potentials.ensures.len ∙ c.vertex_count-vertices.ensures)
    c.is_graph.ensures c.requires.vertices c.requires.few (record {
      exact = rw c.deref.ensures.value at c.set_potentials-low.ensures.exact;
      amounts = c.set_potentials-low.ensures.low;
      high = rw c.deref.ensures.value at c.set_potentials-low.ensures.high;
    }) in
    let cert_is : c.unwrap.result ≡ cert_with prices potentials =
    rw c.unwrap.ensures at c.new.ensures.numbers
    ∙ ap (λ (ns : List ℤ). cert_with prices ns) (with_items_is c.in_ok-potentials.potentials potentials long) in
    rw cert_is (record { plain = plain.plain; holds = plain.holds; tree = plain.tree })
