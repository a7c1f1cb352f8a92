use Rattle.std.proofs.Common.{◌≡◌, ◌∙◌, ◌≤ℤ◌, Bool, MatchOption, None, Option, Some, ap, not, of_z, sym, to_z, true}
use Rattle.std.proofs.Common.{w64, ℤ}
use Rattle.std.proofs.lemmas.Bool.{false≢true}
use Rattle.std.proofs.lemmas.Int.{to_z-of_z}
use Rattle.std.specs.Option.{is_some}
use Rattle.tree_certificate.specs.PriceHolds.{PriceHolds, price_total}
use Rattle.tree_certificate.specs.declared.place.Place.{Place}
use Rattle.certificate_checker.specs.BoundPlaces.{IsLeafPlace}
use Rattle.certificate_checker.proofs.prices.check_prices.Goals as goal

holds-none : (P : Type 0) (Q : Place → Type 0) (found : Option Place) (none : Bool) → is_some found ≡ not none
    → MatchOption found P Q → none ≡ true → P
holds-none P Q None none is holds said = holds
holds-none P Q (Some place) none is fails said = absurd (false≢true (sym (is ∙ ap not said)))

pub returns-clause-bounded : goal.returns-clause-bounded
returns-clause-bounded c = λ said.
    let graph = c.args.graph.now in
    let allowed = c.args.allowed.now in
    let cert = c.args.cert.now in
    let passed : ℤ = to_z w64 (of_z w64 c.args.upper) in
    let holds =
    holds-none (PriceHolds graph allowed cert × (price_total graph cert ≤ℤ passed))
    (λ place. IsLeafPlace graph allowed cert passed 0 place)
    c.wrong_prices.result c.is_none.result c.is_none.ensures c.wrong_prices.ensures said in
    c.what_prices_hold_bounds_every_tree.ensures graph allowed cert c.args.upper c.is_graph.ensures
    holds.0
    (rw (to_z-of_z w64 c.args.upper c.ranges.upper) at holds.1)
