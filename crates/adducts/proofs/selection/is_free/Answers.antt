use Rattle.std.proofs.Common.{◌≡◌, true, nat_lt, rules, tests, lt-ltb}
use Rattle.std.proofs.lemmas.Iterator.{YieldsList-from_slice}
use Rattle.std.proofs.lemmas.Iterator.Search.{all_from_yields_List}
use Rattle.adducts.specs.inside.Choosing.{is_apart}
use Rattle.adducts.proofs.selection.is_free.Goals as goal

pub returns-then-interval-precursor : goal.returns-then-interval-precursor
returns-then-interval-precursor c =
    let below : nat_lt c.args.interval.high c.args.precursor.low ≡ true = lt-ltb _ _ c.if-interval-precursor.true in
    rw below
    (all_from_yields_List (λ other. is_apart c.args.interval other) _ _ _ c.all.ensures.ran
    (YieldsList-from_slice c.args.taken.now cc) (λ x b q k. search (rules, tests)))
