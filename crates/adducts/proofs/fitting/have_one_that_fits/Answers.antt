use Rattle.std.proofs.Common.{◌≡◌, false, length, nat_eq, rules, tests}
use Rattle.std.proofs.lemmas.Iterator.{YieldsList-from_slice}
use Rattle.std.proofs.lemmas.Iterator.Search.{any_from_yields_List}
use Rattle.adducts.specs.Charges.{is_carried}
use Rattle.adducts.proofs.fitting.have_one_that_fits.Goals as goal

pub returns-else-is_empty : goal.returns-else-is_empty
returns-else-is_empty c =
    let some : nat_eq (length c.args.charges.now) 0 ≡ false = cc in
    rw some
    (any_from_yields_List (λ charge. is_carried c.args.plus charge) _ _ _ c.any.ensures.ran
    (YieldsList-from_slice c.args.charges.now cc) (λ x b q k. search (rules, tests)))
