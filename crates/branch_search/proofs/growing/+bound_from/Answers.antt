use Rattle.std.proofs.Common.{◌≡◌, ap, ap₂, sym, ◌∙◌}
use Rattle.tree_certificate.specs.BoundValue.{split}
use Rattle.tree_certificate.specs.BoundView.{bound_value}
use Rattle.tree_certificate.proofs.BoundValues.{value_of_split}
use Rattle.branch_search.specs.inside.Growing.{bound_in, grown_of}
use Rattle.branch_search.proofs.NodeValues.{grown_of_fork}
use Rattle.branch_search.proofs.growing.+bound_from.Goals as goal

pub returns-in_ok-second-in-Fork-2 : goal.returns-in_ok-second-in-Fork-2
returns-in_ok-second-in-Fork-2 t c =
    let one : bound_value c.in_ok-first-in-Fork-2.first ≡ bound_in (grown_of c.in-Fork.first) =
    ap bound_value c.in_ok-first-in-Fork-2.ensures ∙ c.in_ok-first-in-Fork.ensures
    ∙ ap (λ n. bound_in (grown_of n)) c.into_inner.ensures in
    let other : bound_value c.in_ok-second-in-Fork-2.second ≡ bound_in (grown_of c.in-Fork.second) =
    ap bound_value c.in_ok-second-in-Fork-2.ensures ∙ c.in_ok-second-in-Fork.ensures
    ∙ ap (λ n. bound_in (grown_of n)) c.into_inner-in-Fork.ensures in
    value_of_split c.in-Fork.colour c.in-Fork.part c.in_ok-first-in-Fork-2.first c.in_ok-second-in-Fork-2.second
    ∙ ap₂ (split c.in-Fork.colour c.in-Fork.part) one other
    ∙ sym (ap (λ n. bound_in (grown_of n)) c.in-Fork.is
    ∙ ap bound_in (grown_of_fork c.in-Fork.field-0 c.in-Fork.colour c.in-Fork.part c.in-Fork.first c.in-Fork.second))
