use Rattle.std.proofs.lemmas.Result.{err_from_is_err_and}
use Rattle.formula_lister.specs.inside.Elements.{AreElements}
use Rattle.formula_lister.proofs.Listing.{AreOf, IsReady-nothing, listed, none_listed, too_many_listed}
use Rattle.formula_lister.proofs.lister.list.Goals as goal

pub list_from-requires-clause-ready : goal.list_from-requires-clause-ready
list_from-requires-clause-ready g c =
    let bounds = c.in-Some.bounds in
    let known : AreElements bounds.limits c.in_ok-elements.elements.items =
    rw c.in-Some.ensures.limits c.in_ok-elements.ensures.elements in
    rw (c.as_slice.ensures.value, c.nothing.ensures) (IsReady-nothing bounds c.in_ok-elements.elements.items known)

pub returns-in_err-list_from-clause-too_many : goal.returns-in_err-list_from-clause-too_many
returns-in_err-list_from-clause-too_many g c =
    let window = c.args.window.now in
    let limits = c.args.limits.now in
    let rules = c.args.sieve.now.rules.items in
    let bounds = c.in-Some.bounds in
    let elements = c.in_ok-elements.elements.items in
    let are : AreOf window limits bounds elements =
    record {
      limited = c.in-Some.ensures.limits;
      masses = c.in-Some.ensures.masses;
      others =
          c.in_ok-elements.ensures.others;
    } in
    let fault =
    err_from_is_err_and c.from_residual-in_err-list_from.result c.from_residual-in_err-list_from.ensures.1 in
    rw (fault.1, fault.2) (λ is.
    too_many_listed window limits rules bounds elements _ are
    (rw (c.as_slice.ensures.value, c.nothing.ensures, c.new-list.ensures.items) at
    (c.in_err-list_from.ensures.too_many cc))
    (c.the_list_is_a_filter.ensures.is_listed window limits rules c.in_ok-elements.ensures.places))

pub returns-clause-list : goal.returns-clause-list
returns-clause-list g c =
    let window = c.args.window.now in
    let limits = c.args.limits.now in
    let rules = c.args.sieve.now.rules.items in
    let bounds = c.in-Some.bounds in
    let elements = c.in_ok-elements.elements.items in
    let sorted = c.sort_unstable.new.self.items in
    let are : AreOf window limits bounds elements =
    record {
      limited = c.in-Some.ensures.limits;
      masses = c.in-Some.ensures.masses;
      others =
          c.in_ok-elements.ensures.others;
    } in
    listed window limits rules bounds elements c.list_from.new.list.items sorted are
    (rw (c.as_slice.ensures.value, c.nothing.ensures, c.new-list.ensures.items) at c.in_ok-list_from.ensures.gains)
    c.sort_unstable.ensures.permutation
    (λ formulas distinct moved. c.sorted_formulas_rise.ensures formulas sorted distinct moved
    c.sort_unstable.ensures.sorted)

pub returns-in_default-clause-list : goal.returns-in_default-clause-list
returns-in_default-clause-list g c =
    rw c.new-list.ensures.items
    (none_listed c.args.window.now c.args.limits.now (c.args.sieve.now.rules.items) c.in_default.ensures.none)

pub returns-in_default-clause-filter : goal.returns-in_default-clause-filter
returns-in_default-clause-filter g c =
    c.the_list_is_a_filter.ensures.only_one c.args.window.now c.args.limits.now (c.args.sieve.now.rules.items)
    c.new-list.result.items c.in_ok-elements.ensures.places (returns-in_default-clause-list g c)

pub returns-clause-filter : goal.returns-clause-filter
returns-clause-filter g c =
    c.the_list_is_a_filter.ensures.only_one c.args.window.now c.args.limits.now (c.args.sieve.now.rules.items)
    c.sort_unstable.new.self.items c.in_ok-elements.ensures.places (returns-clause-list g c)
