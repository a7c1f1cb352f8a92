use Rattle.std.proofs.Common.{◌≡◌, Err, List, slice_set, subst, sym, arith}
use Rattle.std.proofs.lemmas.Result.{err_from_is_err_and}
use Rattle.std.specs.Result.{OnOk}
use Rattle.element_table.specs.Formula.{mass_of}
use Rattle.formula_lister.specs.declared.element.Element.{Element}
use Rattle.formula_lister.specs.inside.Counting.{Completes, Gains, Overfills, IsReady}
use Rattle.formula_lister.proofs.Completing.{Gains-all_counts, Gains-more_counts, Gains-no_count, IsReady-first}
use Rattle.formula_lister.proofs.Completing.{IsReady-set, mass-set, Overfills-at_count}
use Rattle.formula_lister.proofs.Pairs.{two_elements}
use Rattle.formula_lister.specs.declared.outcome.ListFault.TheVariants.{TooMany}
use Rattle.formula_lister.proofs.counting.Lister.+list_from.Goals as goal

pub list_pair-requires-clause-ready : goal.list_pair-requires-clause-ready
list_pair-requires-clause-ready g t c =
    let same = two_elements c.args.elements.now c.next-item.result c.last-item.result c.next-item.is c.last-item.is
    c.in-len2.len_at_least c.in-len2.len_below in
    subst (λ (l : List Element). IsReady c.args.self.now.bounds l c.args.chosen.now.formula) (sym same)
    c.requires.ready

pub returns-in-len2-clause-gains : goal.returns-in-len2-clause-gains
returns-in-len2-clause-gains g t c =
    let bounds = c.args.self.now.bounds in
    let rules = c.args.self.now.sieve.now.rules.items in
    let same = two_elements c.args.elements.now c.next-item.result c.last-item.result c.next-item.is c.last-item.is
    c.in-len2.len_at_least c.in-len2.len_below in
    subst (λ (l : List Element). OnOk c.list_pair.result
    (Gains (Completes bounds rules l c.args.chosen.now.formula) c.args.list.now.items c.list_pair.new.list.items))
    same c.list_pair.ensures.gains

pub returns-in-len2-clause-too_many : goal.returns-in-len2-clause-too_many
returns-in-len2-clause-too_many g t c =
    let bounds = c.args.self.now.bounds in
    let rules = c.args.self.now.sieve.now.rules.items in
    let same = two_elements c.args.elements.now c.next-item.result c.last-item.result c.next-item.is c.last-item.is
    c.in-len2.len_at_least c.in-len2.len_below in
    subst (λ (l : List Element). c.list_pair.result ≡ Err TooMany
    → Overfills (Completes bounds rules l c.args.chosen.now.formula) c.args.list.now.items)
    same c.list_pair.ensures.too_many

pub loop-count-init : goal.loop-count-init
loop-count-init g t c = record {
  gained =
      Gains-no_count c.args.self.now.bounds c.args.self.now.sieve.now.rules.items c.in-Some.first.now c.in-Some.others.now
      c.args.chosen.now c.least_count-least.result c.args.list.now.items
      (IsReady-first c.args.self.now.bounds c.args.elements.now c.in-Some.first.now c.in-Some.others.now
      c.args.chosen.now.formula c.in-Some.ensures.cases.0 c.requires.ready)
      c.least_count-least.ensures;
  few = c.requires.few;
}

pub with-requires-clause-within_limit : goal.with-requires-clause-within_limit
with-requires-clause-within_limit g t c =
    ((c.count_end-count-end.ensures c.loop-count.count).0 c.loop-count-test.true).0

pub list_from-requires : goal.list_from-requires
list_from-requires g t c =
    let bounds = c.args.self.now.bounds in
    let first = c.in-Some.first.now in
    let others = c.in-Some.others.now in
    let chosen = c.args.chosen.now in
    let count = c.loop-count.count in
    let ready =
    IsReady-first bounds c.args.elements.now first others chosen.formula c.in-Some.ensures.cases.0 c.requires.ready in
    let allowed = (c.count_end-count-end.ensures count).0 c.loop-count-test.true in
    let further : IsReady bounds others (slice_set chosen.formula first.place count) =
    IsReady-set bounds first others chosen.formula count ready allowed.0 in
    let more = mass-set bounds first others chosen.formula count ready in
    let mass : c.with.result.mass ≡ mass_of (slice_set chosen.formula first.place count) =
    rw c.with.ensures at c.with.result.weighed.weighed in (
      omega (arith, c.in-Some.ensures.cases.1),
      (
        c.loop-count.invariant.few,
        (
          rw c.with.ensures further,
          omega (arith, allowed.1, mass, more, chosen.weighed.weighed),
        ),
      ),
    )

pub loop-count-preserved : goal.loop-count-preserved
loop-count-preserved g t c = record {
  gained =
      Gains-more_counts c.args.self.now.bounds c.args.self.now.sieve.now.rules.items c.in-Some.first.now
      c.in-Some.others.now c.loop-count.count c.args.chosen.now.formula c.with.result.formula c.args.list.now.items
      c.loop-count.list.items c.list_from.new.list.items
      (IsReady-first c.args.self.now.bounds c.args.elements.now c.in-Some.first.now c.in-Some.others.now
      c.args.chosen.now.formula c.in-Some.ensures.cases.0 c.requires.ready)
      c.with.ensures c.loop-count.invariant.gained c.in_ok-list_from.ensures.gains;
  few = c.list_from.ensures.few;
}

pub returns-in_err-list_from-clause-too_many : goal.returns-in_err-list_from-clause-too_many
returns-in_err-list_from-clause-too_many g t c =
    let bounds = c.args.self.now.bounds in
    let rules = c.args.self.now.sieve.now.rules.items in
    let chosen = c.args.chosen.now.formula in
    let is = c.in-Some.ensures.cases.0 in
    let fault = err_from_is_err_and c.from_residual.result c.from_residual.ensures.1 in
    rw (fault.1, fault.2) (λ too_many.
    subst (λ (l : List Element). Overfills (Completes bounds rules l chosen) c.args.list.now.items) (sym is)
    (Overfills-at_count bounds rules c.in-Some.first.now c.in-Some.others.now c.loop-count.count chosen
    c.with.result.formula c.args.list.now.items c.loop-count.list.items
    (IsReady-first bounds c.args.elements.now c.in-Some.first.now c.in-Some.others.now chosen is c.requires.ready)
    c.with.ensures c.loop-count.invariant.gained (c.in_err-list_from.ensures.too_many too_many)))

pub returns-clause-gains : goal.returns-clause-gains
returns-clause-gains g t c =
    let bounds = c.args.self.now.bounds in
    let rules = c.args.self.now.sieve.now.rules.items in
    let chosen = c.args.chosen.now in
    let is = c.in-Some.ensures.cases.0 in
    let all =
    Gains-all_counts bounds rules c.in-Some.first.now c.in-Some.others.now chosen c.count_end-count-end.result
    c.loop-count.count c.args.list.now.items c.loop-count.list.items
    (IsReady-first bounds c.args.elements.now c.in-Some.first.now c.in-Some.others.now chosen.formula is
    c.requires.ready)
    c.count_end-count-end.ensures (omega arith) c.loop-count.invariant.gained in
    subst (λ (l : List Element). Gains (Completes bounds rules l chosen.formula) c.args.list.now.items
    c.loop-count.list.items) (sym is) all
