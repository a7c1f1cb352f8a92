use Rattle.std.proofs.Common.{◌+◌, ◌-◌, ◌*◌, ◌∷◌, [], slice_index, slice_set, refl, arith}
use Rattle.std.proofs.lemmas.Result.{err_from_is_err_and}
use Rattle.formula_lister.proofs.Completing.{CompletesBelow, Gains-more_counts, Overfills-at_count}
use Rattle.formula_lister.proofs.Gaining.{Gains-none}
use Rattle.formula_lister.proofs.Pairs.{Fits-candidate, Gains-passed, Gains-to_end, IsPair-ready}
use Rattle.formula_lister.proofs.Pairs.{none_beyond, same_parts}
use Rattle.formula_lister.proofs.counting.Lister.list_pair.Goals as goal

pub loop-rest-init : goal.loop-rest-init
loop-rest-init g c =
    let bounds = c.args.self.now.bounds in
    let rules = c.args.self.now.sieve.now.rules.items in
    let next = c.args.next.now in
    let last = c.args.last.now in
    let chosen = c.args.chosen.now in
    record {
      gained =
          Gains-none (CompletesBelow bounds rules next (last ∷ []) chosen.formula c.first-rest.result.count)
          c.args.list.now.items
          (λ counts h.
          let fits =
          Fits-candidate bounds rules next last chosen.formula counts chosen.mass c.requires.ready
          chosen.weighed.weighed h.0 in
          absurd (omega (
            arith,
            h.1,
            c.first-rest.ensures.none (slice_index counts next.place) (slice_index counts last.place) fits,
          )));
      few = c.requires.few;
      level = c.first-rest.ensures.level;
    }

pub loop-rest-preserved : goal.loop-rest-preserved
loop-rest-preserved g c =
    let bounds = c.args.self.now.bounds in
    let rules = c.args.self.now.sieve.now.rules.items in
    let next = c.args.next.now in
    let last = c.args.last.now in
    let chosen = c.args.chosen.now in
    let rest = c.loop-rest.rest in
    let pair = IsPair-ready bounds next last chosen.formula c.requires.ready in
    record {
      gained =
          Gains-passed bounds rules next last chosen.formula chosen.mass rest.count c.next-rest.result.count
          c.args.list.now.items c.list_rest.new.list.items c.requires.ready chosen.weighed.weighed
          c.next-rest.ensures.further
          (λ k atoms fits after.
          let over = bounds.most - (chosen.mass + (k * next.mass + atoms * last.mass)) in
          c.next-rest.ensures.none k (next.levels.per * k + atoms) over
          (omega (arith, fits.not_below)) after
          (same_parts bounds.least bounds.most chosen.mass next last rest k atoms over pair c.loop-rest.invariant.level
          (omega (arith, fits.not_above))))
          (Gains-more_counts bounds rules next (last ∷ []) rest.count chosen.formula
          (slice_set chosen.formula next.place rest.count) c.args.list.now.items c.loop-rest.list.items
          c.list_rest.new.list.items
          c.requires.ready refl c.loop-rest.invariant.gained c.in_ok-list_rest.ensures.gains);
      few = c.list_rest.ensures.few;
      level = record {
        parts = omega (arith, c.loop-rest.invariant.level.parts, c.next-rest.ensures.same);
        small = c.next-rest.ensures.over;
      };
    }

pub returns-after-loop-rest-clause-gains : goal.returns-after-loop-rest-clause-gains
returns-after-loop-rest-clause-gains g c =
    let chosen = c.args.chosen.now in
    Gains-to_end c.args.self.now.bounds c.args.self.now.sieve.now.rules.items c.args.next.now c.args.last.now
    chosen.formula chosen.mass c.loop-rest.rest.count c.args.list.now.items c.loop-rest.list.items c.requires.ready
    chosen.weighed.weighed
    (λ k atoms fits within from. absurd (omega (arith, c.loop-rest-test.false, within, from)))
    c.loop-rest.invariant.gained

pub returns-else-next-rest-clause-gains : goal.returns-else-next-rest-clause-gains
returns-else-next-rest-clause-gains g c =
    let bounds = c.args.self.now.bounds in
    let next = c.args.next.now in
    let last = c.args.last.now in
    let chosen = c.args.chosen.now in
    Gains-to_end bounds c.args.self.now.sieve.now.rules.items next last
    chosen.formula chosen.mass c.loop-rest.rest.count c.args.list.now.items c.loop-rest.list.items c.requires.ready
    chosen.weighed.weighed
    (λ k atoms fits within from.
    none_beyond bounds.least bounds.most chosen.mass next last c.loop-rest.rest k atoms
    (IsPair-ready bounds next last chosen.formula c.requires.ready) c.loop-rest.invariant.level
    (omega (arith, c.if-next-rest.false)) fits from)
    c.loop-rest.invariant.gained

pub returns-in_err-list_rest-clause-too_many : goal.returns-in_err-list_rest-clause-too_many
returns-in_err-list_rest-clause-too_many g c =
    let bounds = c.args.self.now.bounds in
    let next = c.args.next.now in
    let last = c.args.last.now in
    let chosen = c.args.chosen.now in
    let count = c.loop-rest.rest.count in
    let fault = err_from_is_err_and c.from_residual.result c.from_residual.ensures.1 in
    rw (fault.1, fault.2) (λ is.
    Overfills-at_count bounds (c.args.self.now.sieve.now.rules.items) next (last ∷ []) count chosen.formula
    (slice_set chosen.formula next.place count) c.args.list.now.items c.loop-rest.list.items
    c.requires.ready refl c.loop-rest.invariant.gained (c.in_err-list_rest.ensures.too_many is))
