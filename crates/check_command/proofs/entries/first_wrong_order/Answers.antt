use Rattle.std.proofs.Common.{◌≡◌, ◌∙◌, ◌+◌, ◌-◌, ap, arith, refl}
use Rattle.std.specs.Ordering.{ordering_index}
use Rattle.std.specs.Prelude.{◌==◌, not, false, true}
use Rattle.std.specs.declared.cmp.Ordering.TheVariants.{Less}
use Rattle.std.proofs.lemmas.Option.{slice_get_read}
use Rattle.check_command.proofs.RankCmp.{all_rise, front_rises}
use Rattle.check_command.proofs.entries.first_wrong_order.Goals as goal

pub returns-then-ne : goal.returns-then-ne
returns-then-ne c =
    let entries = c.args.entries.now in
    let here : (c.loop-place.place - 1) + 1 ≡ c.loop-place.place = omega (arith) in
    record {
      place = c.loop-place.place - 1;
      numbered = omega arith;
      one = c.index-entries-place.result;
      next = c.index-entries-place-in-loop-place.result;
      is_one = slice_get_read entries _ _ _ refl (omega arith) c.index-entries-place.is;
      is_next = rw here (slice_get_read entries _ _ _ refl c.loop-place-test.true
          c.index-entries-place-in-loop-place.is);
      wrong = λ less.
          let tied : c.compare_entries.result ≡ Less = c.compare_entries.ensures ∙ less in
          let both : true ≡ false = c.if-ne.ensures ∙ ap (λ order. not (ordering_index order == 0)) tied in
          cc;
      before = rw here (front_rises entries c.loop-place.place (omega arith) c.loop-place.invariant);
    }

pub returns : goal.returns
returns c = all_rise c.args.entries.now (λ k none below. c.loop-place.invariant k none (omega arith))
