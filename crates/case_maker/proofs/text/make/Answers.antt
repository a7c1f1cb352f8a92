use Rattle.std.proofs.Common.{◌≡◌, ◌∙◌, ◌+◌, ◌*◌, ◌++◌, ap, arith, length}
use Rattle.case_maker.specs.Draws.{state_after}
use Rattle.case_maker.specs.MadeText as spec
use Rattle.case_maker.proofs.Appended.{lines_appended}
use Rattle.case_maker.proofs.Length.{length-made}
use Rattle.case_maker.proofs.States.{state_after-step}
use Rattle.case_maker.proofs.text.make.Goals as goal

pub loop-place-preserved : goal.loop-place-preserved
loop-place-preserved c = record {
  text =
      lines_appended
      (λ place. spec.block_lines c.args.number (place + 1) c.args.peaks
      (state_after (place * spec.draws_of_spectrum c.args.peaks) c.args.number))
      c.loop-place.place c.loop-place.text.items c.push_block.new.text.items c.loop-place.invariant.text
      (c.in_ok-push_block.ensures.appended ∙ ap (λ state. c.loop-place.text.items
      ++ spec.text_of (spec.block_lines c.args.number (c.loop-place.place + 1) c.args.peaks state))
      c.loop-place.invariant.state);
  state =
      state_after-step c.loop-place.place (spec.draws_of_spectrum c.args.peaks) c.args.number c.loop-place.generator
      c.push_block.new.generator c.loop-place.invariant.state c.in_ok-push_block.ensures.state;
}

pub returns-clause-short : goal.returns-clause-short
returns-clause-short c =
    let all : c.loop-place.place ≡ c.args.spectra =
    omega (arith, c.loop-place-test.false, c.loop-place.auto.place-end) in
    let few = length-made c.args.number c.loop-place.place c.args.peaks c.requires.number
    (omega (arith, all, c.requires.few_spectra)) c.requires.few_peaks in
    let same = ap length c.loop-place.invariant.text in
    omega (arith, few, same)
