use Rattle.std.proofs.Common.{◌≡◌, ◌∙◌, ◌*◌, ◌++◌, ap, arith}
use Rattle.std.specs.Prelude.{codes}
use Rattle.case_maker.specs.Draws.{state_after}
use Rattle.case_maker.specs.MadeText as spec
use Rattle.case_maker.proofs.Appended.{line_appended}
use Rattle.case_maker.proofs.States.{state_after-step}
use Rattle.case_maker.proofs.text.push_peaks.Goals as goal

pub loop-preserved : goal.loop-preserved
loop-preserved c = record {
  text =
      line_appended
      (λ place. spec.peak_line c.args.whole.now (state_after (place * spec.draws_of_peak) c.args.generator.now))
      c.loop.counter c.args.text.now.items c.loop.text.items c.push_peak.new.text.items c.loop.invariant.text
      (c.in_ok-push_peak.ensures.appended ∙ ap (λ state. c.loop.text.items
      ++ (spec.peak_line c.args.whole.now state ++ codes "\n")) c.loop.invariant.state);
  state =
      state_after-step c.loop.counter spec.draws_of_peak c.args.generator.now c.loop.generator
      c.push_peak.new.generator c.loop.invariant.state c.in_ok-push_peak.ensures.state;
}

pub returns-clause-appended : goal.returns-clause-appended
returns-clause-appended c =
    let all : c.loop.counter ≡ c.args.peaks = omega (arith, c.loop-test.false, c.loop.auto.counter-end) in
    c.loop.invariant.text ∙ ap (λ peaks. c.args.text.now.items
    ++ spec.text_of (spec.peak_lines c.args.whole.now peaks c.args.generator.now)) all

pub returns-clause-state : goal.returns-clause-state
returns-clause-state c =
    let all : c.loop.counter ≡ c.args.peaks = omega (arith, c.loop-test.false, c.loop.auto.counter-end) in
    c.loop.invariant.state ∙ ap (λ peaks. state_after (peaks * spec.draws_of_peak) c.args.generator.now) all
