use Rattle.std.proofs.Common.{◌≡◌, ◌++◌, ◌*◌}
use Rattle.case_maker.specs.Draws.{state_after}
use Rattle.case_maker.specs.MadeText as spec
use Rattle.case_maker.proofs.text.push_peaks.Given as goal

abbrev pub invariant-loop : goal.invariant-loop
invariant-loop l = record {
  text : l.text.items ≡ l.initial.text.items ++ spec.text_of (spec.peak_lines l.whole l.counter l.initial.generator);
  state : l.generator ≡ state_after (l.counter * spec.draws_of_peak) l.initial.generator;
}
