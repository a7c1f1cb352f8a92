use Rattle.std.proofs.Common.{◌≡◌, ◌*◌}
use Rattle.case_maker.specs.Draws.{state_after}
use Rattle.case_maker.specs.MadeText as spec
use Rattle.case_maker.proofs.text.make.Given as goal

abbrev pub invariant-loop-place : goal.invariant-loop-place
invariant-loop-place l = record {
  text : l.text.items ≡ spec.made_text l.number l.place l.peaks;
  state : l.generator ≡ state_after (l.place * spec.draws_of_spectrum l.peaks) l.number;
}
