use Rattle.std.proofs.Common.{append-nil}
use Rattle.run_plan.proofs.text_steps.begin_document.Goals as goal

pub returns-in-None-clause-done : goal.returns-in-None-clause-done
returns-in-None-clause-done g c = λ done before did. rw (c.in-None.is, append-nil done) did
