use Rattle.std.proofs.Common.{◌++◌, ◌∷◌, ap, sym, subst, Err}
use Rattle.run_plan.specs.Plan.{write}
use Rattle.run_plan.specs.Running.{Ends}
use Rattle.run_plan.proofs.Running.{done_write, failed_write_ends}
use Rattle.run_plan.proofs.steps.write_slot.Goals as goal

pub returns-in-Ok-clause-done : goal.returns-in-Ok-clause-done
returns-in-Ok-clause-done g c = λ done before did.
    done_write done before _ _ c.args.slot did c.requires.written c.write_whole.ensures.begun
    c.write_whole.ensures.finished c.write_whole.ensures.names
    c.write_whole.ensures.keeps

pub returns-in-Err-clause-ends : goal.returns-in-Err-clause-ends
returns-in-Err-clause-ends g c = λ done later before did.
    subst (λ status. Ends (done ++ write c.args.slot ∷ later) before (g.D.Desk.state c.write_whole.new.desk) status)
    (sym c.write_status.ensures)
    (failed_write_ends done later before (g.D.Desk.state c.args.desk.now) (g.D.Desk.state c.write_whole.new.desk)
    c.args.slot c.in-Err.fault did
    c.requires.written c.requires.begun c.write_whole.ensures.begun c.write_whole.ensures.finished
    c.write_whole.ensures.names c.write_whole.ensures.keeps
    (λ is. c.in-Err.ensures.cause (ap Err is)))
