use Rattle.std.proofs.Common.{◌++◌, ◌∷◌, ap, sym, subst, Err}
use Rattle.run_plan.specs.Plan.{finish}
use Rattle.run_plan.specs.Running.{Ends}
use Rattle.run_plan.proofs.Running.{done_finish, failed_finish_ends}
use Rattle.run_plan.proofs.steps.finish_slot.Goals as goal

pub returns-in-Ok-clause-done : goal.returns-in-Ok-clause-done
returns-in-Ok-clause-done g c = λ done before did.
    done_finish done before _ _ c.args.slot did c.requires.written c.finish.ensures.begun c.in-Ok.ensures.finished
    c.finish.ensures.names
    c.finish.ensures.unchanged c.finish.ensures.keeps

pub returns-in-Err-clause-ends : goal.returns-in-Err-clause-ends
returns-in-Err-clause-ends g c = λ done later before did.
    subst (λ status. Ends (done ++ finish c.args.slot ∷ later) before (g.D.Desk.state c.finish.new.self) status) (sym
    c.write_status.ensures)
    (failed_finish_ends done later before (g.D.Desk.state c.args.desk.now) (g.D.Desk.state c.finish.new.self)
    c.args.slot c.in-Err.fault did
    c.requires.written c.requires.begun c.finish.ensures.begun c.in-Err.ensures.finished c.finish.ensures.names
    c.finish.ensures.unchanged c.finish.ensures.keeps
    (λ is. c.in-Err.ensures.cause (ap Err is)))
