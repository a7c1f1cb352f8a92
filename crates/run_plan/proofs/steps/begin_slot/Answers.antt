use Rattle.std.proofs.Common.{◌∙◌, ap, sym, subst, Err}
use Rattle.run_plan.specs.Plan.{begin}
use Rattle.run_plan.specs.Running.{Ends}
use Rattle.std.proofs.Common.{◌++◌, ◌∷◌}
use Rattle.run_plan.proofs.Running.{done_begin, unbegun_ends}
use Rattle.run_plan.proofs.steps.begin_slot.Goals as goal

pub returns-in-Ok-clause-done : goal.returns-in-Ok-clause-done
returns-in-Ok-clause-done g c = λ done before did.
    done_begin done before _ _ c.args.slot c.args.name.now did c.requires.fresh c.in-Ok.ensures.begun
    c.begin.ensures.finished c.in-Ok.ensures.named
    c.in-Ok.ensures.left c.in-Ok.ensures.written c.begin.ensures.keeps

pub returns-in-Err-clause-ends : goal.returns-in-Err-clause-ends
returns-in-Err-clause-ends g c = λ done later before did.
    subst (λ status. Ends (done ++ begin c.args.slot c.args.name.now ∷ later) before (g.D.Desk.state c.begin.new.self)
    status) (sym c.open_status.ensures)
    (unbegun_ends done later before (g.D.Desk.state c.args.desk.now) (g.D.Desk.state c.begin.new.self) c.args.slot
    c.args.name.now c.in-Err.fault did
    c.requires.fresh c.in-Err.ensures.begun c.begin.ensures.finished
    (λ written. g.met.D.Desk.unbegun_is_empty c.begin.new.self c.args.slot written (c.in-Err.ensures.begun c.args.slot
    ∙ c.requires.fresh))
    c.begin.ensures.keeps (λ is. c.in-Err.ensures.cause (ap Err is)))
