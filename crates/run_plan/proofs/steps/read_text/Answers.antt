use Rattle.std.proofs.Common.{◌≤◌, ◌++◌, ◌∷◌, sym, subst, length, IfSome, ℕ}
use Rattle.frag_io.specs.Whole.{ReadsWhole}
use Rattle.run_plan.specs.Plan.{read}
use Rattle.run_plan.specs.Running.{Ends}
use Rattle.run_plan.proofs.Running.{done_read, error_of_read_ends}
use Rattle.run_plan.proofs.steps.read_text.Goals as goal

pub returns-in-Ok-clause-done : goal.returns-in-Ok-clause-done
returns-in-Ok-clause-done g c = λ done before did first.
    let limited = subst (λ (limit : ℕ). IfSome ((g.D.Desk.state c.args.desk.now).left c.args.slot) (ReadsWhole limit
    ((g.D.Desk.state c.read_whole.new.desk).left c.args.slot) c.read_whole.result))
    c.limit_of.ensures c.read_whole.ensures.whole in
    done_read done before (g.D.Desk.state c.args.desk.now) (g.D.Desk.state c.read_whole.new.desk) c.args.slot
    c.read_whole.result c.in-Ok.text did
    c.requires.read first c.requires.begun c.read_whole.ensures.begun c.read_whole.ensures.finished
    c.read_whole.ensures.names c.read_whole.ensures.keeps limited
    c.in-Ok.is (subst (λ (limit : ℕ). length c.in-Ok.text.items ≤ limit) c.limit_of.ensures c.in-Ok.ensures.short)

pub returns-in-Err-clause-ends : goal.returns-in-Err-clause-ends
returns-in-Err-clause-ends g c = λ done later before did first.
    let limited = subst (λ (limit : ℕ). IfSome ((g.D.Desk.state c.args.desk.now).left c.args.slot) (ReadsWhole limit
    ((g.D.Desk.state c.read_whole.new.desk).left c.args.slot) c.read_whole.result))
    c.limit_of.ensures c.read_whole.ensures.whole in
    subst (λ status. Ends (done ++ read c.args.slot ∷ later) before (g.D.Desk.state c.read_whole.new.desk) status)
    (sym c.read_status.ensures)
    (error_of_read_ends done later before (g.D.Desk.state c.args.desk.now) (g.D.Desk.state c.read_whole.new.desk)
    c.args.slot c.in-Err.fault c.read_whole.result did
    c.requires.read first c.requires.begun c.read_whole.ensures.begun c.read_whole.ensures.finished
    c.read_whole.ensures.names c.read_whole.ensures.keeps limited
    c.in-Err.is c.read_whole.ensures.cause)
