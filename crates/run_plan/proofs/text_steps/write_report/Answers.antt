use Rattle.std.proofs.Common.{◌∙◌, ◌++◌, ap, sym, subst, List, [], ◌∷◌, ℕ, length, append_assoc}
use Rattle.std.specs.Prelude.{IfErr}
use Rattle.std.proofs.lemmas.Result.{err_from_is_err_and}
use Rattle.std.proofs.Math.Seq.{take-length}
use Rattle.frag_io.specs.Desk.{appended}
use Rattle.frag_io.specs.declared.desk.Slot.TheVariants.{Report, CertOut}
use Rattle.run_plan.specs.Plan.{Step, finish, report_steps, write}
use Rattle.run_plan.specs.Running.{Ends, HasDone}
use Rattle.run_plan.proofs.TextSteps.{both, on_err, on_ok_then, outputs_ended, unbegun_is_done}
use Rattle.run_plan.proofs.text_steps.write_report.Goals as goal

pub returns-clause-part : goal.returns-clause-part
returns-clause-part g c =
    on_err c.finish_slot.result _ (
      length c.args.report.now,
      c.finish_slot.ensures.unchanged ∙ c.in_ok-write_slot.ensures.all
          ∙ ap (λ (bytes : List ℕ). appended ((g.D.Desk.state c.args.desk.now).written Report) bytes) (sym
          (take-length c.args.report.now)),
    )

pub returns-in_err-write_slot-clause-ends : goal.returns-in_err-write_slot-clause-ends
returns-in_err-write_slot-clause-ends g c = λ done before did.
    let p = err_from_is_err_and c.from_residual.result c.from_residual.ensures.1 in
    rw (p.1, p.2) (c.in_err-write_slot.ensures.ends done (finish Report ∷ []) before did)

pub returns-clause-ended : goal.returns-clause-ended
returns-clause-ended g c = λ done before did.
    on_ok_then c.finish_slot.result _ _ (both _ _ _ c.finish_slot.ensures.ok
    (c.finish_slot.ensures.done (done ++ write Report ∷ []) before (c.in_ok-write_slot.ensures.done done before did)))
    (λ ok status is.
    outputs_ended (done ++ report_steps) before (g.D.Desk.state c.finish_slot.new.desk) status is
    (subst (λ (steps : List Step). HasDone steps before (g.D.Desk.state c.finish_slot.new.desk))
    (append_assoc done (write Report ∷ []) (finish Report ∷ [])) ok.1)
    (unbegun_is_done _ _ (c.finish_slot.ensures.begun CertOut ∙ c.write_slot.ensures.begun CertOut ∙ c.requires.alone))
    ok.0.added)

pub returns-clause-ends : goal.returns-clause-ends
returns-clause-ends g c = λ done before did.
    subst (λ (steps : List Step). IfErr c.finish_slot.result (Ends steps before (g.D.Desk.state
    c.finish_slot.new.desk)))
    (append_assoc done (write Report ∷ []) (finish Report ∷ []))
    (c.finish_slot.ensures.ends (done ++ write Report ∷ []) [] before (c.in_ok-write_slot.ensures.done done before did))
