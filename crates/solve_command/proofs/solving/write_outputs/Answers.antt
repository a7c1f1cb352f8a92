use Rattle.std.proofs.Common.{◌≢◌, ◌∙◌, ◌++◌, List, [], ◌∷◌, ap, length, subst, take}
use Rattle.std.specs.Prelude.{IfErr}
use Rattle.std.proofs.lemmas.Result.{err_from_is_err_and}
use Rattle.frag_io.specs.Desk.{appended}
use Rattle.frag_io.specs.declared.desk.Slot.TheVariants.{Report, CertOut}
use Rattle.run_plan.specs.Plan.{Step, finish, output_steps, write}
use Rattle.run_plan.specs.Running.{Ends, HasDone}
use Rattle.run_plan.proofs.TextSteps.{appended_all, appended_none, behind_three, behind_two, both, ends_as, ends_behind}
use Rattle.run_plan.proofs.TextSteps.{on_err, on_ok}
use Rattle.run_plan.proofs.TextSteps.{on_ok_then, outputs_ended}
use Rattle.solve_command.proofs.solving.write_outputs.Goals as goal

-- the two slots are two
report_apart : Report ≢ CertOut
report_apart is = cc

document_apart : CertOut ≢ Report
document_apart is = cc

pub returns-in_err-write_slot-clause-part : goal.returns-in_err-write_slot-clause-part
returns-in_err-write_slot-clause-part g c = on_err c.from_residual.result _ (record {
  of_document = c.in_err-write_slot.ensures.part.0;
  of_report = 0;
  document_part = c.in_err-write_slot.ensures.part.1;
  report_part = c.write_slot.ensures.keeps.others_written Report report_apart ∙ appended_none _ c.args.report.now;
})

pub returns-in_err-write_slot-2-clause-part : goal.returns-in_err-write_slot-2-clause-part
returns-in_err-write_slot-2-clause-part g c = on_err c.from_residual-in_err-write_slot-2.result _ (record {
  of_document = length c.args.document.now;
  of_report = c.in_err-write_slot-2.ensures.part.0;
  document_part = c.write_slot-2.ensures.keeps.others_written CertOut document_apart ∙ c.in_ok-write_slot.ensures.all
      ∙ appended_all _ _;
  report_part = c.in_err-write_slot-2.ensures.part.1
      ∙ ap (λ o. appended o (take c.in_err-write_slot-2.ensures.part.0 c.args.report.now))
      (c.write_slot.ensures.keeps.others_written Report report_apart);
})

pub returns-in_err-finish_slot-clause-part : goal.returns-in_err-finish_slot-clause-part
returns-in_err-finish_slot-clause-part g c = on_err c.from_residual-in_err-finish_slot.result _ (record {
  of_document = length c.args.document.now;
  of_report = length c.args.report.now;
  document_part = c.finish_slot.ensures.unchanged ∙ c.write_slot-2.ensures.keeps.others_written CertOut document_apart
      ∙ c.in_ok-write_slot.ensures.all ∙ appended_all _ _;
  report_part = c.finish_slot.ensures.keeps.others_written Report report_apart ∙ c.in_ok-write_slot-2.ensures.all
      ∙ ap (λ o. appended o c.args.report.now) (c.write_slot.ensures.keeps.others_written Report report_apart)
      ∙ appended_all _ _;
})

pub returns-clause-part : goal.returns-clause-part
returns-clause-part g c = on_err c.finish_slot-2.result _ (record {
  of_document = length c.args.document.now;
  of_report = length c.args.report.now;
  document_part = c.finish_slot-2.ensures.keeps.others_written CertOut document_apart ∙ c.finish_slot.ensures.unchanged
      ∙ c.write_slot-2.ensures.keeps.others_written CertOut document_apart ∙ c.in_ok-write_slot.ensures.all
      ∙ appended_all _ _;
  report_part = c.finish_slot-2.ensures.unchanged ∙ c.finish_slot.ensures.keeps.others_written Report report_apart
      ∙ c.in_ok-write_slot-2.ensures.all
      ∙ ap (λ o. appended o c.args.report.now) (c.write_slot.ensures.keeps.others_written Report report_apart)
      ∙ appended_all _ _;
})

pub returns-clause-ended : goal.returns-clause-ended
returns-clause-ended g c = λ done before did.
    on_ok_then c.finish_slot-2.result _ _ (both _ _ _ c.finish_slot-2.ensures.ok
    (c.finish_slot-2.ensures.done (((done ++ write CertOut ∷ []) ++ write Report ∷ []) ++ finish CertOut ∷ []) before
    (c.in_ok-finish_slot.ensures.done ((done ++ write CertOut ∷ []) ++ write Report ∷ []) before
    (c.in_ok-write_slot-2.ensures.done (done ++ write CertOut ∷ []) before
    (c.in_ok-write_slot.ensures.done done before did))))) (λ ok status is.
    outputs_ended (done ++ output_steps) before (g.D.Desk.state c.finish_slot-2.new.desk) status is
    (subst (λ (steps : List Step). HasDone steps before (g.D.Desk.state c.finish_slot-2.new.desk))
    (behind_three done (finish Report ∷ []) (write CertOut) (write Report) (finish CertOut)) ok.1)
    (λ begun. ok.0.others CertOut document_apart ∙ c.in_ok-finish_slot.ensures.ok.added) ok.0.added)

pub returns-in_err-write_slot-clause-ends : goal.returns-in_err-write_slot-clause-ends
returns-in_err-write_slot-clause-ends g c = λ done before did.
    let p = err_from_is_err_and c.from_residual.result c.from_residual.ensures.1 in
    rw (p.1, p.2) (c.in_err-write_slot.ensures.ends done (write Report ∷ finish CertOut ∷ finish Report ∷ []) before
    did)

pub returns-in_err-write_slot-2-clause-ends : goal.returns-in_err-write_slot-2-clause-ends
returns-in_err-write_slot-2-clause-ends g c = λ done before did.
    let p = err_from_is_err_and c.from_residual-in_err-write_slot-2.result
    c.from_residual-in_err-write_slot-2.ensures.1 in
    rw (p.1, p.2) (ends_behind done (write CertOut ∷ []) (write Report ∷ finish CertOut ∷ finish Report ∷ []) before
    (g.D.Desk.state c.write_slot-2.new.desk) _
    (c.in_err-write_slot-2.ensures.ends (done ++ write CertOut ∷ []) (finish CertOut ∷ finish Report ∷ []) before
    (c.in_ok-write_slot.ensures.done done before did)))

pub returns-in_err-finish_slot-clause-ends : goal.returns-in_err-finish_slot-clause-ends
returns-in_err-finish_slot-clause-ends g c = λ done before did.
    let p = err_from_is_err_and c.from_residual-in_err-finish_slot.result
    c.from_residual-in_err-finish_slot.ensures.1 in
    rw (p.1, p.2) (ends_as (((done ++ write CertOut ∷ []) ++ write Report ∷ []) ++ finish CertOut ∷ finish Report ∷ [])
    (done ++ output_steps) before (g.D.Desk.state c.finish_slot.new.desk) _
    (behind_two done (finish CertOut ∷ finish Report ∷ []) (write CertOut) (write Report))
    (c.in_err-finish_slot.ensures.ends ((done ++ write CertOut ∷ []) ++ write Report ∷ []) (finish Report ∷ []) before
    (c.in_ok-write_slot-2.ensures.done (done ++ write CertOut ∷ []) before (c.in_ok-write_slot.ensures.done done
    before did))))

pub returns-clause-ends : goal.returns-clause-ends
returns-clause-ends g c = λ done before did.
    subst (λ (steps : List Step). IfErr c.finish_slot-2.result (Ends steps before (g.D.Desk.state
    c.finish_slot-2.new.desk)))
    (behind_three done (finish Report ∷ []) (write CertOut) (write Report) (finish CertOut))
    (c.finish_slot-2.ensures.ends (((done ++ write CertOut ∷ []) ++ write Report ∷ []) ++ finish CertOut ∷ []) [] before
    (c.in_ok-finish_slot.ensures.done ((done ++ write CertOut ∷ []) ++ write Report ∷ []) before
    (c.in_ok-write_slot-2.ensures.done (done ++ write CertOut ∷ []) before (c.in_ok-write_slot.ensures.done done
    before did))))

pub returns-clause-document : goal.returns-clause-document
returns-clause-document g c = on_ok c.finish_slot-2.result _
    (c.finish_slot-2.ensures.keeps.others_written CertOut document_apart ∙ c.finish_slot.ensures.unchanged
    ∙ c.write_slot-2.ensures.keeps.others_written CertOut document_apart ∙ c.in_ok-write_slot.ensures.all)

pub returns-clause-report : goal.returns-clause-report
returns-clause-report g c = on_ok c.finish_slot-2.result _
    (c.finish_slot-2.ensures.unchanged ∙ c.finish_slot.ensures.keeps.others_written Report report_apart
    ∙ c.in_ok-write_slot-2.ensures.all
    ∙ ap (λ o. appended o c.args.report.now) (c.write_slot.ensures.keeps.others_written Report report_apart))
