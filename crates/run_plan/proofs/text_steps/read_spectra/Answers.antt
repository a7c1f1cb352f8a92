use Rattle.std.proofs.Common.{◌++◌, List, [], ◌∷◌, subst}
use Rattle.std.specs.Prelude.{IfErr, OnOk, option_map}
use Rattle.std.proofs.lemmas.Result.{err_from_is_err_and}
use Rattle.frag_io.specs.declared.desk.Slot.TheVariants.{Spectra, Report}
use Rattle.run_plan.specs.Plan.{Step, begin, document_steps, read}
use Rattle.run_plan.specs.Running.{Ends, HasDone}
use Rattle.run_plan.specs.TextSteps.{begin_of}
use Rattle.run_plan.proofs.Running.{unread}
use Rattle.run_plan.proofs.TextSteps.{all_done, behind_first, behind_middle, behind_third, ends_as, still_unread}
use Rattle.run_plan.proofs.text_steps.read_spectra.Goals as goal

pub returns-in_err-begin_slot-clause-ends : goal.returns-in_err-begin_slot-clause-ends
returns-in_err-begin_slot-clause-ends g c = λ done later before did.
    let middle : List Step = document_steps (option_map begin_of c.args.document) in
    let p = err_from_is_err_and c.from_residual.result c.from_residual.ensures.1 in
    rw (p.1, p.2) (c.in_err-begin_slot.ensures.ends done ((middle ++ begin Report [] ∷ read Spectra ∷ []) ++ later)
    before did)

pub returns-in_err-begin_document-clause-ends : goal.returns-in_err-begin_document-clause-ends
returns-in_err-begin_document-clause-ends g c = λ done later before did.
    let first : Step = begin Spectra c.args.name.now in
    let last : List Step = begin Report [] ∷ read Spectra ∷ [] in
    let middle : List Step = document_steps (option_map begin_of c.args.document) in
    let p = err_from_is_err_and c.from_residual-in_err-begin_document.result
    c.from_residual-in_err-begin_document.ensures.1 in
    rw (p.1, p.2) (ends_as ((done ++ first ∷ []) ++ (middle ++ (last ++ later))) (done ++ (first ∷ ((middle ++ last)
    ++ later))) before
    (g.D.Desk.state c.begin_document.new.desk) _ (behind_first done middle last later first)
    (c.in_err-begin_document.ensures.ends (done ++ first ∷ []) (last ++ later) before (c.in_ok-begin_slot.ensures.done
    done before did)))

pub returns-in_err-begin_slot-2-clause-ends : goal.returns-in_err-begin_slot-2-clause-ends
returns-in_err-begin_slot-2-clause-ends g c = λ done later before did.
    let first : Step = begin Spectra c.args.name.now in
    let last : List Step = begin Report [] ∷ read Spectra ∷ [] in
    let middle : List Step = document_steps (option_map begin_of c.args.document) in
    let p = err_from_is_err_and c.from_residual-in_err-begin_slot-2.result
    c.from_residual-in_err-begin_slot-2.ensures.1 in
    rw (p.1, p.2) (ends_as (((done ++ first ∷ []) ++ middle) ++ (last ++ later)) (done ++ (first ∷ ((middle ++ last)
    ++ later))) before
    (g.D.Desk.state c.begin_slot-2.new.desk) _ (behind_middle done middle last later first)
    (c.in_err-begin_slot-2.ensures.ends ((done ++ first ∷ []) ++ middle) (read Spectra ∷ later) before
    (c.in_ok-begin_document.ensures.done (done ++ first ∷ []) before (c.in_ok-begin_slot.ensures.done done before
    did))))

pub returns-clause-done : goal.returns-clause-done
returns-clause-done g c = λ done before did.
    let first : Step = begin Spectra c.args.name.now in
    let middle : List Step = document_steps (option_map begin_of c.args.document) in
    subst (λ (steps : List Step). OnOk c.read_text.result (HasDone steps before (g.D.Desk.state c.read_text.new.desk)))
    (all_done done middle first (begin Report []) (read Spectra))
    (c.read_text.ensures.done (((done ++ first ∷ []) ++ middle) ++ begin Report [] ∷ []) before
    (c.in_ok-begin_slot-2.ensures.done ((done ++ first ∷ []) ++ middle) before
    (c.in_ok-begin_document.ensures.done (done ++ first ∷ []) before (c.in_ok-begin_slot.ensures.done done before did)))
    (still_unread done c.args.document c.args.name.now
    (unread done before (g.D.Desk.state c.args.desk.now) Spectra did (c.requires.only Spectra (λ is. cc)))))

pub returns-clause-ends : goal.returns-clause-ends
returns-clause-ends g c = λ done later before did.
    let first : Step = begin Spectra c.args.name.now in
    let middle : List Step = document_steps (option_map begin_of c.args.document) in
    subst (λ (steps : List Step). IfErr c.read_text.result (Ends steps before (g.D.Desk.state c.read_text.new.desk)))
    (behind_third done middle later first (begin Report []) (read Spectra))
    (c.read_text.ensures.ends (((done ++ first ∷ []) ++ middle) ++ begin Report [] ∷ []) later before
    (c.in_ok-begin_slot-2.ensures.done ((done ++ first ∷ []) ++ middle) before
    (c.in_ok-begin_document.ensures.done (done ++ first ∷ []) before (c.in_ok-begin_slot.ensures.done done before did)))
    (still_unread done c.args.document c.args.name.now
    (unread done before (g.D.Desk.state c.args.desk.now) Spectra did (c.requires.only Spectra (λ is. cc)))))
