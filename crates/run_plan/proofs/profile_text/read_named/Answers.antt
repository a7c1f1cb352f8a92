use Rattle.std.proofs.Common.{◌≡◌, ◌⊎◌, ◌++◌, ◌∙◌, ℕ, List, [], ◌∷◌, Option, None, Some, Result, Ok, option_map, ap}
use Rattle.std.proofs.Common.{IfSome, refl, sym, subst}
use Rattle.std.proofs.lemmas.Option.{IfSome_then}
use Rattle.std.proofs.lemmas.Result.{err_from_is_err_and}
use Rattle.frag_io.specs.declared.desk.Slot.TheVariants.{Profile}
use Rattle.profile.specs.Profile.{ProfileValue}
use Rattle.profile.specs.ProfileOf.{profile_of}
use Rattle.profile.specs.declared.fault.ProfileFault.{ProfileFault}
use Rattle.run_plan.specs.Class.{class_of, memory, IsOfProfile}
use Rattle.run_plan.specs.Plan.{begin, profile_steps, read}
use Rattle.run_plan.specs.ProfilePromise.{ProfilePromise}
use Rattle.run_plan.specs.Running.{Ends}
use Rattle.run_plan.proofs.Running.{done_nothing, error_ends, unfinished}
use Rattle.run_plan.proofs.ProfilePromise.{accepted_profile, error_promise, own_error, own_open, own_read}
use Rattle.run_plan.proofs.ProfilePromise.{stopped_promise}
use Rattle.run_plan.proofs.profile_text.read_named.Goals as goal

pub returns-in_err-begin_slot-clause-ends : goal.returns-in_err-begin_slot-clause-ends
returns-in_err-begin_slot-clause-ends g c = λ later.
    let p = err_from_is_err_and c.from_residual.result c.from_residual.ensures.1 in
    rw (p.1, p.2) (c.in_err-begin_slot.ensures.ends [] (read Profile ∷ later) (g.D.Desk.state c.args.desk.now)
    (done_nothing (g.D.Desk.state c.args.desk.now) c.requires.fresh
    (λ slot. unfinished _ _ (g.met.D.Desk.finished_was_begun c.args.desk.now slot) (c.requires.fresh slot))
    (λ slot written. g.met.D.Desk.unbegun_is_empty c.args.desk.now slot written (c.requires.fresh slot))))

pub returns-in_err-begin_slot-clause-promise : goal.returns-in_err-begin_slot-clause-promise
returns-in_err-begin_slot-clause-promise g c =
    let p = err_from_is_err_and c.from_residual.result c.from_residual.ensures.1 in
    let own = own_open _ c.in_err-begin_slot.ensures.answer in
    rw (p.1, p.2) (stopped_promise c.args.name.now [] (g.D.Desk.state c.args.desk.now) (g.D.Desk.state
    c.begin_slot.new.desk) _
    (c.in_err-begin_slot.ensures.ends [] (read Profile ∷ []) (g.D.Desk.state c.args.desk.now)
    (done_nothing (g.D.Desk.state c.args.desk.now) c.requires.fresh
    (λ slot. unfinished _ _ (g.met.D.Desk.finished_was_begun c.args.desk.now slot) (c.requires.fresh slot))
    (λ slot written. g.met.D.Desk.unbegun_is_empty c.args.desk.now slot written (c.requires.fresh slot))))
    (λ slot other. c.in_err-begin_slot.ensures.err slot ∙ c.requires.fresh slot) own.0 (λ fault told. absurd (own.1
    fault told)))

pub returns-in_err-text-clause-ends : goal.returns-in_err-text-clause-ends
returns-in_err-text-clause-ends g c = λ later.
    let p = err_from_is_err_and c.from_residual-in_err-text.result c.from_residual-in_err-text.ensures.1 in
    rw (p.1, p.2) (c.in_err-text.ensures.ends (begin Profile c.args.name.now ∷ []) later (g.D.Desk.state
    c.args.desk.now)
    (c.in_ok-begin_slot.ensures.done [] (g.D.Desk.state c.args.desk.now)
    (done_nothing (g.D.Desk.state c.args.desk.now) c.requires.fresh
    (λ slot. unfinished _ _ (g.met.D.Desk.finished_was_begun c.args.desk.now slot) (c.requires.fresh slot))
    (λ slot written. g.met.D.Desk.unbegun_is_empty c.args.desk.now slot written (c.requires.fresh slot)))) refl)

pub returns-in_err-text-clause-promise : goal.returns-in_err-text-clause-promise
returns-in_err-text-clause-promise g c =
    let p = err_from_is_err_and c.from_residual-in_err-text.result c.from_residual-in_err-text.ensures.1 in
    let own = own_read _ c.in_err-text.ensures.answer in
    rw (p.1, p.2) (stopped_promise c.args.name.now [] (g.D.Desk.state c.args.desk.now) (g.D.Desk.state
    c.read_text.new.desk) _
    (c.in_err-text.ensures.ends (begin Profile c.args.name.now ∷ []) [] (g.D.Desk.state c.args.desk.now)
    (c.in_ok-begin_slot.ensures.done [] (g.D.Desk.state c.args.desk.now)
    (done_nothing (g.D.Desk.state c.args.desk.now) c.requires.fresh
    (λ slot. unfinished _ _ (g.met.D.Desk.finished_was_begun c.args.desk.now slot) (c.requires.fresh slot))
    (λ slot written. g.met.D.Desk.unbegun_is_empty c.args.desk.now slot written (c.requires.fresh slot)))) refl)
    (λ slot other. c.read_text.ensures.begun slot ∙ c.in_ok-begin_slot.ensures.ok.others slot other ∙ c.requires.fresh
    slot) own.0
    (λ fault told. absurd (own.1 fault told)))

-- a text that was read whole gives the profile that was read from it
taken : (told : Option (List ℕ)) (bytes : List ℕ) (profile : ProfileValue) (outcome : Result ProfileValue ProfileFault)
    → IfSome told (λ text. text ≡ bytes) → profile_of bytes ≡ Ok profile → option_map profile_of told ≡ Some outcome
    → outcome ≡ Ok profile
taken None bytes profile outcome same known is = absurd cc
taken (Some text) bytes profile outcome same known is =
    let first : outcome ≡ profile_of text = cc in first ∙ ap profile_of same ∙ known

pub returns-in-Ok-clause-taken : goal.returns-in-Ok-clause-taken
returns-in-Ok-clause-taken g c = λ outcome is.
    let told = subst (λ o. IfSome o (λ text. (text ≡ c.in_ok-text.text.items) × ((g.D.Desk.state
    c.read_text.new.desk).left Profile ≡ Some []))) (c.in_ok-begin_slot.ensures.left refl)
    c.in_ok-text.ensures.text in
    taken ((g.D.Desk.state c.args.desk.now).gives c.args.name.now) c.in_ok-text.text.items _ outcome
    (IfSome_then ((g.D.Desk.state c.args.desk.now).gives c.args.name.now) told (λ text both. both.0))
    (sym (ap profile_of c.deref.ensures.value) ∙ c.in-Ok.ensures.read) is

pub returns-in-Ok-clause-done : goal.returns-in-Ok-clause-done
returns-in-Ok-clause-done g c =
    c.in_ok-text.ensures.done (begin Profile c.args.name.now ∷ []) (g.D.Desk.state c.args.desk.now)
    (c.in_ok-begin_slot.ensures.done [] (g.D.Desk.state c.args.desk.now)
    (done_nothing (g.D.Desk.state c.args.desk.now) c.requires.fresh
    (λ slot. unfinished _ _ (g.met.D.Desk.finished_was_begun c.args.desk.now slot) (c.requires.fresh slot))
    (λ slot written. g.met.D.Desk.unbegun_is_empty c.args.desk.now slot written (c.requires.fresh slot)))) refl

pub returns-clause-ends : goal.returns-clause-ends
returns-clause-ends g c = λ later.
    subst (λ status. Ends (profile_steps (Some c.args.name.now) ++ later) (g.D.Desk.state c.args.desk.now)
    (g.D.Desk.state c.read_text.new.desk) status)
    (sym c.error_status.ensures)
    (error_ends later (g.D.Desk.state c.args.desk.now) (g.D.Desk.state c.read_text.new.desk) c.args.name.now
    c.in-Err.error
    (c.in_ok-text.ensures.done (begin Profile c.args.name.now ∷ []) (g.D.Desk.state c.args.desk.now)
    (c.in_ok-begin_slot.ensures.done [] (g.D.Desk.state c.args.desk.now)
    (done_nothing (g.D.Desk.state c.args.desk.now) c.requires.fresh
    (λ slot. unfinished _ _ (g.met.D.Desk.finished_was_begun c.args.desk.now slot) (c.requires.fresh slot))
    (λ slot written. g.met.D.Desk.unbegun_is_empty c.args.desk.now slot written (c.requires.fresh slot)))) refl)
    (c.read_text.ensures.begun Profile ∙ c.in_ok-begin_slot.ensures.ok.added))

pub returns-clause-promise : goal.returns-clause-promise
returns-clause-promise g c =
    let told = subst (λ o. IfSome o (λ text. (text ≡ c.in_ok-text.text.items) × ((g.D.Desk.state
    c.read_text.new.desk).left Profile ≡ Some []))) (c.in_ok-begin_slot.ensures.left refl)
    c.in_ok-text.ensures.text in
    subst (λ status. ProfilePromise (Some c.args.name.now) (g.D.Desk.state c.args.desk.now) (g.D.Desk.state
    c.read_text.new.desk) status) (sym c.error_status.ensures)
    (error_promise c.args.name.now (g.D.Desk.state c.args.desk.now) (g.D.Desk.state c.read_text.new.desk)
    c.in-Err.error c.in_ok-text.text.items
    (subst (λ status. Ends (profile_steps (Some c.args.name.now) ++ []) (g.D.Desk.state c.args.desk.now)
    (g.D.Desk.state c.read_text.new.desk) status) c.error_status.ensures (returns-clause-ends g c []))
    (λ slot other. c.read_text.ensures.begun slot ∙ c.in_ok-begin_slot.ensures.ok.others slot other ∙ c.requires.fresh
    slot)
    (IfSome_then ((g.D.Desk.state c.args.desk.now).gives c.args.name.now) told (λ text both. both.0))
    (λ fault is. sym (ap profile_of c.deref.ensures.value) ∙ c.in-Err.ensures.refused fault is))

pub returns-clause-accepted : goal.returns-clause-accepted
returns-clause-accepted g c = λ profile is answer.
    accepted_profile c.args.name.now (g.D.Desk.state c.args.desk.now) (g.D.Desk.state c.read_text.new.desk)
    c.error_status.result profile (returns-clause-promise g c)
    (subst (λ status. (class_of status ≡ memory) ⊎ IsOfProfile (class_of status)) (sym c.error_status.ensures)
    (own_error c.in-Err.error)) is answer
