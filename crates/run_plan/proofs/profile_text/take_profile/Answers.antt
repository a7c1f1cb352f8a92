use Rattle.run_plan.proofs.Running.{done_nothing, unfinished}
use Rattle.run_plan.proofs.profile_text.take_profile.Goals as goal

pub returns-in_ok-default_profile-in-None-clause-done : goal.returns-in_ok-default_profile-in-None-clause-done
returns-in_ok-default_profile-in-None-clause-done g c =
    rw (c.in-None.is) (done_nothing (g.D.Desk.state c.args.desk.now) c.requires.fresh
    (λ slot. unfinished _ _ (g.met.D.Desk.finished_was_begun c.args.desk.now slot) (c.requires.fresh slot))
    (λ slot written. g.met.D.Desk.unbegun_is_empty c.args.desk.now slot written (c.requires.fresh slot)))
