use Rattle.profile.proofs.form.Form.at.Goals as goal

pub returns-in-Scores : goal.returns-in-Scores
returns-in-Scores c known is = rw c.in-Scores.is c.among-in-Scores.ensures
