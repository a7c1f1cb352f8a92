use Rattle.fragment_run.proofs.SolvedAndChecked.{answered_alike}
use Rattle.fragment_run.proofs.laws.what_solve_wrote_check_accepts.Goals as goal

pub returns : goal.returns
returns c = answered_alike c.a_right_document_is_accepted.ensures c.what_is_accepted_is_nothing_else.ensures
