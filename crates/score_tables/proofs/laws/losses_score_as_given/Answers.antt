use Rattle.score_tables.proofs.LossTables.{find-sorted_losses}
use Rattle.score_tables.proofs.laws.losses_score_as_given.Goals as goal

pub returns : goal.returns
returns c scores loss = rw (find-sorted_losses loss scores.named, find-sorted_losses loss scores.implausible)
