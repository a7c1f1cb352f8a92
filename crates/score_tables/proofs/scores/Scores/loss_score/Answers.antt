use Rattle.std.proofs.Common.{arith}
use Rattle.std.proofs.lemmas.Int.{ints}
use Rattle.score_tables.proofs.NearScores.{near_difference}
use Rattle.score_tables.proofs.scores.Scores.loss_score.Goals as goal
use Rattle.score_tables.proofs.scores.Scores.loss_score.Goals.{in-Some, in-None}

pub returns-clause-near : goal.returns-clause-near
returns-clause-near c =
    elim c.match-table_score.branch [
      | in-Some w ↦
          let near = w.in-Some.ensures.near in
          near_difference _ c.size_cost.result w.in-Some.score w.base-is (omega (arith, ints), omega (arith, ints))
          c.size_cost.ensures.near
      | in-None w ↦
          near_difference _ c.size_cost.result w.unnamed_score-base.result w.base-is w.unnamed_score-base.ensures.near
          c.size_cost.ensures.near
    ]
