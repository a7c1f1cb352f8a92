use Rattle.std.proofs.Common.{w32}
use Rattle.std.proofs.lemmas.Int.{to_z-of_z}
use Rattle.loss_graph.proofs.Weights.{IsScore-sum, SFits-score}
use Rattle.loss_graph.proofs.edges.weight_between.Goals as goal

pub overflow_add-result : goal.overflow_add-result
overflow_add-result c =
    rw (
      to_z-of_z w32 c.loss_score.result (record { sfits = c.loss_score.type_inv }),
      to_z-of_z w32 c.args.base c.ranges.base,
    )
    (SFits-score _ (IsScore-sum c.loss_score.result c.args.base c.loss_score.ensures.near c.requires.near))

pub returns-clause-near : goal.returns-clause-near
returns-clause-near c =
    let score = IsScore-sum c.loss_score.result c.args.base c.loss_score.ensures.near c.requires.near in
    rw (
      to_z-of_z w32 c.loss_score.result (record { sfits = c.loss_score.type_inv }),
      to_z-of_z w32 c.args.base c.ranges.base,
      to_z-of_z w32 _ (SFits-score _ score),
    )
    score
