use Rattle.std.proofs.Common.{◌≡◌, rules, w32, FitsSigned, to_z, of_z}
use Rattle.std.proofs.lemmas.Int.{to_z-of_z}
use Rattle.element_table.specs.Rule.{rdbe2_of}
use Rattle.score_tables.proofs.NearScores.{sum_of_three}
use Rattle.score_tables.proofs.scores.Scores.unnamed_score.Goals as goal

pub returns-clause-score : goal.returns-clause-score
returns-clause-score c =
    let fits : FitsSigned w32 c.rdbe2-bonds.result = search rules in
    let bonds : to_z w32 (of_z w32 c.rdbe2-bonds.result) ≡ rdbe2_of c.args.loss.now =
    rw to_z-of_z c.rdbe2-bonds.ensures.bonds in
    sum_of_three _ _ _ _ _ _ c.implausible_score.ensures.near c.radical_score.ensures.near c.negative_score.ensures.near
    c.implausible_score.ensures.score (rw bonds at c.radical_score.ensures.score)
    (rw bonds at c.negative_score.ensures.score)
