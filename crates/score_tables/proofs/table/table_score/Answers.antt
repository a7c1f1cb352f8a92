use Rattle.std.proofs.Common.{◌∙◌, ap, sym, rules, get_or, Some}
use Rattle.std.proofs.lemmas.List.Sorted.{answers_always}
use Rattle.score_tables.proofs.LossTables.{hit, missed}
use Rattle.score_tables.proofs.NearScores.{kept_score}
use Rattle.score_tables.proofs.table.table_score.Goals as goal

pub returns-in-Ok-clause-score : goal.returns-in-Ok-clause-score
returns-in-Ok-clause-score c =
    let score = (get_or c.args.table.now c.in-Ok.place c.index-table-place.result).1 in
    let found =
    hit c.args.table.now c.args.loss.now c.in-Ok.place c.index-table-place.result c.requires.rising
    c.in-Ok.ensures.bound
    (c.in-Ok.ensures.position (λ entry. entry.0) (answers_always _ _ _ (λ f a r g called. search rules))) in
    ap Some (kept_score c.from.result score
    (c.requires.near c.in-Ok.place c.index-table-place.result c.in-Ok.ensures.bound) c.from.ensures) ∙ sym found

pub returns-in-Err-clause-score : goal.returns-in-Err-clause-score
returns-in-Err-clause-score c =
    sym (missed c.args.table.now c.args.loss.now c.in-Err.field-0 c.requires.rising c.in-Err.ensures.bound
    (c.in-Err.ensures.position (λ entry. entry.0) (answers_always _ _ _ (λ f a r g called. search rules))))
