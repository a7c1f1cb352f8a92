use Rattle.std.proofs.Common.{◌∙◌, ◌++◌, ap}
use Rattle.std.specs.Prelude.{codes}
use Rattle.std.specs.Fmt.{signed_decimal}
use Rattle.std.specs.List.{enumerate_from, flat_map}
use Rattle.rank_report.specs.Report as spec
use Rattle.rank_report.proofs.Fields.{field_and_three}
use Rattle.rank_report.proofs.lines.push_tree.Goals as goal

pub returns : goal.returns
returns c =
    let rows = c.items.ensures ∙ ap (λ tree. tree.rows) c.tree.view_is in
    field_and_three c.args.text.now.items (codes "  score ") (signed_decimal c.args.tree.now.score)
    (spec.mark_words c.args.tree.now.mark c.args.tree.now.upper)
    (codes "\n") (flat_map spec.row_line (enumerate_from 1 c.args.tree.now.rows))
    c.push_score.new.text.items c.push_mark.new.text.items c.push.new.self.items c.push_rows.new.text.items
    c.in_ok-push_score.ensures c.in_ok-push_mark.ensures c.in_ok-push.ensures.items
    (c.in_ok-push_rows.ensures ∙ ap (λ rows. c.push.new.self.items ++ flat_map spec.row_line (enumerate_from 1 rows))
    rows)
