use Rattle.std.proofs.Common.{sym}
use Rattle.toml.specs.Data.{no_items}
use Rattle.toml.specs.View.{view, table_view}
use Rattle.profile.proofs.FineLaws.{fine_rule}
use Rattle.profile.proofs.values.add_rule.Goals as goal

pub rule_of-requires : goal.rule_of-requires
rule_of-requires c = fine_rule (view c.args.item.now) no_items (table_view c.in-Some.rule.now) c.requires
    (sym c.in-Some.ensures)
