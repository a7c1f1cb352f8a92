use Rattle.std.proofs.Common.{sym, refl, codes}
use Rattle.toml.specs.View.{table_view, array_view}
use Rattle.profile.specs.Form.{rules, whole}
use Rattle.profile.proofs.FineLaws.{fine_array}
use Rattle.profile.proofs.values.rules_in.Goals as goal

pub rules_said-requires : goal.rules_said-requires
rules_said-requires c = (fine_array whole rules (table_view c.args.table.now) (codes "rules")
    (array_view c.in-Some.items.now) c.requires (λ known. refl) refl (sym c.in-Some.ensures)).2
