use Rattle.std.proofs.Common.{sym, refl, codes}
use Rattle.toml.specs.View.{table_view}
use Rattle.profile.specs.Form.{limits, whole}
use Rattle.profile.proofs.FineLaws.{fine_table}
use Rattle.profile.proofs.values.limits_in.Goals as goal

pub limits_of-requires : goal.limits_of-requires
limits_of-requires c = (fine_table whole limits (table_view c.args.table.now) (codes "elements")
    (table_view c.in-Some.elements.now) c.requires (λ known. refl) refl (sym c.in-Some.ensures)).1
