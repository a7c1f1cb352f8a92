use Rattle.std.proofs.Common.{◌≡◌, drop, pos}
use Rattle.std.specs.Prelude.{int_lt}
use Rattle.std.specs.List.{list_any}
use Rattle.toml.specs.View.{table_view}
use Rattle.profile.specs.Form.{has_positive}
use Rattle.profile.specs.Table.{element_numbers}
use Rattle.profile.proofs.form.has_positive.Given as goal

abbrev pub invariant-loop-place : goal.invariant-loop-place
invariant-loop-place l = list_any (int_lt (pos 0)) (drop l.place (element_numbers (table_view l.table)))
    ≡ has_positive (table_view l.table)
