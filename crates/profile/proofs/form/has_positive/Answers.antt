use Rattle.std.proofs.Common.{arith}
use Rattle.std.proofs.lemmas.List.{drop_all}
use Rattle.toml.specs.View.{table_view}
use Rattle.profile.specs.Table.{element_numbers}
use Rattle.profile.proofs.ElementLaws.{length-element_numbers}
use Rattle.profile.proofs.form.has_positive.Goals as goal

pub returns : goal.returns
returns c =
    let numbers = element_numbers (table_view c.args.table.now) in
    rw (drop_all c.loop-place.place numbers (omega (arith, length-element_numbers (table_view c.args.table.now)))) at
    c.loop-place.invariant
