use Rattle.std.proofs.Common.{◌∙◌, sym, ap, pos, arith, rules, w64, FitsSigned}
use Rattle.std.proofs.lemmas.Int.{to_z-of_z}
use Rattle.toml.specs.View.{table_view}
use Rattle.profile.specs.Table.{number_at}
use Rattle.profile.proofs.ElementLaws.{get_or-element_numbers, get_or-element_numbers_past}
use Rattle.profile.proofs.table.element_number.Goals as goal

pub returns-then-place-lt11 : goal.returns-then-place-lt11
returns-then-place-lt11 c =
    let fits : FitsSigned w64 c.number_at.result = search rules in
    let entries = table_view c.args.table.now in
    rw to_z-of_z (c.number_at.ensures ∙ ap (λ symbol. number_at entries symbol (pos 0)) c.symbol_at.ensures.symbol
    ∙ sym (get_or-element_numbers entries c.args.place c.if-place-lt11.true))

pub returns-else-place-lt11 : goal.returns-else-place-lt11
returns-else-place-lt11 c = sym (get_or-element_numbers_past (table_view c.args.table.now) c.args.place (omega arith))
