use Rattle.std.proofs.Common.{◌∙◌, length, ap}
use Rattle.std.specs.Char.{is_ascii_uppercase}
use Rattle.std.specs.Option.{unwrap_or}
use Rattle.element_table.proofs.Prefixes.{unwrap_or-position}
use Rattle.element_table.proofs.reading.count_to_capital.Goals as goal

pub returns-clause-count : goal.returns-clause-count
returns-clause-count c =
    c.unwrap_or.ensures ∙ ap (λ found. unwrap_or found (length c.args.bytes.now)) c.first_capital.ensures
    ∙ unwrap_or-position is_ascii_uppercase c.args.bytes.now
