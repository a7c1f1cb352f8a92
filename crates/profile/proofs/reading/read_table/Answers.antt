use Rattle.std.proofs.Common.{◌≡◌, ◌∙◌, ap, Err}
use Rattle.std.proofs.lemmas.Bool.{false≢true}
use Rattle.toml.specs.View.{table_view}
use Rattle.profile.specs.declared.fault.ProfileFault.TheVariants.{NotToml}
use Rattle.profile.proofs.AnswerLaws.{profile_of-not_toml, table_of-utf8, table_of-none}
use Rattle.profile.proofs.reading.read_table.Goals as goal

pub returns-in-Ok-clause-read : goal.returns-in-Ok-clause-read
returns-in-Ok-clause-read c = table_of-utf8 c.args.bytes.now
    (table_view c.in-Ok.table) c.in-Ok.ensures.ok.0 c.in-Ok.ensures.ok.1

pub returns-else-is_memory-clause-refused : goal.returns-else-is_memory-clause-refused
returns-else-is_memory-clause-refused c fault same =
    let bytes = c.args.bytes.now in
    let none = table_of-none bytes (c.in-Err.ensures.refused
    (λ memory. false≢true (c.if-is_memory.ensures.1 memory))) in
    let not_toml : NotToml ≡ fault = cc in
    profile_of-not_toml bytes none ∙ ap Err not_toml
