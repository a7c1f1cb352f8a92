use Rattle.std.proofs.Common.{◌%◌, ℕ, subst}
use Rattle.residue_table.specs.inside.Entries.{IsEntry}
use Rattle.residue_table.proofs.Filling.{IsSum-decided}
use Rattle.residue_table.proofs.table.Table.can.Goals as goal

pub returns-then-entry-lt-NOTHING : goal.returns-then-entry-lt-NOTHING
returns-then-entry-lt-NOTHING c =
    IsSum-decided c.args.self.now c.args.number c.args.places c.entry-entry.result c.entry-entry.ensures.masses
    c.requires.some c.if-entry-lt-NOTHING.true
    (subst (λ (n : ℕ). IsEntry c.args.self.now (c.args.number % n) c.args.places c.entry-entry.result)
    c.first.ensures.first c.entry-entry.ensures.entry)
