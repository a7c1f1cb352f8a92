use Rattle.std.proofs.Common.{arith}
use Rattle.formula_lister.proofs.Leveled.{jump_none, jump_same}
use Rattle.formula_lister.proofs.levels.Rest.next.Goals as goal

pub returns-then-width-over-clause-same : goal.returns-then-width-over-clause-same
returns-then-width-over-clause-same c =
    let rest = c.args.self.now in
    let levels = c.args.next.now.levels in
    jump_same rest.level c.args.last.now.mass rest.over rest.count levels.jump c.borrowed.result
    levels.defect.number levels.spare c.left_over.result c.requires.pair.paired.jumps
    (λ less. (c.borrowed.ensures.one less, c.left_over.ensures.borrowed less))
    (λ not. (c.borrowed.ensures.none not, c.left_over.ensures.enough not))

pub returns-then-width-over-clause-none : goal.returns-then-width-over-clause-none
returns-then-width-over-clause-none c = λ count level over fits after same.
    let rest = c.args.self.now in
    let levels = c.args.next.now.levels in
    jump_none rest.level c.args.last.now.mass rest.over rest.count levels.jump c.borrowed.result
    levels.defect.number levels.spare c.args.width level count over c.requires.pair.paired.jumps
    c.if-self-defect.true c.borrowed.ensures.one c.borrowed.ensures.none c.requires.pair.paired.some
    c.if-width-over.true (omega (arith, c.requires.narrow, c.requires.pair.last_known.heavy)) fits after same
