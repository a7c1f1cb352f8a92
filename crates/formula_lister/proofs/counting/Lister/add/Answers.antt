use Rattle.std.proofs.Common.{refl, arith}
use Rattle.formula_lister.specs.inside.Counting.{IsOne}
use Rattle.formula_lister.proofs.Gaining.{Overfills-one}
use Rattle.formula_lister.proofs.counting.Lister.add.Goals as goal

pub returns-then-len-ge-GREATEST_LIST-clause-too_many :
    goal.returns-then-len-ge-GREATEST_LIST-clause-too_many
returns-then-len-ge-GREATEST_LIST-clause-too_many g c = λ is.
    Overfills-one (IsOne (c.args.self.now.sieve.now.rules.items) c.args.formula.now) c.args.list.now.items
    c.args.formula.now (omega arith) (refl, c.if-not-passes.ensures.exactly.0 refl)
