use Rattle.std.proofs.Common.{arith, []}
use Rattle.std.proofs.lemmas.Result.{on_ok_weaker}
use Rattle.formula_lister.specs.inside.Counting.{Completes, IsOne}
use Rattle.formula_lister.proofs.Completing.{Completes-itself, Completes-reached, one_from_Completes-itself}
use Rattle.formula_lister.proofs.Gaining.{Gains-as, Gains-none, Overfills-as}
use Rattle.formula_lister.proofs.counting.Lister.list_chosen.Goals as goal

pub returns-then-chosen-self-clause-gains : goal.returns-then-chosen-self-clause-gains
returns-then-chosen-self-clause-gains g c =
    let bounds = c.args.self.now.bounds in
    let chosen = c.args.chosen.now in
    Gains-none (Completes bounds (c.args.self.now.sieve.now.rules.items) [] chosen.formula) c.args.list.now.items
    (λ counts h. absurd (omega (
      arith,
      Completes-reached bounds (c.args.self.now.sieve.now.rules.items) chosen.formula counts c.requires.ready
          h,
      chosen.weighed.weighed,
    )))

pub returns-clause-gains : goal.returns-clause-gains
returns-clause-gains g c =
    let bounds = c.args.self.now.bounds in
    let rules = c.args.self.now.sieve.now.rules.items in
    let chosen = c.args.chosen.now in
    on_ok_weaker c.add.result
    (λ gains. Gains-as (IsOne rules chosen.formula) (Completes bounds rules [] chosen.formula) c.args.list.now.items
    c.add.new.list.items gains
    (λ counts one. Completes-itself bounds rules chosen.formula counts c.requires.ready
    (omega (arith, chosen.weighed.weighed)) (omega (arith, chosen.weighed.weighed)) one)
    (λ counts h. one_from_Completes-itself bounds rules chosen.formula counts c.requires.ready h))
    c.add.ensures.gains

pub returns-clause-too_many : goal.returns-clause-too_many
returns-clause-too_many g c = λ fault.
    let bounds = c.args.self.now.bounds in
    let rules = c.args.self.now.sieve.now.rules.items in
    let chosen = c.args.chosen.now in
    Overfills-as (IsOne rules chosen.formula) (Completes bounds rules [] chosen.formula) c.args.list.now.items
    (c.add.ensures.too_many fault)
    (λ counts one. Completes-itself bounds rules chosen.formula counts c.requires.ready
    (omega (arith, chosen.weighed.weighed)) (omega (arith, chosen.weighed.weighed)) one)
