use Rattle.std.proofs.Common.{rules, length, arith, ap}
use Rattle.std.specs.Prelude.{◌↔◌, IsTrue}
use Rattle.element_table.specs.Formula.{IsWithin}
use Rattle.element_table.proofs.Within.{Decides-is_within, same_answer}
use Rattle.element_table.proofs.formula.Formula.within.Goals as goal

pub returns-clause-test : goal.returns-clause-test
returns-clause-test c =
    let exactly : IsTrue c.all.result ↔ IsWithin c.args.self.now c.args.other.now = search rules in
    same_answer c.all.result _ _ exactly (Decides-is_within c.args.self.now c.args.other.now
    (omega (
      arith,
      ap length c.self.view_is,
      ap length c.other.view_is,
      c.self.invariant.places,
      c.other.invariant.places,
    )))
