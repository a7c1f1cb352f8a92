use Rattle.std.proofs.Common.{◌/◌, ◌^◌, length, ap, arith}
use Rattle.std.specs.Prelude.{decimal}
use Rattle.std.proofs.lemmas.List.{length-append}
use Rattle.std.proofs.lemmas.Fmt.{length-decimal-le}
use Rattle.fixed_mass.proofs.fixed_text.print_units.Goals as goal

-- thirteen digits, the point and seven decimals at most
pub returns-clause-short : goal.returns-clause-short
returns-clause-short c =
    let whole = length-decimal-le 13 (c.args.units / 10 ^ 7) (omega arith) (omega arith) (omega arith) in
    let none = ap length c.empty-text.ensures in
    let decimals = ap length c.prepend_decimals.ensures in
    let point = ap length c.prepend.ensures in
    let all = ap length c.prepend_whole.ensures in
    omega (arith, length-append (decimal (c.args.units / 10 ^ 7)) c.prepend.new.self)
