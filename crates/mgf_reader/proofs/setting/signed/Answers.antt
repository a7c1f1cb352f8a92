use Rattle.std.proofs.Common.{arith}
use Rattle.mgf_reader.proofs.Signed.{signed-none, signed-small}
use Rattle.mgf_reader.proofs.setting.signed.Goals as goal

pub returns-in_err-value : goal.returns-in_err-value
returns-in_err-value c = rw c.from_residual.ensures
    (signed-none c.args.digits.now c.args.sign (omega arith) c.in_err-value.ensures)

pub overflow_cast-result : goal.overflow_cast-result
overflow_cast-result c =
    let small = signed-small c.args.digits.now c.in_ok-value.value (omega arith) c.in_ok-value.ensures in
    omega arith
