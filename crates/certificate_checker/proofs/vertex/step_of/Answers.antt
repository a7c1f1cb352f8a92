use Rattle.std.proofs.Common.{◌*◌, ◌%◌, ◌^◌, ◌≤◌, ℕ, arith}
use Rattle.std.proofs.Math.Nat.{pow-le-pow_right}
use Rattle.std.proofs.lemmas.Nat.{one_shl}
use Rattle.certificate_checker.proofs.vertex.step_of.Goals as goal

few : (size : ℕ) → size ≤ 11 → 2 * ((1 * 2 ^ size) % 2 ^ 64) ≤ 4096
few size small =
    let power : 2 ^ size ≤ 2048 = pow-le-pow_right {n = 2} (omega arith) {i = size} {j = 11} small in
    rw (one_shl size 64 (omega arith)) (omega arith)

pub returns-clause-few : goal.returns-clause-few
returns-clause-few c = few _ (omega (arith, c.colour_count.ensures, c.requires.few))
