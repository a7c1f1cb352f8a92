use Rattle.std.proofs.Common.{◌*◌, ◌%◌, ◌^◌, ◌≤◌, ℕ, arith}
use Rattle.std.proofs.Math.Nat.{pow-le-pow_right}
use Rattle.std.proofs.lemmas.Nat.{one_shl}
use Rattle.certificate_checker.proofs.vertex.sets_of.Goals as goal

few : (size : ℕ) → size ≤ 12 → (1 * 2 ^ size) % 2 ^ 64 ≤ 4096
few size small = rw (one_shl size 64 (omega arith)) (pow-le-pow_right {n = 2} (omega arith) {i = size} {j = 12} small)

pub returns-clause-few : goal.returns-clause-few
returns-clause-few c = few c.args.size c.requires
