-- A number and its inverse.
use Rattle.std.specs.Prelude.{◌≤◌, ◌<◌, ◌+◌, ◌*◌, ◌^◌, ℕ}

-- how often a number is in 2^64 - 1
pub record IsInverse (number inverse : ℕ) : Type 0 where
  pub some : 0 < number
  pub not_more : inverse * number < 2 ^ 64
  pub not_less : 2 ^ 64 ≤ inverse * number + number
