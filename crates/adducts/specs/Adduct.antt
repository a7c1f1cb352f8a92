-- What an ion carries beside its molecule, as a plain value.
use Rattle.std.specs.Prelude.{ℤ, Bool, List, ℕ}

-- a shift is at most 100 Da from 0, in units of 10^-7 Da
abbrev pub greatest_shift : ℕ
greatest_shift = 1000000000

-- a bound on twice the rings and double bonds is at most so far from 0
abbrev pub greatest_bound : ℕ
greatest_bound = 1000

-- whether the charge is positive, the ion's m/z less the mass of its formula in units of 10^-7 Da, what is added to the
-- molecule, and the least number of twice the rings and double bonds that a listed formula has
pub record AdductValue : Type 0 where
  pub plus : Bool
  pub shift : ℤ
  pub extra : List ℕ
  pub bound : ℤ
