-- The mass window of a peak.
use Rattle.std.specs.Prelude.{◌≤◌, ◌+◌, ◌*◌, ◌/◌, ℕ, ℤ, pos, ◌+ℤ◌, ◌-ℤ◌, ◌≤ℤ◌, List, min, max}
use Rattle.element_table.specs.Formula.{mass_of}

-- Half the width of a window is at most 0.2 Da.
abbrev pub greatest_half_width : ℕ
greatest_half_width = 2000000

-- neutral masses around a centre, in units of 10^-7 Da
pub record Window : Type 0 where
  pub centre : ℤ
  pub half : ℕ

-- half the width at an m/z: so many parts in a million of it, or so many units where that is more
abbrev pub half_width_of : ℕ → ℕ → ℕ → ℕ
half_width_of ppm units mz = min greatest_half_width (max (mz * ppm / 1000000) units)

-- the window of a peak: its m/z less the adduct's shift, and the half-width there
abbrev pub window_of : ℤ → ℕ → ℕ → ℕ → Window
window_of shift ppm units mz = record { centre = pos mz -ℤ shift; half = half_width_of ppm units mz }

-- a formula is in a window: its mass is at most half the width away from the centre
pub record InWindow (window : Window) (counts : List ℕ) : Type 0 where
  pub not_below : (window.centre -ℤ pos window.half) ≤ℤ pos (mass_of counts)
  pub not_above : pos (mass_of counts) ≤ℤ (window.centre +ℤ pos window.half)

-- the interval of a peak: all numbers at most half the width away from its m/z
pub record InInterval (ppm units mz n : ℕ) : Type 0 where
  pub not_below : mz ≤ n + half_width_of ppm units mz
  pub not_above : n ≤ mz + half_width_of ppm units mz
