-- What is drawn for a spectrum: the formula of its precursor, and for each peak a part of it with an intensity.
use Rattle.std.specs.Prelude.{◌+◌, ◌*◌, ◌%◌, ◌++◌, ℕ, List, [], ◌∷◌, replicate, slice_index}
use Rattle.case_maker.specs.Draws.{draw_at}

-- the formula with so many atoms of carbon, hydrogen, nitrogen and oxygen: hydrogen stands first in the element table
abbrev pub formula_of : ℕ → ℕ → ℕ → ℕ → List ℕ
formula_of carbon hydrogen nitrogen oxygen =
    (hydrogen ∷ carbon ∷ nitrogen ∷ oxygen ∷ []) ++ replicate 12 0

-- Four draws give the formula of a precursor: first its carbon, from 8 to 50, then nitrogen and oxygen.
abbrev pub drawn_carbon : ℕ → ℕ
drawn_carbon state = 8 + draw_at 0 state % 43

abbrev pub drawn_nitrogen : ℕ → ℕ
drawn_nitrogen state = draw_at 1 state % 5

abbrev pub drawn_oxygen : ℕ → ℕ
drawn_oxygen state = 1 + draw_at 2 state % 9

-- Hydrogen comes last: an even number of at most twice the carbon, and one more where nitrogen is odd.
abbrev pub drawn_hydrogen : ℕ → ℕ
drawn_hydrogen state = 2 * (draw_at 3 state % (drawn_carbon state + 1)) + drawn_nitrogen state % 2

abbrev pub drawn_formula : ℕ → List ℕ
drawn_formula state =
    formula_of (drawn_carbon state) (drawn_hydrogen state) (drawn_nitrogen state) (drawn_oxygen state)

-- no formula that is drawn weighs more: 50 atoms of carbon, 101 of hydrogen, 4 of nitrogen and 9 of oxygen, in units of
-- 10^-7 Da
abbrev pub greatest_drawn_mass : ℕ
greatest_drawn_mass = 9017568524

-- Five draws give a peak. The first four are of a part, in the order carbon, hydrogen, nitrogen, oxygen: each count is
-- at most the whole's.
abbrev pub drawn_part : List ℕ → ℕ → List ℕ
drawn_part whole state =
    formula_of (draw_at 0 state % (slice_index whole 1 + 1)) (draw_at 1 state % (slice_index whole 0 + 1))
    (draw_at 2 state % (slice_index whole 2 + 1)) (draw_at 3 state % (slice_index whole 3 + 1))

-- The fifth is of its intensity, from 1 to 1,000,000.
abbrev pub drawn_intensity : ℕ → ℕ
drawn_intensity state = 1 + draw_at 4 state % 1000000
