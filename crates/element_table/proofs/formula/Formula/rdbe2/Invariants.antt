use Rattle.std.proofs.Common.{◌≡◌, ◌+◌, ◌*◌, pos, ◌+ℤ◌, take}
use Rattle.element_table.specs.Rule.{IsNearZero, bond_coefficients, linear_sum}
use Rattle.element_table.proofs.formula.Formula.rdbe2.Given as goal

-- the number of the places so far, and how far from 0 it can be
abbrev pub invariant-loop-place : goal.invariant-loop-place
invariant-loop-place l =
    (l.rdbe2 ≡ pos 2 +ℤ linear_sum (take l.place bond_coefficients) l.self-inside.counts)
    × IsNearZero (2 + l.place * (2 * 1999)) l.rdbe2
