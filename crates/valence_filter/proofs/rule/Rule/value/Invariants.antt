use Rattle.std.proofs.Common.{◌≡◌, ◌+◌, ◌*◌, ◌+ℤ◌, take}
use Rattle.element_table.specs.Rule.{IsNearZero, linear_sum}
use Rattle.valence_filter.proofs.rule.Rule.value.Given as goal

-- the number of the places so far, and how far from 0 it can be
abbrev pub invariant-loop-place : goal.invariant-loop-place
invariant-loop-place l =
    (l.value ≡ l.self-inside.constant +ℤ linear_sum (take l.place l.self-inside.coefficients) l.formula)
    × IsNearZero (1000000 + l.place * (1000 * 1999)) l.value
