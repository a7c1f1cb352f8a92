use Rattle.std.proofs.Common.{◌≡◌, ◌++◌, ◌-◌, pos, take}
use Rattle.std.specs.Prelude.{replicate}
use Rattle.element_table.specs.Rule.{bond_coefficients}
use Rattle.valence_filter.proofs.rule.bond_numbers.Given as goal

-- the places so far, and noughts
abbrev pub invariant-loop-place : goal.invariant-loop-place
invariant-loop-place l = l.numbers ≡ take l.place bond_coefficients ++ replicate (16 - l.place) (pos 0)
