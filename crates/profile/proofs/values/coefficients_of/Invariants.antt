use Rattle.std.proofs.Common.{◌≡◌, ◌++◌, ◌-◌, pos, take, replicate}
use Rattle.toml.specs.View.{table_view}
use Rattle.profile.specs.Table.{element_numbers}
use Rattle.profile.proofs.values.coefficients_of.Given as goal

-- the places so far, and noughts
abbrev pub invariant-loop-place : goal.invariant-loop-place
invariant-loop-place l = l.coefficients ≡ take l.place (element_numbers (table_view l.elements))
    ++ replicate (16 - l.place) (pos 0)
