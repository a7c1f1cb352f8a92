use Rattle.std.proofs.Common.{◌≡◌, ◌≤◌, ◌*◌, take}
use Rattle.element_table.specs.Elements.{masses}
use Rattle.element_table.specs.Formula.{weighted_sum}
use Rattle.element_table.proofs.formula.Formula.mass.Given as goal

-- the mass of the places so far, each of at most 1,999 atoms of the heaviest element
abbrev pub invariant-loop-place : goal.invariant-loop-place
invariant-loop-place l =
    (l.mass ≡ weighted_sum (take l.place l.self-inside.counts) masses) × (l.mass ≤ l.place * (1999 * 1269044719))
