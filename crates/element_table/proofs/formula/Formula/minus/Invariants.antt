use Rattle.std.proofs.Common.{◌≡◌, ◌≤◌, ◌<◌, ◌-◌, ℕ, get_or}
use Rattle.element_table.proofs.formula.Formula.minus.Given as goal

-- the places so far have the loss, and the others are as they were
abbrev pub invariant-loop-place : goal.invariant-loop-place
invariant-loop-place l =
    ((k : ℕ) → k < l.place → get_or l.count-items k 0 ≡ get_or l.fn.self k 0 - get_or l.part-inside.counts k 0)
    × ((k : ℕ) → l.place ≤ k → get_or l.count-items k 0 ≡ get_or l.fn.self k 0)
