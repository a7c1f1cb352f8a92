use Rattle.std.proofs.Common.{◌≡◌, ◌+◌, ◌-◌, ◌/◌, ◌%◌, ◌^◌, ◌++◌, map}
use Rattle.std.specs.List.{range_with_len}
use Rattle.fixed_mass.proofs.fixed_text.prepend_decimals.Given as goal

abbrev pub invariant-loop-place : goal.invariant-loop-place
invariant-loop-place l =
    l.text ≡ map (λ place. 48 + l.units / 10 ^ (7 - 1 - place) % 10) (range_with_len (7 - l.place) l.place)
    ++ l.initial.text
