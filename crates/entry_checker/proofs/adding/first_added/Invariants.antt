use Rattle.std.proofs.Common.{◌<◌, ℕ}
use Rattle.entry_checker.specs.EntryPlaces.{CanBeAdded}
use Rattle.entry_checker.proofs.adding.first_added.Given as goal

abbrev pub invariant-loop-edge : goal.invariant-loop-edge
invariant-loop-edge l = (earlier : ℕ) → earlier < l.edge → CanBeAdded l.graph l.edges earlier → ⊥
