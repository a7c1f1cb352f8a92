use Rattle.std.proofs.Common.{◌≡◌, ◌≤◌, length}
use Rattle.price_bound.specs.inside.Packed.{AreHeld}
use Rattle.price_bound.proofs.packed.Packed.potentials.Given as goal

abbrev pub decreases-loop-place : goal.decreases-loop-place
decreases-loop-place l = l.place

abbrev pub invariant-loop-place : goal.invariant-loop-place
invariant-loop-place l = record {
  within : l.place ≤ length l.self.groups.items;
  long : length l.potentials ≡ 512;
  held : AreHeld l.potentials;
}
