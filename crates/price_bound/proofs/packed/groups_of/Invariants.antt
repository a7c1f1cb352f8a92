use Rattle.std.proofs.Common.{◌≤◌, length}
use Rattle.std.specs.List.{All}
use Rattle.price_bound.specs.inside.Packed.{IsGroup}
use Rattle.price_bound.proofs.packed.groups_of.Given as goal

abbrev pub invariant-loop-place : goal.invariant-loop-place
invariant-loop-place l = record {
  groups : All (IsGroup (length l.edges)) l.groups.items;
  last : IsGroup (length l.edges) l.group;
  here : l.group.past ≤ l.place;
}
