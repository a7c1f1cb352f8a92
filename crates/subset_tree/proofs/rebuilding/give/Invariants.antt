use Rattle.std.proofs.Common.{◌≡◌, Bool, List, ◌++◌, drop, length, take}
use Rattle.subset_tree.specs.inside.Rebuilding.{given}
use Rattle.tree_certificate.specs.ColourSet.{place_of}
use Rattle.subset_tree.proofs.rebuilding.give.Given as goal

abbrev pub invariant-loop-owner : goal.invariant-loop-owner
invariant-loop-owner l = record {
  left : (set : List Bool) → place_of set ≡ l.part → l.left ≡ place_of (drop l.owner-index set);
  given : (set : List Bool) → place_of set ≡ l.part → length set ≡ length l.owners
      → take l.owner-index l.owners ++ given (drop l.owner-index set) l.vertex (drop l.owner-index l.owners)
      ≡ given set l.vertex l.initial.owners;
}
