use Rattle.std.proofs.Common.{◌≡◌, ◌≤◌, ◌+◌, ◌*◌, ◌↔◌, ℤ, pos, ◌≤ℤ◌, List, Bool}
use Rattle.tree_certificate.specs.Enough.{IsEnoughAbove, PartAt}
use Rattle.tree_certificate.specs.ColourSet.{place_of}
use Rattle.subset_tree.proofs.table.greatest_sum.Given as goal

abbrev pub invariant-loop-part : goal.invariant-loop-part
invariant-loop-part l = record {
  within : l.part ≤ l.set;
  not_below : pos 0 ≤ℤ l.most;
  not_above : l.most ≤ℤ pos (100000 * (l.set + 1));
  part : (colours : List Bool) → place_of colours ≡ l.set → PartAt colours l.part;
  enough : (colours : List Bool) → place_of colours ≡ l.set → (candidate : ℤ)
      → (l.most ≤ℤ candidate) ↔ IsEnoughAbove l.numbers l.gains colours colours l.part candidate;
}

abbrev pub decreases-loop-part : goal.decreases-loop-part
decreases-loop-part l = l.part
