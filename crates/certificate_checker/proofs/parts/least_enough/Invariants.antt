use Rattle.std.proofs.Common.{◌≡◌, ◌≤◌, ◌↔◌, ℤ, ◌≤ℤ◌, List, Bool}
use Rattle.tree_certificate.specs.ColourSet.{place_of}
use Rattle.tree_certificate.specs.Enough.{IsEnoughAbove, PartAt, UsefulPart}
use Rattle.certificate_checker.proofs.parts.least_enough.Given as goal

abbrev pub invariant-loop-part : goal.invariant-loop-part
invariant-loop-part l = record {
  within : l.part ≤ l.set;
  part : (colours : List Bool) (it : UsefulPart l.own l.gains colours l.parts) → PartAt it.part l.part;
  enough : (colours : List Bool) (it : UsefulPart l.own l.gains colours l.parts) → place_of colours ≡ l.set
      → (candidate : ℤ) → (l.most ≤ℤ candidate) ↔ IsEnoughAbove l.own l.gains colours it.part l.part candidate;
}

abbrev pub decreases-loop-part : goal.decreases-loop-part
decreases-loop-part l = l.part
