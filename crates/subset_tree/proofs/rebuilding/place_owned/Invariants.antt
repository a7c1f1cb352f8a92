use Rattle.std.proofs.Common.{◌≡◌, ◌+◌, ◌*◌, ◌^◌, drop}
use Rattle.subset_tree.specs.inside.Rebuilding.{owned}
use Rattle.tree_certificate.specs.ColourSet.{place_of}
use Rattle.subset_tree.proofs.rebuilding.place_owned.Given as goal

abbrev pub invariant-loop-owner : goal.invariant-loop-owner
invariant-loop-owner l = record {
  added : l.place + l.bit * place_of (owned l.vertex (drop l.owner-index l.owners))
      ≡ place_of (owned l.vertex l.owners);
  power : l.bit ≡ 2 ^ l.owner-index;
}
