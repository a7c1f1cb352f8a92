use Rattle.std.proofs.Common.{length, drop}
use Rattle.tree_certificate.specs.ColourSet.{place_of}
use Rattle.tree_certificate.proofs.Tables.{place-lt}
use Rattle.subset_tree.specs.inside.Rebuilding.{owned}
use Rattle.subset_tree.proofs.Owned.{length-owned}
use Rattle.subset_tree.proofs.Places.{added_hit, added_miss, hit_fits, next_power, place-hit, place-miss}
use Rattle.subset_tree.proofs.rebuilding.place_owned.Goals as goal
use Rattle.subset_tree.proofs.rebuilding.place_owned.Goals.{else-owner-vertex, then-owner-vertex}
use Rattle.std.proofs.Common.{arith, ◌<◌, ◌+◌, ◌^◌}

pub overflow_add-place : goal.overflow_add-place
overflow_add-place c =
    let hit = place-hit c.args.vertex c.args.owners.now c.loop-owner.owner-index c.loop-owner-test.true
    c.if-owner-vertex.true in
    let fits : c.loop-owner.place + c.loop-owner.bit < 2 ^ 64 =
    hit_fits c.loop-owner.place c.loop-owner.bit
    (place_of (owned c.args.vertex (drop c.loop-owner.owner-index c.args.owners.now)))
    (place_of (owned c.args.vertex (drop (c.loop-owner.owner-index + 1) c.args.owners.now)))
    (place_of (owned c.args.vertex c.args.owners.now))
    (length (owned c.args.vertex c.args.owners.now)) hit c.loop-owner.invariant.added
    (place-lt (owned c.args.vertex c.args.owners.now))
    (omega (arith, length-owned c.args.vertex c.args.owners.now, c.requires)) in
    omega (arith, fits)

pub loop-owner-preserved : goal.loop-owner-preserved
loop-owner-preserved c =
    elim c.if-owner-vertex.branch [
      | then-owner-vertex w ↦ record {
        added = added_hit c.loop-owner.place c.loop-owner.bit
            (place_of (owned c.args.vertex (drop c.loop-owner.owner-index c.args.owners.now)))
            (place_of (owned c.args.vertex (drop (c.loop-owner.owner-index + 1) c.args.owners.now)))
            (place_of (owned c.args.vertex c.args.owners.now)) c.if-owner-vertex.place
            (place-hit c.args.vertex c.args.owners.now c.loop-owner.owner-index c.loop-owner-test.true
            w.if-owner-vertex.true) c.loop-owner.invariant.added w.place-is;
        power = next_power c.loop-owner.bit c.loop-owner.owner-index c.loop-owner.invariant.power;
      }
      | else-owner-vertex w ↦ record {
        added = added_miss c.loop-owner.place c.loop-owner.bit
            (place_of (owned c.args.vertex (drop c.loop-owner.owner-index c.args.owners.now)))
            (place_of (owned c.args.vertex (drop (c.loop-owner.owner-index + 1) c.args.owners.now)))
            (place_of (owned c.args.vertex c.args.owners.now)) c.if-owner-vertex.place
            (place-miss c.args.vertex c.args.owners.now c.loop-owner.owner-index c.loop-owner-test.true
            w.if-owner-vertex.false) c.loop-owner.invariant.added w.place-is;
        power = next_power c.loop-owner.bit c.loop-owner.owner-index c.loop-owner.invariant.power;
      }
    ]
