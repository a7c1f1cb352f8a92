use Rattle.std.proofs.Common.{◌+◌, ◌∙◌, ap, drop, get_or}
use Rattle.colour_graph.specs.declared.edge.Edge.{Edge}
use Rattle.colour_graph.specs.Graph.{colour_count}
use Rattle.subset_tree.specs.inside.Rebuilding.{given, owned}
use Rattle.subset_tree.proofs.Passing.{owned_at, owned_below, owned_long, put_same, rest_of, step_from}
use Rattle.subset_tree.proofs.rebuilding.decide.Goals as goal

pub choose-requires-clause-place : goal.choose-requires-clause-place
choose-requires-clause-place c =
    owned_below (get_or c.args.owners.now c.args.decided 0) c.place_owned-rest.result c.args.decided
    (colour_count c.args.graph.now) c.args.owners.now c.place_owned-rest.ensures c.requires.count

pub returns-in_err-edge : goal.returns-in_err-edge
returns-in_err-edge c =
    rw c.from_residual.ensures (
      put_same (c.args.decided + 1) c.args.owners.now,
      c.in_err-edge.ensures (owned (get_or c.args.owners.now c.args.decided 0)
          (drop (c.args.decided + 1) c.args.owners.now))
          (owned_at (get_or c.args.owners.now c.args.decided 0) c.place_owned-rest.result c.args.decided
          c.args.owners.now c.place_owned-rest.ensures)
          (owned_long (get_or c.args.owners.now c.args.decided 0) c.args.decided
          (colour_count c.args.graph.now) c.args.owners.now c.requires.count c.requires.next),
    )

pub edge_at-requires : goal.edge_at-requires
edge_at-requires c =
    (c.in_ok-edge.ensures (owned (get_or c.args.owners.now c.args.decided 0)
    (drop (c.args.decided + 1) c.args.owners.now))
    (owned_at (get_or c.args.owners.now c.args.decided 0) c.place_owned-rest.result c.args.decided c.args.owners.now
    c.place_owned-rest.ensures)
    (owned_long (get_or c.args.owners.now c.args.decided 0) c.args.decided
    (colour_count c.args.graph.now) c.args.owners.now c.requires.count c.requires.next)).taken.within

pub returns : goal.returns
returns c =
    step_from c.args.graph.now _ (get_or c.args.owners.now c.args.decided 0) c.args.decided c.in_ok-edge.edge
    c.in_ok-edge.part c.args.owners.now c.give.new.owners c.requires.next
    (c.in_ok-edge.ensures (owned (get_or c.args.owners.now c.args.decided 0)
    (drop (c.args.decided + 1) c.args.owners.now))
    (owned_at (get_or c.args.owners.now c.args.decided 0) c.place_owned-rest.result c.args.decided c.args.owners.now
    c.place_owned-rest.ensures)
    (owned_long (get_or c.args.owners.now c.args.decided 0) c.args.decided
    (colour_count c.args.graph.now) c.args.owners.now c.requires.count c.requires.next))
    (λ set at long. c.give.ensures set at long
    ∙ ap (λ (e : Edge). given set e.head (rest_of (c.args.decided + 1) c.args.owners.now)) c.edge_at.ensures.edge)
