use Rattle.std.proofs.Common.{◌≡◌, ◌++◌, [], ◌∷◌, pos, ap, arith, length, ◌∙◌}
use Rattle.std.proofs.lemmas.List.Elements.{All-push}
use Rattle.price_bound.specs.inside.Packed.{IsGroup}
use Rattle.price_bound.proofs.Edges.{colours-few}
use Rattle.price_bound.proofs.packed.groups_of.Goals as goal
use Rattle.price_bound.proofs.packed.groups_of.Goals.{then-edge-group+in_ok-push, else-edge-group+else-colour-group}

pub loop-place-preserved : goal.loop-place-preserved
loop-place-preserved c =
    let few = colours-few c.args.graph.now c.is_graph.ensures.colours in
    let edge = c.requires.edges c.loop-place.place
    (record { tail = 0; head = 0; weight = pos 0 }) c.loop-place-test.true in
    elim c.if-edge-group.branch [
      | then-edge-group+in_ok-push w ↦
          let pushed : c.if-edge-group.groups.items ≡ c.loop-place.groups.items ++ c.loop-place.group ∷ [] =
          ap (λ v. v.items) w.groups-is ∙ w.in_ok-push.ensures.items in
          rw (pushed, w.group-is) (record {
            groups = All-push (IsGroup (length c.args.edges.now)) c.loop-place.groups.items c.loop-place.group
                c.loop-place.invariant.groups c.loop-place.invariant.last;
            last = record {
              tail = omega (arith, edge.tail, c.requires.vertices);
              colour = omega (
                arith,
                few,
                c.saturating_sub-colour.ensures,
                c.colour_of.ensures.counted,
                c.requires.vertices,
              );
              in_order = omega arith;
              within = omega (arith, c.loop-place-test.true);
            };
            here = omega arith;
          })
      | else-edge-group+else-colour-group w ↦ rw (w.groups-is, w.group-is) (record {
        groups = c.loop-place.invariant.groups;
        last = record {
          tail = c.loop-place.invariant.last.tail;
          colour = c.loop-place.invariant.last.colour;
          in_order = omega (arith, c.loop-place.invariant.last.in_order, c.loop-place.invariant.here);
          within = omega (arith, c.loop-place-test.true);
        };
        here = omega arith;
      })
    ]
