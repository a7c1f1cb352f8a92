use Rattle.std.proofs.Common.{◌≡◌, ◌⊎◌, inl, inr, ◌+◌, ◌<◌, ℕ, ℤ, List, length, length-append, length-drop, length-take}
use Rattle.std.proofs.Common.{map, arith}
use Rattle.std.proofs.lemmas.Bool.{cases_eq}
use Rattle.std.proofs.lemmas.Grind.{common_steps}
use Rattle.colour_graph.specs.Graph.{Graph}
use Rattle.tree_certificate.specs.TableHolds.{IsHighAt, row_length}
use Rattle.certificate_checker.specs.inside.Low.{AreHighBefore}
use Rattle.certificate_checker.proofs.table.first_low.Goals as goal

-- the numbers of one more vertex are high enough
high_more : (graph : Graph) (rows : List (List ℤ)) (vertex : ℕ) → AreHighBefore graph rows vertex
    → ((place : ℕ) → place < row_length graph vertex → IsHighAt graph rows vertex place)
    → AreHighBefore graph rows (vertex + 1)
high_more graph rows vertex before here earlier place within in_row = choose (cases_eq earlier vertex)
  where
    choose : (earlier ≡ vertex) ⊎ (earlier ≡ vertex → ⊥) → IsHighAt graph rows earlier place
    choose (inl same) = rw same (here place (rw same at in_row))
    choose (inr apart) = before earlier place (omega (arith, within, apart)) in_row

pub loop-vertex-preserved : goal.loop-vertex-preserved
loop-vertex-preserved c =
    let rows = map (λ row. row.items) c.args.rows.now in
    let here : (place : ℕ) → place < row_length c.args.graph.now c.loop-vertex.vertex
    → IsHighAt c.args.graph.now rows c.loop-vertex.vertex place = c.in_default.ensures.found in
    record {
      own = first_of (
        grind (arith, common_steps),
        omega (arith, length-take {A = ℤ}, length-append {A = ℤ}, length-drop {A = ℤ}),
      );
      gains = first_of (
        grind (arith, common_steps),
        omega (arith, length-take {A = ℤ}, length-append {A = ℤ}, length-drop {A = ℤ}),
      );
      before = high_more c.args.graph.now rows c.loop-vertex.vertex c.loop-vertex.invariant.before here;
    }

pub returns : goal.returns
returns c =
    let last : c.loop-vertex.vertex ≡ length c.args.graph.now.colours =
    omega (arith, c.vertex_count-vertex-end.ensures) in
    rw last at c.loop-vertex.invariant.before
