use Rattle.std.proofs.Common.{◌≡◌, ◌≢◌, ◌∙◌, ◌-◌, ◌^◌, ◌<◌, ◌≤◌, ◌+ℤ◌, ℕ, ℤ, List, length, map, ap, sym, refl, arith}
use Rattle.std.proofs.Common.{w32}
use Rattle.std.proofs.lemmas.Bool.{false≢true, true≢false}
use Rattle.std.proofs.lemmas.Int.{to_z-of_z}
use Rattle.colour_graph.specs.EdgeSet.{AreInto}
use Rattle.colour_graph.specs.declared.edge.Edge.{Edge}
use Rattle.colour_graph.specs.Graph.{Graph, IsEdge, IsScore, colour_count, colour_of, edge_at, head_colour}
use Rattle.tree_certificate.specs.Number.{AreNumbers, number_in}
use Rattle.tree_certificate.specs.TableHolds.{FitsGraph, row_at}
use Rattle.tree_certificate.specs.Enough.{IsRaised}
use Rattle.certificate_checker.specs.inside.Enough.{AreNumbersBelow}
use Rattle.certificate_checker.proofs.Fits.{SFits-score}
use Rattle.tree_certificate.proofs.PartWalk.{raised-as}
use Rattle.certificate_checker.proofs.Raising.{cleared, cleared-none, gain-set, gains-first, gains-last, gains-with}
use Rattle.certificate_checker.proofs.Raising.{gains-without, raised-cleared}
use Rattle.certificate_checker.proofs.TableNumbers.{numbers-row, row-few}
use Rattle.certificate_checker.proofs.gains.gather_gains.Goals as goal
use Rattle.certificate_checker.proofs.gains.gather_gains.Goals.{then-here-vertex+then-any, then-here-vertex+else-any}
use Rattle.certificate_checker.proofs.gains.gather_gains.Goals.{else-here-vertex}

-- what is known of an edge into a colour and of the numbers of its head
record IsHead (graph : Graph) (rows : List (List ℤ)) (colour place count : ℕ) (edge : Edge)
    (numbers : List ℤ) : Type 0 where
  there : head_colour graph place ≡ colour
  score : IsScore edge.weight
  weight_is : edge.weight ≡ (edge_at graph place).weight
  numbers_are : numbers ≡ row_at rows (edge_at graph place).head
  near : AreNumbersBelow numbers (length numbers)
  few : length numbers ≤ 4096
  long : length numbers ≡ count

head_is : (graph : Graph) (rows : List (List ℤ)) (colour first past place from count : ℕ) (edge : Edge)
    (numbers : List ℤ) → FitsGraph graph rows → AreNumbers rows
    → AreInto graph colour first past → first ≤ place → place < past → edge ≡ edge_at graph place → IsEdge graph edge
    → count ≡ 2 ^ (colour_count graph - colour)
    → from ≡ edge.head → numbers ≡ row_at rows from → IsHead graph rows colour place count edge numbers
head_is graph rows colour first past place from count edge numbers fits are into low up edge_is is_edge count_is from_is
    numbers_is = record {
      there = there;
      score = is_edge.weight;
      weight_is = ap (λ (e : Edge). e.weight) edge_is;
      numbers_are = row_is ∙ ap (λ (e : Edge). row_at rows e.head) edge_is;
      near = rw row_is (numbers-row rows edge.head are (fits.each edge.head is_edge.head).0);
      few = rw row_is (row-few graph rows edge.head fits is_edge.head);
      long = ap (λ (r : List ℤ). length r) row_is ∙ (fits.each edge.head is_edge.head).1
          ∙ ap (λ n. 2 ^ (colour_count graph - n)) head_there ∙ sym count_is;
    }
  where
    in_graph : place < length graph.edges
    in_graph = omega (arith, into.within, up)

    there : head_colour graph place ≡ colour
    there = (into.members place in_graph).0 (low, up)

    head_there : colour_of graph edge.head ≡ colour
    head_there = ap (λ (e : Edge). colour_of graph e.head) edge_is ∙ there

    row_is : numbers ≡ row_at rows edge.head
    row_is = numbers_is ∙ ap (λ v. row_at rows v) from_is

pub loop-edge-init : goal.loop-edge-init
loop-edge-init c = record {
  long = refl;
  gained = λ is. absurd (false≢true is);
  none = λ is clear none. gains-first c.args.graph.now _ c.args.vertex c.args.colour c.edges_into-first.result.0
      c.edges_into-first.result.1 (length c.args.gains.now) clear
      c.edges_into-first.ensures none;
}

pub raise_gains-requires : goal.raise_gains-requires
raise_gains-requires c =
    let head = head_is c.args.graph.now (map (λ row. row.items) c.args.rows.now) c.args.colour
    c.edges_into-first.result.0 c.edges_into-first.result.1 c.loop-edge.edge c.from.result
    (length c.args.gains.now) c.edge_at-here.result c.numbers_of-numbers.result.now c.requires.fits c.requires.numbers
    c.edges_into-first.ensures c.loop-edge.auto.edge c.loop-edge-test.true
    c.edge_at-here.ensures.edge c.edge_at-here.ensures.is_edge c.requires.room c.from.ensures
    c.numbers_of-numbers.ensures in
    record {
      weight = rw (to_z-of_z w32 c.edge_at-here.result.weight (SFits-score c.edge_at-here.result.weight head.score))
          head.score;
      numbers = head.near;
      few = head.few;
      room = head.long ∙ sym c.loop-edge.invariant.long;
      gains = rw c.loop-edge.invariant.long (c.loop-edge.invariant.gained c.if-any.true).near;
    }

pub set_gains-requires : goal.set_gains-requires
set_gains-requires c =
    let head = head_is c.args.graph.now (map (λ row. row.items) c.args.rows.now) c.args.colour
    c.edges_into-first.result.0 c.edges_into-first.result.1 c.loop-edge.edge c.from.result
    (length c.args.gains.now) c.edge_at-here.result c.numbers_of-numbers.result.now c.requires.fits c.requires.numbers
    c.edges_into-first.ensures c.loop-edge.auto.edge c.loop-edge-test.true
    c.edge_at-here.ensures.edge c.edge_at-here.ensures.is_edge c.requires.room c.from.ensures
    c.numbers_of-numbers.ensures in
    record {
      weight = rw (to_z-of_z w32 c.edge_at-here.result.weight (SFits-score c.edge_at-here.result.weight head.score))
          head.score;
      numbers = head.near;
      few = head.few;
      room = head.long ∙ sym c.loop-edge.invariant.long;
    }

pub loop-edge-preserved : goal.loop-edge-preserved
loop-edge-preserved c =
    let graph = c.args.graph.now in
    let rows = map (λ row. row.items) c.args.rows.now in
    let place = c.loop-edge.edge in
    let count = length c.args.gains.now in
    let known = c.loop-edge.invariant in
    let weight : ℤ = c.edge_at-here.result.weight in
    elim c.if-here-vertex.branch [
      | then-here-vertex+then-any w ↦
          let head = head_is c.args.graph.now
          (map (λ row. row.items) c.args.rows.now) c.args.colour c.edges_into-first.result.0
          c.edges_into-first.result.1 c.loop-edge.edge w.from.result
          (length c.args.gains.now) c.edge_at-here.result w.numbers_of-numbers.result.now c.requires.fits
          c.requires.numbers c.edges_into-first.ensures c.loop-edge.auto.edge c.loop-edge-test.true
          c.edge_at-here.ensures.edge c.edge_at-here.ensures.is_edge c.requires.room w.from.ensures
          w.numbers_of-numbers.ensures in
          let tail_is : (edge_at graph place).tail ≡ c.args.vertex =
          sym (ap (λ (e : Edge). e.tail) c.edge_at-here.ensures.edge) ∙ w.if-here-vertex.true in
          let weight_is = to_z-of_z w32 weight (SFits-score weight head.score) ∙ head.weight_is in
          let raised : (p : ℕ) → p < count
          → IsRaised (number_in w.raise_gains.new.gains p) (number_in c.loop-edge.gains p) (edge_at graph place).weight
          (number_in (row_at rows (edge_at graph place).head) p) =
          λ p within. raised-as _ _ _ _ _ _ _ _ refl refl weight_is
          (ap (λ (r : List ℤ). number_in r p) head.numbers_are)
          (w.raise_gains.ensures.raised p (omega (arith, known.long, within))) in
          rw w.gains-is (record {
            long = w.raise_gains.ensures.length ∙ known.long;
            gained = λ is. gains-with graph rows c.args.vertex c.args.colour place count c.loop-edge.gains
                w.raise_gains.new.gains tail_is head.there (known.gained w.if-any.true)
                (rw known.long at w.raise_gains.ensures.gains) raised;
            none = λ is. absurd (true≢false (sym w.any-is ∙ is));
          })
      | then-here-vertex+else-any w ↦
          let head = head_is c.args.graph.now
          (map (λ row. row.items) c.args.rows.now) c.args.colour c.edges_into-first.result.0
          c.edges_into-first.result.1 c.loop-edge.edge w.from.result
          (length c.args.gains.now) c.edge_at-here.result w.numbers_of-numbers.result.now c.requires.fits
          c.requires.numbers c.edges_into-first.ensures c.loop-edge.auto.edge c.loop-edge-test.true
          c.edge_at-here.ensures.edge c.edge_at-here.ensures.is_edge c.requires.room w.from.ensures
          w.numbers_of-numbers.ensures in
          let tail_is : (edge_at graph place).tail ≡ c.args.vertex =
          sym (ap (λ (e : Edge). e.tail) c.edge_at-here.ensures.edge) ∙ w.if-here-vertex.true in
          let weight_is = to_z-of_z w32 weight (SFits-score weight head.score) in
          let numbers : List ℤ = w.numbers_of-numbers.result.now in
          let set_is : (p : ℕ) → p < count → number_in w.set_gains.new.gains p ≡ weight +ℤ number_in numbers p =
          λ p within. w.set_gains.ensures.set p (omega (arith, known.long, within))
          ∙ ap (λ n. n +ℤ number_in numbers p) weight_is in
          let raised : (p : ℕ) → p < count
          → IsRaised (number_in w.set_gains.new.gains p) (number_in (cleared count) p) (edge_at graph place).weight
          (number_in (row_at rows (edge_at graph place).head) p) =
          λ p within. raised-as _ _ _ _ _ _ _ _ refl refl head.weight_is
          (ap (λ (r : List ℤ). number_in r p) head.numbers_are)
          (raised-cleared _ weight (number_in numbers p) p count within head.score
          (head.near p (omega (arith, head.long, within))) (set_is p within)) in
          rw w.gains-is (record {
            long = w.set_gains.ensures.length ∙ known.long;
            gained = λ is. gains-with graph rows c.args.vertex c.args.colour place count
                (cleared count) w.set_gains.new.gains tail_is head.there
                (known.none w.if-any.false (cleared count) (cleared-none count))
                (λ p within. gain-set _ weight (number_in numbers p) head.score
                (head.near p (omega (arith, head.long, within))) (set_is p within)) raised;
            none = λ is. absurd (true≢false (sym w.any-is ∙ is));
          })
      | else-here-vertex w ↦
          let apart : (edge_at graph place).tail ≢ c.args.vertex =
          λ is. w.if-here-vertex.false (ap (λ (e : Edge). e.tail) c.edge_at-here.ensures.edge ∙ is) in
          rw w.gains-is (record {
            long = known.long;
            gained = λ is. gains-without graph rows c.args.vertex c.args.colour place count c.loop-edge.gains apart
                (known.gained (sym w.any-is ∙ is));
            none = λ is clear none. gains-without graph rows c.args.vertex c.args.colour place count clear apart
                (known.none (sym w.any-is ∙ is) clear none);
          })
    ]

pub returns-then-not-any : goal.returns-then-not-any
returns-then-not-any c =
    let last : c.loop-edge.edge ≡ c.edges_into-first.result.1 = omega (arith, c.edges_into-first.ensures.in_order) in
    record {
      room = c.clear_gains.ensures.length ∙ c.loop-edge.invariant.long;
      gains = gains-last c.args.graph.now _ c.args.vertex c.args.colour c.edges_into-first.result.0
          c.edges_into-first.result.1 (length c.args.gains.now) c.clear_gains.new.gains
          c.edges_into-first.ensures (rw last at
          (c.loop-edge.invariant.none c.if-not-any.true _
          (rw c.loop-edge.invariant.long at c.clear_gains.ensures.clear)));
      none = λ is. rw c.loop-edge.invariant.long at c.clear_gains.ensures.clear;
    }

pub returns-else-not-any : goal.returns-else-not-any
returns-else-not-any c =
    let last : c.loop-edge.edge ≡ c.edges_into-first.result.1 = omega (arith, c.edges_into-first.ensures.in_order) in
    record {
      room = c.loop-edge.invariant.long;
      gains = gains-last c.args.graph.now _ c.args.vertex c.args.colour c.edges_into-first.result.0
          c.edges_into-first.result.1 (length c.args.gains.now) c.loop-edge.gains
          c.edges_into-first.ensures (rw last at (c.loop-edge.invariant.gained c.if-not-any.false));
      none = λ is. absurd (true≢false (sym c.if-not-any.false ∙ is));
    }
