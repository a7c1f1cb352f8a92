use Rattle.std.proofs.Common.{◌≡◌, ◌+◌, ◌<◌, ◌+ℤ◌, arith, ◌∙◌, ap, ap₂, of_z, to_z, w64, sym, refl, inl, inr, bit_and}
use Rattle.std.proofs.Common.{length}
use Rattle.std.proofs.lemmas.Bool.{cases_eq}
use Rattle.std.proofs.lemmas.Int.{ints}
use Rattle.tree_certificate.specs.ColourSet.{place_of}
use Rattle.colour_graph.specs.Graph.{colour_count}
use Rattle.subset_tree.proofs.Owned.{length-part}
use Rattle.subset_tree.proofs.Places.{and_part, part_at, place-without}
use Rattle.subset_tree.proofs.Reaching.{number_is, some_colour, sum_is}
use Rattle.subset_tree.proofs.Reading.{place_more}
use Rattle.subset_tree.proofs.rebuilding.find_part.Goals as goal
use Rattle.subset_tree.proofs.rebuilding.find_part.Goals.{then-part-rest+else-below-number_at, else-part-rest}

pub number_at-number-requires-clause-place : goal.number_at-number-requires-clause-place
number_at-number-requires-clause-place c =
    let some : 0 < c.args.colour = some_colour c.args.graph.now c.args.edge c.args.colour c.edge_at-tail.result
    c.edge_at-tail.ensures.edge c.edge_at-tail.ensures.is_edge c.requires.colour in
    place_more c.args.rest c.args.colour (colour_count c.args.graph.now) some c.requires.counted c.requires.place

pub returns-then-below-number_at : goal.returns-then-below-number_at
returns-then-below-number_at c = λ set at long.
    let some : 0 < c.args.colour = some_colour c.args.graph.now c.args.edge c.args.colour c.edge_at-tail.result
    c.edge_at-tail.ensures.edge c.edge_at-tail.ensures.is_edge c.requires.colour in
    let found = part_at set c.loop-part.part (ap (bit_and c.loop-part.part) at ∙ c.if-part-rest.true) in
    let sum : ((c.edge_at-tail.result.weight +ℤ c.number_at.result) +ℤ c.number_at-then-part-rest.result)
    ≡ c.number_at-number.result = omega (arith, ints, ap (to_z w64) c.if-below-number_at.true) in
    record {
      part = found.0;
      at_place = found.2;
      taken = record {
        within = c.requires.edge;
        tail = refl;
        head = ap (λ n. n + length set) c.requires.colour ∙ long;
        is_part = found.1;
        reached =
            sym (sum_is c.args.graph.now _ c.args.edge c.edge_at-tail.result c.args.colour c.args.rest c.loop-part.part
            set found.0 c.number_at.result c.number_at-then-part-rest.result
            c.edge_at-tail.ensures.edge c.number_at.ensures.number c.number_at-then-part-rest.ensures.number at long
            found.1 (length-part found.0 set found.1) found.2)
            ∙ sum
            ∙ number_is c.args.graph.now _ c.args.edge c.edge_at-tail.result c.args.colour c.args.rest set
            c.number_at-number.result c.edge_at-tail.ensures.edge some c.number_at-number.ensures.number at long;
      };
    }

pub loop-part-preserved : goal.loop-part-preserved
loop-part-preserved c = λ set at long part is_part below.
    let some : 0 < c.args.colour = some_colour c.args.graph.now c.args.edge c.args.colour c.edge_at-tail.result
    c.edge_at-tail.ensures.edge c.edge_at-tail.ensures.is_edge c.requires.colour in
    elim (cases_eq (place_of part) c.loop-part.part) [
      | inl same ↦ elim c.if-part-rest.branch [
        | then-part-rest+else-below-number_at w ↦ λ reached.
            let sum : ((c.edge_at-tail.result.weight +ℤ w.number_at.result) +ℤ w.number_at-then-part-rest.result)
            ≡ c.number_at-number.result =
            sum_is c.args.graph.now _ c.args.edge c.edge_at-tail.result c.args.colour c.args.rest c.loop-part.part set
            part w.number_at.result w.number_at-then-part-rest.result
            c.edge_at-tail.ensures.edge w.number_at.ensures.number w.number_at-then-part-rest.ensures.number at long
            is_part (length-part part set is_part) same
            ∙ reached
            ∙ sym (number_is c.args.graph.now _ c.args.edge c.edge_at-tail.result c.args.colour c.args.rest set
            c.number_at-number.result c.edge_at-tail.ensures.edge some c.number_at-number.ensures.number at long) in
            let code : (to_z w64 (of_z w64
            (to_z w64 (of_z w64 w.from.result) +ℤ to_z w64 (of_z w64 w.number_at.result))) +ℤ to_z w64
            (of_z w64 w.number_at-then-part-rest.result)) ≡ c.number_at-number.result =
            omega (arith, ints) in
            w.if-below-number_at.false (ap (of_z w64) code)
        | else-part-rest w ↦ λ reached. w.if-part-rest.false (ap₂ bit_and (sym same) (sym at)
            ∙ and_part part set is_part ∙ same)
      ]
      | inr apart ↦ c.loop-part.invariant set at long part is_part (omega arith)
    ]

pub returns : goal.returns
returns c = λ set at long part is_part. c.loop-part.invariant set at long part is_part
    (omega (arith, place-without part set is_part, at, c.loop-part-test.false))
