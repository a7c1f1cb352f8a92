use Rattle.std.proofs.Common.{arith, List, ◌∙◌, sym, ◌*◌, ◌<◌, ◌≤ℤ◌, ℤ, length, negsuc, pos, subst}
use Rattle.std.proofs.lemmas.List.{length-map}
use Rattle.subset_tree.proofs.Reading.{in_row, number_near, read_number, read_row, step_place}
use Rattle.subset_tree.proofs.rebuilding.number_at.Goals as goal

pub index-requires : goal.index-requires
index-requires c =
    let there = (c.requires.fits.each c.args.vertex c.requires.vertex).0 in
    let row_is = read_row c.args.rows.now c.args.vertex c.from.result c.index-rows-from.result c.from.ensures
    (omega (arith, there, length-map c.args.rows.now (λ row. row.items))) c.index-rows-from.is in
    let inside = in_row c.args.graph.now _ c.args.vertex c.args.place c.args.colour c.colour_of.result
    c.step_of-step.result c.index-rows-from.result.items
    c.requires.fits c.requires.vertex c.colour_of.ensures.colour c.requires.before c.requires.counted c.requires.place
    c.step_of-step.ensures row_is in
    let fact : c.step_of-step.result * c.args.place < length c.index-rows-from.result.items = inside in
    omega (arith, fact, c.index-rows-from.result.ok)

pub returns : goal.returns
returns c =
    let there = (c.requires.fits.each c.args.vertex c.requires.vertex).0 in
    let row_is = read_row c.args.rows.now c.args.vertex c.from.result c.index-rows-from.result c.from.ensures
    (omega (arith, there, length-map c.args.rows.now (λ row. row.items))) c.index-rows-from.is in
    let inside = in_row c.args.graph.now _ c.args.vertex c.args.place c.args.colour c.colour_of.result
    c.step_of-step.result c.index-rows-from.result.items
    c.requires.fits c.requires.vertex c.colour_of.ensures.colour c.requires.before c.requires.counted c.requires.place
    c.step_of-step.ensures row_is in
    let read = read_number _ c.args.vertex (c.step_of-step.result * c.args.place) c.index-rows-from.result.items
    c.index.result.now c.requires.numbers there row_is inside c.index.ensures in
    let is_within : List ℤ → Type 0 = λ row. c.step_of-step.result * c.args.place < length row in
    let near = number_near _ c.args.vertex (c.step_of-step.result * c.args.place) c.requires.numbers there
    (subst is_within row_is inside) in
    let is_low : ℤ → Type 0 = λ z. z ≤ℤ pos 1000000000000000 in
    let is_high : ℤ → Type 0 = λ z. negsuc 999999999999999 ≤ℤ z in
    record {
      number = λ set at long.
          read ∙ step_place c.args.graph.now c.args.vertex c.args.place c.args.colour c.step_of-step.result
          c.colour_of.result _ c.colour_of.ensures.colour c.step_of-step.ensures set at long;
      not_below = subst is_high (sym read) near.0;
      not_above = subst is_low (sym read) near.1;
    }
