use Rattle.std.proofs.Common.{◌∙◌, ◌<◌, pos, negsuc, length, refl, arith, rules, w32, FitsSigned}
use Rattle.std.proofs.lemmas.Int.{ints}
use Rattle.valence_filter.proofs.Filling.{fill-more}
use Rattle.toml.specs.View.{table_view}
use Rattle.profile.specs.Form.{coefficients}
use Rattle.profile.specs.Table.{element_numbers}
use Rattle.profile.proofs.ElementCast.{fits_narrow, fits_narrowed, narrowed}
use Rattle.profile.proofs.ElementLaws.{length-element_numbers}
use Rattle.profile.proofs.ElementRange.{element_in_range, filled_whole}
use Rattle.profile.proofs.values.coefficients_of.Goals as goal

fits : (c : goal.After-element_number) → FitsSigned w32 c.element_number.result
fits c =
    let (low, high) = rw (← c.element_number.ensures) at
    (element_in_range coefficients (table_view c.args.elements.now) (negsuc 999)
    (pos 1000) c.loop-place.place c.requires (λ known key. refl) (omega arith) (omega arith)) in
    fits_narrow c.element_number.result (omega (arith, ints, low)) (omega (arith, ints, high))

pub overflow_cast-coefficients : goal.overflow_cast-coefficients
overflow_cast-coefficients c = fits_narrowed c.element_number.result (search rules) (fits c)

pub loop-place-preserved : goal.loop-place-preserved
loop-place-preserved c =
    let numbers = element_numbers (table_view c.args.elements.now) in
    let in_numbers : c.loop-place.place < length numbers =
    omega (arith, length-element_numbers (table_view c.args.elements.now)) in
    fill-more numbers c.loop-place.coefficients (pos 0) _ 16 c.loop-place.place
    (omega arith) in_numbers c.loop-place.invariant
    (narrowed c.element_number.result (search rules) (fits c) ∙ c.element_number.ensures)

pub returns : goal.returns
returns c =
    filled_whole (element_numbers (table_view c.args.elements.now)) c.loop-place.coefficients
    (pos 0) 16 c.loop-place.place (omega arith)
    (length-element_numbers (table_view c.args.elements.now)) c.loop-place.invariant
