use Rattle.std.proofs.Common.{◌≡◌, ◌-◌, ◌<◌, ◌∙◌, ℤ, ◌+ℤ◌, List, true, length, map, replicate, ap, sym, arith, of_z}
use Rattle.std.proofs.Common.{to_z, SFits, w32, w64}
use Rattle.std.proofs.lemmas.Int.{to_z-of_z}
use Rattle.std.proofs.lemmas.List.{length-map}
use Rattle.colour_graph.specs.Graph.{IsScore, colour_count}
use Rattle.tree_certificate.specs.TableHolds.{number_at, number_of, row_length}
use Rattle.tree_certificate.specs.Number.{number_in}
use Rattle.certificate_checker.specs.inside.Enough.{IsNumber}
use Rattle.certificate_checker.proofs.Fits.{SFits-number, SFits-score, SFits-total}
use Rattle.certificate_checker.proofs.TableNumbers.{numbers-row, place-last, row-some}
use Rattle.certificate_checker.proofs.table.total_of.Goals as goal

parts_are : (out score number : ℤ) → out ≡ to_z w32 (of_z w32 score) → IsScore score → IsNumber number → SFits w64 out
    → to_z w64 (of_z w64 out) +ℤ to_z w64 (of_z w64 number) ≡ score +ℤ number
parts_are out score number is near numbered fits =
    ap (λ n. n +ℤ to_z w64 (of_z w64 number)) (to_z-of_z w64 out fits ∙ is
    ∙ to_z-of_z w32 score (SFits-score score near))
    ∙ ap (λ n. score +ℤ n) (to_z-of_z w64 number (SFits-number number numbered))

sum_fits : (out score number : ℤ) → out ≡ to_z w32 (of_z w32 score) → IsScore score → IsNumber number → SFits w64 out
    → SFits w64 (to_z w64 (of_z w64 out) +ℤ to_z w64 (of_z w64 number))
sum_fits out score number is near numbered fits =
    rw (parts_are out score number is near numbered fits) (SFits-total score number near numbered)

pub numbers_of-row-requires : goal.numbers_of-row-requires
numbers_of-row-requires c =
    let first = (c.requires.fits.each 0 c.requires.graph.colours.some).0 in
    rw length-map at first

pub overflow_sub-result : goal.overflow_sub-result
overflow_sub-result c = rw c.numbers_of-row.ensures
    (row-some c.args.graph.now _ 0 c.requires.fits c.requires.graph.colours.some)

pub bounds-row-row : goal.bounds-row-row
bounds-row-row c =
    let some : 0 < length c.numbers_of-row.result.now =
    rw c.numbers_of-row.ensures (row-some c.args.graph.now _ 0 c.requires.fits c.requires.graph.colours.some) in
    omega arith

pub overflow_add-result : goal.overflow_add-result
overflow_add-result c =
    let rows = map (λ row. row.items) c.args.rows.now in
    let some : 0 < length c.numbers_of-row.result.now =
    rw c.numbers_of-row.ensures (row-some c.args.graph.now _ 0 c.requires.fits c.requires.graph.colours.some) in
    let last : length c.numbers_of-row.result.now - 1 < length c.numbers_of-row.result.now = omega arith in
    let near : IsNumber (number_in c.numbers_of-row.result.now (length c.numbers_of-row.result.now - 1)) =
    (rw (← c.numbers_of-row.ensures) at (numbers-row rows 0 c.requires.numbers
    (c.requires.fits.each 0 c.requires.graph.colours.some).0)) (length c.numbers_of-row.result.now - 1) last in
    sum_fits c.from.result c.root_score.result
    (number_in c.numbers_of-row.result.now (length c.numbers_of-row.result.now - 1)) c.from.ensures
    c.root_score.ensures.near near (record { sfits = c.from.type_inv })

pub returns : goal.returns
returns c =
    let graph = c.args.graph.now in
    let rows = map (λ row. row.items) c.args.rows.now in
    let row = c.numbers_of-row.result.now in
    let some : 0 < length row = rw c.numbers_of-row.ensures
    (row-some graph _ 0 c.requires.fits c.requires.graph.colours.some) in
    let last : length row - 1 < length row = omega arith in
    let near : IsNumber (number_in row (length row - 1)) =
    (rw (← c.numbers_of-row.ensures) at (numbers-row rows 0 c.requires.numbers
    (c.requires.fits.each 0 c.requires.graph.colours.some).0)) (length row - 1) last in
    let fits : SFits w64 c.from.result = record { sfits = c.from.type_inv } in
    let long : length row ≡ row_length graph 0 = ap (λ (r : List ℤ). length r) c.numbers_of-row.ensures
    ∙ (c.requires.fits.each 0 c.requires.graph.colours.some).1 in
    let number_is : number_in row (length row - 1) ≡ number_of graph rows 0 (replicate (colour_count graph) true) =
    ap (λ (r : List ℤ). number_in r (length row - 1)) c.numbers_of-row.ensures
    ∙ ap (λ p. number_at rows 0 p) (sym (place-last graph (length row) c.requires.graph.colours.root long)) in
    to_z-of_z w64 _ (sum_fits c.from.result c.root_score.result
    (number_in row (length row - 1)) c.from.ensures c.root_score.ensures.near near fits)
    ∙ parts_are c.from.result c.root_score.result
    (number_in row (length row - 1)) c.from.ensures c.root_score.ensures.near near fits
    ∙ ap (λ n. n +ℤ number_in row (length row - 1)) c.root_score.ensures.score
    ∙ ap (λ n. graph.root_score +ℤ n) number_is
