use Rattle.std.proofs.Common.{◌≡◌, ◌∙◌, ◌+◌, ◌-◌, pos, List, ℤ, map, ap, refl}
use Rattle.std.proofs.Common.{arith, w64}
use Rattle.std.proofs.lemmas.Int.{to_z-of_z}
use Rattle.colour_graph.specs.Graph.{colour_count, colour_of}
use Rattle.tree_certificate.specs.TableHolds.{number_at, row_at}
use Rattle.tree_certificate.proofs.SetParts.{powers-rise}
use Rattle.tree_certificate.specs.Number.{number_in}
use Rattle.certificate_checker.specs.inside.Enough.{IsNumber}
use Rattle.certificate_checker.proofs.LowPlaces.{found_earlier, found_of_vertex}
use Rattle.certificate_checker.proofs.Fits.{SFits-number, not_less-as}
use Rattle.certificate_checker.proofs.TableNumbers.{numbers-row, row-some}
use Rattle.certificate_checker.proofs.vertex.first_low_of.Goals as goal

pub first_low_within-found-requires-clause-room : goal.first_low_within-found-requires-clause-room
first_low_within-found-requires-clause-room c =
    let room = powers-rise c.loop-size.size (colour_count c.args.graph.now)
    (omega (arith, c.colour_count.ensures, c.colour_of.ensures.colour, c.from-2.ensures)) in
    (omega (arith, c.loop-size.invariant.own, room), omega (arith, c.loop-size.invariant.gains, room))

pub loop-size-preserved : goal.loop-size-preserved
loop-size-preserved c =
    let known = c.loop-size.invariant in
    record {
      own = c.first_low_within-found.ensures.own ∙ known.own;
      gains = c.first_low_within-found.ensures.gains ∙ known.gains;
      found = found_earlier c.args.graph.now (map (λ row. row.items) c.args.rows.now) c.args.vertex c.loop-size.size
          (c.loop-size.size + 1) (omega arith) c.loop-size.first c.first_low_within-found.result c.earlier-first.result
          known.found c.first_low_within-found.ensures.found c.earlier-first.ensures;
    }

pub returns-clause-found : goal.returns-clause-found
returns-clause-found c =
    let graph = c.args.graph.now in
    let rows = map (λ row. row.items) c.args.rows.now in
    let vertex = c.args.vertex in
    let is : c.numbers_of.result.now ≡ row_at rows vertex = c.numbers_of.ensures
    ∙ ap (λ v. row_at rows v) c.from.ensures in
    let near : IsNumber (number_at rows vertex 0) =
    numbers-row rows vertex c.requires.numbers (c.requires.fits.each vertex c.requires.vertex).0 0
    (row-some graph rows vertex c.requires.fits c.requires.vertex) in
    let last : c.loop-size.size ≡ colour_count graph - colour_of graph vertex =
    omega (arith, c.colour_count.ensures, c.colour_of.ensures.colour, c.from-2.ensures) in
    let held_is = to_z-of_z w64 (number_in c.numbers_of.result.now 0)
    (rw is (SFits-number (number_at rows vertex 0) near)) ∙ ap (λ (r : List ℤ). number_in r 0) is in
    found_of_vertex graph rows vertex c.loop-size.first
    (not_less-as _ _ (number_at rows vertex 0) (pos 0) held_is refl c.if-numbers_of-lt0.false)
    (rw last at c.loop-size.invariant.found)
