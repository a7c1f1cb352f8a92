use Rattle.std.proofs.Common.{◌≡◌, ◌∙◌, ◌+◌, ◌-◌, ◌*◌, ◌^◌, ◌<◌, ◌≤◌, ℕ, ℤ, suc, List, length, map, ap, sym, arith}
use Rattle.colour_graph.specs.Graph.{Graph, colour_count, colour_of}
use Rattle.tree_certificate.specs.Number.{AreNumbers, number_in}
use Rattle.tree_certificate.specs.TableHolds.{FitsGraph, row_at, row_length}
use Rattle.certificate_checker.specs.inside.Enough.{AreGainsBefore, AreNumbersBelow}
use Rattle.certificate_checker.proofs.EnoughIsHigh.{AreGathered}
use Rattle.certificate_checker.proofs.LowPlaces.{found_of_size, gathered, row_split}
use Rattle.certificate_checker.proofs.TableNumbers.{numbers-row, row-few}
use Rattle.certificate_checker.proofs.vertex.first_low_of_size.Goals as goal

step_as : (graph : Graph) (vertex size step : ℕ) → step ≡ 2 ^ (colour_count graph - size - colour_of graph vertex - 1)
    → step ≡ 2 ^ (colour_count graph - suc size - colour_of graph vertex)
step_as graph vertex size step is = is ∙ ap (λ n. 2 ^ n) (one_less (colour_count graph) size (colour_of graph vertex))
  where
    one_less : (count more colour : ℕ) → count - more - colour - 1 ≡ count - suc more - colour
    one_less count more colour = omega arith

-- what is known of the row
record IsRow (graph : Graph) (rows : List (List ℤ)) (vertex : ℕ) (row : List ℤ) : Type 0 where
  few : length row ≤ 4096
  near : AreNumbersBelow row (length row)
  long : length row ≡ row_length graph vertex

row_is : (graph : Graph) (rows : List (List ℤ)) (vertex : ℕ) (row : List ℤ) → FitsGraph graph rows → AreNumbers rows
    → vertex < length graph.colours
    → row ≡ row_at rows vertex → IsRow graph rows vertex row
row_is graph rows vertex row fits near within is = record {
  few = rw is (row-few graph rows vertex fits within);
  near = rw is (numbers-row rows vertex near (fits.each vertex within).0);
  long = ap (λ (r : List ℤ). length r) is ∙ (fits.each vertex within).1;
}

-- how many numbers there are of a colour
split : (graph : Graph) (rows : List (List ℤ)) (vertex size step : ℕ) (row own : List ℤ)
    → colour_of graph vertex + size < colour_count graph
    → step ≡ 2 ^ (colour_count graph - size - colour_of graph vertex - 1) → length own ≡ 2 ^ size
    → IsRow graph rows vertex row → length own * (2 * step) ≡ length row
split graph rows vertex size step row own room step_is long is =
    ap (λ n. n * (2 * step)) long ∙ row_split (colour_count graph) (colour_of graph vertex) size step room
    (step_as graph vertex size step step_is) ∙ sym is.long

whole : (count size : ℕ) → size ≤ count → (count - size) + size ≡ count
whole count size room = omega arith

all : (graph : Graph) (rows : List (List ℤ)) (vertex size colour step : ℕ) (row own gains : List ℤ)
    → colour_of graph vertex + size < colour_count graph
    → colour ≡ colour_count graph - size → step ≡ 2 ^ (colour_count graph - size - colour_of graph vertex - 1)
    → row ≡ row_at rows vertex → IsRow graph rows vertex row
    → length own ≡ 2 ^ size → ((place : ℕ) → place < length own
    → number_in own place ≡ number_in row ((2 * step) * place))
    → AreGainsBefore graph rows vertex colour (length graph.edges) (2 ^ size) gains
    → AreGathered graph rows vertex colour size own gains
all graph rows vertex size colour step row own gains room colour_is step_is is known long copied are =
    gathered graph rows vertex colour size step row own gains (ap (λ n. n + size) colour_is
    ∙ whole (colour_count graph) size (small (colour_count graph) size (colour_of graph vertex) room)) room
    (step_as graph vertex size step step_is) is known.near known.long
    (λ place within. copied place (rw long within)) are
  where
    small : (count more own : ℕ) → own + more < count → more ≤ count
    small count more own few = omega arith

pub copy_numbers-requires : goal.copy_numbers-requires
copy_numbers-requires c =
    let graph = c.args.graph.now in
    let rows = map (λ row. row.items) c.args.rows.now in
    let known = row_is graph rows c.args.vertex c.numbers_of-row.result.now c.requires.fits c.requires.numbers
    c.requires.vertex (c.numbers_of-row.ensures ∙ ap (λ v. row_at rows v) c.from.ensures) in
    record {
      few = known.few;
      numbers = known.near;
      step = (omega (arith, c.step_of-step.ensures.some), c.step_of-step.ensures.few);
      room = split graph rows c.args.vertex c.args.size c.step_of-step.result c.numbers_of-row.result.now c.args.own.now
          c.requires.size c.step_of-step.ensures.step c.requires.own known;
    }

pub first_low_set-requires : goal.first_low_set-requires
first_low_set-requires c =
    let graph = c.args.graph.now in
    let rows = map (λ row. row.items) c.args.rows.now in
    let is : c.numbers_of-row.result.now ≡ row_at rows c.args.vertex = c.numbers_of-row.ensures
    ∙ ap (λ v. row_at rows v) c.from.ensures in
    let known = row_is graph rows c.args.vertex c.numbers_of-row.result.now c.requires.fits c.requires.numbers
    c.requires.vertex is in
    let long : length c.copy_numbers.new.own ≡ 2 ^ c.args.size = c.copy_numbers.ensures.length ∙ c.requires.own in
    let are = all graph rows c.args.vertex c.args.size (c.colour_count.result - c.args.size) c.step_of-step.result
    c.numbers_of-row.result.now c.copy_numbers.new.own c.gather_gains-any.new.gains c.requires.size
    (ap (λ n. n - c.args.size) c.colour_count.ensures) c.step_of-step.ensures.step is known long
    (λ place within. c.copy_numbers.ensures.copied place (rw (← c.copy_numbers.ensures.length) within))
    (rw c.requires.gains at c.gather_gains-any.ensures.gains) in
    record {
      few = known.few;
      step = (c.step_of-step.ensures.some, omega (arith, c.step_of-step.ensures.few));
      row = split graph rows c.args.vertex c.args.size c.step_of-step.result c.numbers_of-row.result.now
          c.copy_numbers.new.own c.requires.size c.step_of-step.ensures.step long known;
      held = known.near;
      room = long ∙ sym c.requires.gains ∙ sym c.gather_gains-any.ensures.room;
      sets = (c.args.size, long);
      numbers = rw long are.near;
      gains = rw long are.gained.near;
      none = λ none. (rw (c.requires.gains, ← long) at (c.gather_gains-any.ensures.none none));
    }

pub returns-clause-found : goal.returns-clause-found
returns-clause-found c =
    let graph = c.args.graph.now in
    let rows = map (λ row. row.items) c.args.rows.now in
    let is : c.numbers_of-row.result.now ≡ row_at rows c.args.vertex = c.numbers_of-row.ensures
    ∙ ap (λ v. row_at rows v) c.from.ensures in
    let known = row_is graph rows c.args.vertex c.numbers_of-row.result.now c.requires.fits c.requires.numbers
    c.requires.vertex is in
    let long : length c.copy_numbers.new.own ≡ 2 ^ c.args.size = c.copy_numbers.ensures.length ∙ c.requires.own in
    let are = all graph rows c.args.vertex c.args.size (c.colour_count.result - c.args.size) c.step_of-step.result
    c.numbers_of-row.result.now c.copy_numbers.new.own c.gather_gains-any.new.gains c.requires.size
    (ap (λ n. n - c.args.size) c.colour_count.ensures) c.step_of-step.ensures.step is known long
    (λ place within. c.copy_numbers.ensures.copied place (rw (← c.copy_numbers.ensures.length) within))
    (rw c.requires.gains at c.gather_gains-any.ensures.gains) in
    found_of_size graph rows c.args.vertex (c.colour_count.result - c.args.size) c.args.size c.step_of-step.result
    c.numbers_of-row.result.now c.copy_numbers.new.own c.gather_gains-any.new.gains are
    (step_as graph c.args.vertex c.args.size c.step_of-step.result c.step_of-step.ensures.step) is
    c.first_low_set.result (rw long at c.first_low_set.ensures)
