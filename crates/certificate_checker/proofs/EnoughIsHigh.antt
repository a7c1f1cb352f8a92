-- A number is enough by a vertex's own numbers and the gains of a colour exactly where it is high enough in the table.
use Rattle.std.proofs.Common.{◌≡◌, ◌+◌, ◌-◌, ◌*◌, ◌^◌, ◌<◌, ◌↔◌, ℕ, ℤ, pos, negsuc, ◌+ℤ◌, ◌-ℤ◌, ◌≤ℤ◌, Bool, List}
use Rattle.std.proofs.Common.{length, ap, sym, ◌∙◌, arith}
use Rattle.std.proofs.lemmas.Int.{ints}
use Rattle.colour_graph.specs.Graph.{Graph, colour_count, colour_of, edge_at, head_colour}
use Rattle.tree_certificate.specs.ColourSet.{IsPartOf, place_of, without}
use Rattle.tree_certificate.specs.TableHolds.{IsHighEnough, number_at, number_of}
use Rattle.tree_certificate.specs.Enough.{IsEnough}
use Rattle.certificate_checker.specs.inside.Enough.{AreGainsBefore, AreNumbersBelow, IsEnoughBefore, IsNumber}
use Rattle.tree_certificate.specs.Number.{number_in}
use Rattle.tree_certificate.proofs.SetParts.{length-part, length-without, place-lt}

-- A vertex's numbers for the sets of the last colours, with the gains of the edges into the colour before them.
pub record AreGathered (graph : Graph) (rows : List (List ℤ)) (vertex colour size : ℕ)
    (own gains : List ℤ) : Type 0 where
  pub at : colour + size ≡ colour_count graph
  pub copied : (place : ℕ) → place < 2 ^ size
      → number_in own place ≡ number_at rows vertex (2 ^ (colour_count graph - size - colour_of graph vertex) * place)
  pub near : AreNumbersBelow own (2 ^ size)
  pub gained : AreGainsBefore graph rows vertex colour (length graph.edges) (2 ^ size) gains

moved : (sum rest upper : ℤ) → (sum +ℤ rest) ≤ℤ upper → sum ≤ℤ (upper -ℤ rest)
moved sum rest upper is = omega (arith, ints)

moved_back : (sum rest upper : ℤ) → sum ≤ℤ (upper -ℤ rest) → (sum +ℤ rest) ≤ℤ upper
moved_back sum rest upper is = omega (arith, ints)

lowest : (number rest upper : ℤ) → IsNumber number → IsNumber rest → number ≤ℤ upper
    → negsuc 1999999999999999 ≤ℤ (upper -ℤ rest)
lowest number rest upper is rest_is low = far number rest upper is.not_below rest_is.not_above low
  where
    far : (number rest upper : ℤ) → negsuc 999999999999999 ≤ℤ number → rest ≤ℤ pos 1000000000000000 → number ≤ℤ upper
        → negsuc 1999999999999999 ≤ℤ (upper -ℤ rest)
    far number rest upper one other low = omega (arith, ints)

place-in : (set : List Bool) (size : ℕ) → length set ≡ size → place_of set < 2 ^ size
place-in set size long = rw (← long) (place-lt set)

own_of : (graph : Graph) (rows : List (List ℤ)) (vertex colour size : ℕ) (own gains : List ℤ)
    → AreGathered graph rows vertex colour size own gains
    → (set : List Bool) → length set ≡ size → number_in own (place_of set) ≡ number_of graph rows vertex set
own_of graph rows vertex colour size own gains are set long =
    are.copied (place_of set) (place-in set size long)
    ∙ ap (λ n. number_at rows vertex (2 ^ (colour_count graph - n - colour_of graph vertex) * place_of set))
    (sym long)

-- The row of a head has a place for each set of the colours behind it.
head_of : (graph : Graph) (rows : List (List ℤ)) (head size : ℕ) (set : List Bool)
    → colour_of graph head + size ≡ colour_count graph → length set ≡ size
    → number_of graph rows head set ≡ number_at rows head (place_of set)
head_of graph rows head size set at long =
    ap (λ place. number_at rows head place)
    (first (colour_count graph) (length set) (colour_of graph head) size (place_of set) at long)
  where
    one : (place : ℕ) → 2 ^ 0 * place ≡ place
    one place = omega arith

    none : (count long colour size : ℕ) → colour + size ≡ count → long ≡ size → count - long - colour ≡ 0
    none count long colour size at same = omega arith

    first : (count long colour size place : ℕ) → colour + size ≡ count → long ≡ size
        → 2 ^ (count - long - colour) * place ≡ place
    first count long colour size place at same = ap (λ n. 2 ^ n * place) (none count long colour size at same)
        ∙ one place

pub enough_is_high : (graph : Graph) (rows : List (List ℤ)) (vertex colour size : ℕ) (own gains : List ℤ)
    → AreGathered graph rows vertex colour size own gains
    → (set : List Bool) → length set ≡ size → (upper : ℤ)
    → IsEnough own gains set upper ↔ IsHighEnough graph rows vertex set upper
enough_is_high graph rows vertex colour size own gains are set long upper = (to, from)
  where
    left : (part : List Bool) → IsPartOf part set → length (without set part) ≡ size
    left part is_part = length-without set part is_part ∙ long

    given : (part : List Bool) → IsPartOf part set → length part ≡ size
    given part is_part = length-part set part is_part ∙ long

    to : IsEnough own gains set upper → IsHighEnough graph rows vertex set upper
    to enough = record {
      left_out = rw (own_of graph rows vertex colour size own gains are set long) at enough.left_out;
      taken = taken;
    }
      where
        taken : (edge : ℕ) → edge < length graph.edges → (edge_at graph edge).tail ≡ vertex
            → head_colour graph edge + length set ≡ colour_count graph
            → (part : List Bool) → IsPartOf part set
            → (((edge_at graph edge).weight +ℤ number_of graph rows (edge_at graph edge).head part) +ℤ number_of graph
            rows vertex (without set part)) ≤ℤ upper
        taken edge within tail_is next part is_part =
            rw (
              head_of graph rows (edge_at graph edge).head size part (rw long at next) (given part is_part),
              ← own_of graph rows vertex colour size own gains are (without set part) (left part is_part),
            )
            (moved_back ((edge_at graph edge).weight +ℤ number_at rows (edge_at graph edge).head (place_of part))
            (number_in own (place_of (without set part))) upper
            (each.each edge within tail_is
            (there (head_colour graph edge) (length set) colour size (colour_count graph) next long are.at)))
          where
            there : (head all colour size count : ℕ) → head + all ≡ count → all ≡ size → colour + size ≡ count
                → head ≡ colour
            there head all colour size count next same at = omega arith

            each : IsEnoughBefore graph rows vertex colour (length graph.edges) (place_of part)
                (upper -ℤ number_in own (place_of (without set part)))
            each = (are.gained.exact (place_of part) (place-in part size (given part is_part))
                (upper -ℤ number_in own (place_of (without set part)))).0
                (moved (number_in gains (place_of part)) (number_in own (place_of (without set part))) upper
                (enough.taken part is_part))

    from : IsHighEnough graph rows vertex set upper → IsEnough own gains set upper
    from high = record { left_out = left_out; taken = taken }
      where
        left_out : number_in own (place_of set) ≤ℤ upper
        left_out = rw (own_of graph rows vertex colour size own gains are set long) high.left_out

        taken : (part : List Bool) → IsPartOf part set
            → (number_in gains (place_of part) +ℤ number_in own (place_of (without set part))) ≤ℤ upper
        taken part is_part =
            moved_back (number_in gains (place_of part)) (number_in own (place_of (without set part))) upper
            ((are.gained.exact (place_of part) (place-in part size (given part is_part))
            (upper -ℤ number_in own (place_of (without set part)))).1 (record {
              lowest = lowest (number_in own (place_of set)) (number_in own (place_of (without set part))) upper
                  (are.near (place_of set) (place-in set size long))
                  (are.near (place_of (without set part)) (place-in (without set part) size (left part is_part)))
                  left_out;
              each = each;
            }))
          where
            each : (edge : ℕ) → edge < length graph.edges → (edge_at graph edge).tail ≡ vertex
                → head_colour graph edge ≡ colour
                → ((edge_at graph edge).weight +ℤ number_at rows (edge_at graph edge).head (place_of part)) ≤ℤ
                (upper -ℤ number_in own (place_of (without set part)))
            each edge within tail_is there =
                moved ((edge_at graph edge).weight +ℤ number_at rows (edge_at graph edge).head (place_of part))
                (number_in own (place_of (without set part))) upper
                (rw (
                  ← head_of graph rows (edge_at graph edge).head size part (ap (λ n. n + size) there ∙ are.at)
                      (given part is_part),
                  own_of graph rows vertex colour size own gains are (without set part) (left part is_part),
                ) (high.taken edge within tail_is (ap (λ n. n + length set) there ∙ ap (λ n. colour + n) long
                ∙ are.at) part is_part))
