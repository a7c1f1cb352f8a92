-- Of PriceHolds: what holds on a set holds on each smaller one, as both sides of a split are.
use Rattle.std.proofs.Common.{◌≡◌, ℕ, ℤ, pos, ◌≤ℤ◌, Bool, true, not, ◌||◌, eqb, List, sym}
use Rattle.std.proofs.Common.{◌∙◌, arith}
use Rattle.std.proofs.lemmas.Bool.{and_parts}
use Rattle.std.proofs.lemmas.Int.{ints}
use Rattle.colour_graph.specs.EdgeSet.{IsSetOf, colours_of, is_allowed, is_named, keeping, leaving, only}
use Rattle.colour_graph.specs.Graph.{Graph, head_colour}
use Rattle.colour_graph.proofs.Sets.{is_allowed-keeping, length-keeping}
use Rattle.tree_certificate.specs.BoundValue.{PriceValue}
use Rattle.tree_certificate.specs.PriceHolds.{PriceHolds, edges_between, gain_by, gain_of, needed_of, potential_of}
use Rattle.tree_certificate.proofs.Sums.{IsIn, sum_of-le}
use Rattle.price_bound.proofs.Edges.{edges_between-in, in-edges_between}
use Rattle.price_bound.proofs.Greatest.{greatest-high, greatest-low}

abbrev pub IsSmaller : List Bool → List Bool → Type 0
IsSmaller smaller allowed = (edge : ℕ) → is_allowed smaller edge ≡ true → is_allowed allowed edge ≡ true

keeping-smaller : (test : ℕ → Bool) (allowed : List Bool) → IsSmaller (keeping test allowed) allowed
keeping-smaller test allowed edge is =
    (and_parts (is_allowed allowed edge) (test edge) (sym (is_allowed-keeping test allowed edge) ∙ is)).0

pub only-smaller : (graph : Graph) (allowed : List Bool) (colour : ℕ) (part : List ℕ)
    → IsSmaller (only graph allowed colour part) allowed
only-smaller graph allowed colour part =
    keeping-smaller (λ edge. not (eqb (head_colour graph edge) colour) || is_named part edge) allowed

pub leaving-smaller : (allowed : List Bool) (part : List ℕ) → IsSmaller (leaving allowed part) allowed
leaving-smaller allowed part = keeping-smaller (λ edge. not (is_named part edge)) allowed

pub IsSetOf-only : (graph : Graph) (allowed : List Bool) (colour : ℕ) (part : List ℕ) → IsSetOf graph allowed
    → IsSetOf graph (only graph allowed colour part)
IsSetOf-only graph allowed colour part is =
    length-keeping (λ edge. not (eqb (head_colour graph edge) colour) || is_named part edge) allowed ∙ is

pub IsSetOf-leaving : (graph : Graph) (allowed : List Bool) (part : List ℕ) → IsSetOf graph allowed
    → IsSetOf graph (leaving allowed part)
IsSetOf-leaving graph allowed part is = length-keeping (λ edge. not (is_named part edge)) allowed ∙ is

-- A vertex gains no more by a colour on a smaller set.
gain_of-smaller : (graph : Graph) (allowed smaller : List Bool) (cert : PriceValue) (vertex colour : ℕ)
    → IsSmaller smaller allowed → gain_of graph smaller cert vertex colour ≤ℤ gain_of graph allowed cert vertex colour
gain_of-smaller graph allowed smaller cert vertex colour less =
    greatest-low (gain_by graph cert colour) (gain_of graph allowed cert vertex colour)
    (edges_between graph smaller vertex colour) high.0 each
  where
    high : (pos 0 ≤ℤ gain_of graph allowed cert vertex colour)
        × ((edge : ℕ) → IsIn edge (edges_between graph allowed vertex colour)
        → gain_by graph cert colour edge ≤ℤ gain_of graph allowed cert vertex colour)
    high = greatest-high (gain_by graph cert colour) (edges_between graph allowed vertex colour)

    each : (edge : ℕ) → IsIn edge (edges_between graph smaller vertex colour)
        → gain_by graph cert colour edge ≤ℤ gain_of graph allowed cert vertex colour
    each edge is_in =
        let between = edges_between-in graph smaller vertex colour edge is_in in
        high.1 edge (in-edges_between graph allowed vertex colour edge (record {
          into = record {
            within = between.into.within;
            in_set = less edge between.into.in_set;
            there = between.into.there;
          };
          tail = between.tail;
        }))

joined : (a b c : ℤ) → a ≤ℤ b → b ≤ℤ c → a ≤ℤ c
joined a b c one other = omega (arith, ints)

pub PriceHolds-smaller : (graph : Graph) (allowed smaller : List Bool) (cert : PriceValue)
    → IsSmaller smaller allowed → PriceHolds graph allowed cert → PriceHolds graph smaller cert
PriceHolds-smaller graph allowed smaller cert less holds = record {
  fits = holds.fits;
  prices = holds.prices;
  potentials = λ vertex within. joined (needed_of graph smaller cert vertex) (needed_of graph allowed cert vertex)
      (potential_of cert vertex)
      (sum_of-le (gain_of graph smaller cert vertex) (gain_of graph allowed cert vertex) (colours_of graph)
      (λ colour at. gain_of-smaller graph allowed smaller cert vertex colour less))
      (holds.potentials vertex within);
}
