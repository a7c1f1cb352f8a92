-- Of PriceHolds and IsKept: least potentials hold, and so do the best weights as prices with potentials of 0.
use Rattle.std.proofs.Common.{◌≡◌, ◌+◌, ◌-◌, ◌<◌, ◌≤◌, ℕ, zero, suc, ℤ, pos, negsuc, ◌+ℤ◌, ◌-ℤ◌, ◌≤ℤ◌, ◌<ℤ◌, Bool, true}
use Rattle.std.proofs.Common.{List, [], ◌∷◌, length, map, replicate, Global, Vec, ap, refl, subst, sym, ◌∙◌, arith}
use Rattle.std.proofs.lemmas.Bool.{and_from, le-leb}
use Rattle.std.proofs.lemmas.Int.{ints}
use Rattle.std.proofs.lemmas.List.{get_or_default, length-replicate}
use Rattle.std.proofs.lemmas.List.FromFn.{get_or-map-range_with_len, length-map-range_with_len}
use Rattle.std.specs.List.{list_all, range_with_len}
use Rattle.colour_graph.specs.Cap.{cap_of}
use Rattle.colour_graph.specs.Colourful.{total}
use Rattle.colour_graph.specs.EdgeSet.{colours_of, edges_into}
use Rattle.colour_graph.specs.Graph.{Graph, colour_count, edge_at}
use Rattle.tree_certificate.specs.Number.{AreNear, greatest_number, is_near, number_in}
use Rattle.tree_certificate.specs.PriceHolds.{FitsPrices, PriceHolds, edges_between, gain_by, gain_of, needed_of}
use Rattle.tree_certificate.specs.PriceHolds.{price_of, price_total}
use Rattle.tree_certificate.proofs.Sums.{IsIn, sum_of-zero}
use Rattle.price_bound.specs.inside.Exact.{AreAmounts, AreExactAbove, IsAmount, cert_with, gained_above}
use Rattle.price_bound.specs.declared.offers.Priced.{Priced}
use Rattle.price_bound.specs.inside.Kept.{IsKept, best_into, best_weights}
use Rattle.price_bound.proofs.Edges.{edges_between-in, in-edges_into, range-in, weight_at}
use Rattle.price_bound.proofs.Greatest.{greatest-high, greatest-low}
use Rattle.price_bound.proofs.Numbers.{IsAmount-zero}

-- amounts may stand in a certificate
near : (z : ℤ) → IsAmount z → is_near greatest_number z ≡ true
near (pos n) is = le-leb n 1000000000000000 (omega (arith, ints, is.not_above))
near (negsuc n) is = absurd (omega (arith, ints, is.not_below))

pub AreNear-amounts : (numbers : List ℤ) → AreAmounts numbers → AreNear numbers
AreNear-amounts [] are = refl
AreNear-amounts (number ∷ numbers) are =
    and_from (is_near greatest_number number) (list_all (is_near greatest_number) numbers) (near number (are 0))
    (AreNear-amounts numbers (λ place. are (suc place)))

minus_zero : (n : ℕ) → n - 0 ≡ n
minus_zero n = omega arith

-- what all colours above the root's are
pub needed-is : (graph : Graph) (allowed : List Bool) (prices potentials : List ℤ) (vertex : ℕ)
    → gained_above graph allowed (cert_with prices potentials) 0 vertex
    ≡ needed_of graph allowed (cert_with prices potentials) vertex
needed-is graph allowed prices potentials vertex =
    ap (λ m. total (map (gain_of graph allowed (cert_with prices potentials) vertex) (range_with_len 1 m)))
    (minus_zero (colour_count graph))

self : (n : ℤ) → n ≤ℤ n
self n = omega (arith, ints)

pub holds-exact : (graph : Graph) (allowed : List Bool) (prices potentials : List ℤ)
    → FitsPrices graph (cert_with prices potentials)
    → AreAmounts prices
    → AreExactAbove graph allowed (cert_with prices potentials) 0
    → PriceHolds graph allowed (cert_with prices potentials)
holds-exact graph allowed prices potentials fits amounts exact = record {
  fits = fits;
  prices = λ k d within. subst (λ n. pos 0 ≤ℤ n) (get_or_default prices k (pos 0) d within) ((amounts k).not_below);
  potentials = λ vertex within. rw (exact vertex within ∙ needed-is graph allowed prices potentials vertex)
      (self (needed_of graph allowed (cert_with prices potentials) vertex));
}

-- with the best weights as prices nothing is gained
pub best-length : (graph : Graph) (allowed : List Bool) → length (best_weights graph allowed) ≡ colour_count graph
best-length graph allowed = length-map-range_with_len (best_into graph allowed) 1 (colour_count graph)

price-best : (graph : Graph) (allowed : List Bool) (potentials : List ℤ) (colour : ℕ) → 1 ≤ colour
    → colour < 1 + colour_count graph
    → price_of (cert_with (best_weights graph allowed) potentials) colour ≡ best_into graph allowed colour
price-best graph allowed potentials colour low high =
    get_or-map-range_with_len (best_into graph allowed) 1 (colour_count graph) (colour - 1) colour (pos 0) (omega arith)
    (omega arith)

no_gain : (weight price best potential : ℤ) → weight ≤ℤ best → price ≡ best → potential ≡ pos 0
    → ((weight -ℤ price) +ℤ potential) ≤ℤ pos 0
no_gain weight price best potential low same none = omega (arith, ints)

gain-best : (graph : Graph) (allowed : List Bool) (potentials : List ℤ) (vertex colour : ℕ)
    → ((place : ℕ) → number_in potentials place ≡ pos 0) → IsIn colour (colours_of graph)
    → gain_of graph allowed (cert_with (best_weights graph allowed) potentials) vertex colour ≤ℤ pos 0
gain-best graph allowed potentials vertex colour clear is_in =
    greatest-low (gain_by graph (cert_with (best_weights graph allowed) potentials) colour) (pos 0)
    (edges_between graph allowed vertex colour) (self (pos 0)) each
  where
    each : (edge : ℕ) → IsIn edge (edges_between graph allowed vertex colour)
        → gain_by graph (cert_with (best_weights graph allowed) potentials) colour edge ≤ℤ pos 0
    each edge between =
        let into = (edges_between-in graph allowed vertex colour edge between).into in
        let counted = range-in 1 (colour_count graph) colour is_in in
        no_gain (edge_at graph edge).weight (price_of (cert_with (best_weights graph allowed) potentials) colour)
        (best_into graph allowed colour) (number_in potentials (edge_at graph edge).head)
        ((greatest-high (weight_at graph) (edges_into graph allowed colour)).1 edge
        (in-edges_into graph allowed colour edge into))
        (price-best graph allowed potentials colour counted.0 counted.1) (clear (edge_at graph edge).head)

pub holds-best : (graph : Graph) (allowed : List Bool) (potentials : List ℤ) → length potentials ≡ length graph.colours
    → AreAmounts (best_weights graph allowed)
    → ((place : ℕ) → number_in potentials place ≡ pos 0)
    → PriceHolds graph allowed (cert_with (best_weights graph allowed) potentials)
holds-best graph allowed potentials potential_count amounts clear = record {
  fits = record { price_count = best-length graph allowed; potential_count = potential_count };
  prices = λ k d within. subst (λ n. pos 0 ≤ℤ n) (get_or_default (best_weights graph allowed) k (pos 0) d within)
      ((amounts k).not_below);
  potentials = λ vertex within. rw (clear vertex)
      (sum_of-zero (gain_of graph allowed (cert_with (best_weights graph allowed) potentials) vertex) (colours_of graph)
      (λ colour is_in. gain-best graph allowed potentials vertex colour clear is_in));
}

-- their total is the cap
pub total-best : (graph : Graph) (allowed : List Bool) (potentials : List ℤ)
    → ((place : ℕ) → number_in potentials place ≡ pos 0)
    → price_total graph (cert_with (best_weights graph allowed) potentials) ≡ cap_of graph allowed
total-best graph allowed potentials clear =
    ap (λ n. graph.root_score +ℤ (n +ℤ total (best_weights graph allowed))) (clear 0)
    ∙ ap (λ n. graph.root_score +ℤ n) (nothing_more (total (best_weights graph allowed)))
  where
    nothing_more : (n : ℤ) → pos 0 +ℤ n ≡ n
    nothing_more n = omega (arith, ints)

pub clear-replicate : (count place : ℕ) → number_in (replicate count (pos 0)) place ≡ pos 0
clear-replicate zero place = refl
clear-replicate (suc count) zero = refl
clear-replicate (suc count) (suc place) = clear-replicate count place

-- least potentials with a low total may be kept
pub IsKept-exact : (graph : Graph) (allowed : List Bool) (trial : Priced) (prices potentials : List ℤ)
    → trial.prices.items ≡ prices → trial.potentials.items ≡ potentials
    → FitsPrices graph (cert_with prices potentials) → AreAmounts prices → AreAmounts potentials
    → AreExactAbove graph allowed (cert_with prices potentials) 0
    → trial.total ≡ price_total graph (cert_with prices potentials) → trial.total ≤ℤ cap_of graph allowed
    → IsKept graph allowed trial
IsKept-exact graph allowed trial prices potentials prices_are potentials_are fits amounts low exact total_is capped =
    record {
      room = record { fits = rw (prices_are, potentials_are) fits; prices = rw prices_are amounts };
      potentials = rw potentials_are low;
      holds = rw (prices_are, potentials_are) (holds-exact graph allowed prices potentials fits amounts exact);
      total = rw (prices_are, potentials_are) total_is;
      capped = capped;
    }

pub below_kept : (total kept cap : ℤ) → total <ℤ kept → kept ≤ℤ cap → total ≤ℤ cap
below_kept total kept cap low high = omega (arith, ints)

-- the best weights with potentials of 0, at the cap
pub kept_best : (graph : Graph) (allowed : List Bool) (prices potentials : Vec ℤ Global) (count : ℕ)
    → prices.items ≡ best_weights graph allowed
    → potentials.items ≡ replicate count (pos 0) → count ≡ length graph.colours → AreAmounts prices.items
    → IsKept graph allowed (record { prices = prices; potentials = potentials; total = cap_of graph allowed })
kept_best graph allowed prices potentials count prices_are potentials_are counted amounts = record {
  room = record {
    fits = record { price_count = rw prices_are (best-length graph allowed); potential_count = long };
    prices = amounts;
  };
  potentials = rw potentials_are (λ place. rw (clear-replicate count place) IsAmount-zero);
  holds = rw prices_are (holds-best graph allowed potentials.items long (rw prices_are at amounts) clear);
  total = rw prices_are (sym (total-best graph allowed potentials.items clear));
  capped = self (cap_of graph allowed);
}
  where
    long : length potentials.items ≡ length graph.colours
    long = ap length potentials_are ∙ length-replicate count (pos 0) ∙ counted

    clear : (place : ℕ) → number_in potentials.items place ≡ pos 0
    clear = rw potentials_are (clear-replicate count)
