-- Why prices and splits do not hold: the first place, in the order of looking, where a condition fails. They are the
-- nodes of a bound, numbered from 0: a split before its sides, and the first side before the second.
use Rattle.std.specs.Prelude.{◌≡◌, ◌<◌, ◌≤◌, ◌+◌, ◌⊎◌, ℕ, ℤ, pos, ◌<ℤ◌, ◌≤ℤ◌, Bool, List, length}
use Rattle.colour_graph.specs.EdgeSet.{leaving, only}
use Rattle.colour_graph.specs.Graph.{Graph, colour_count}
use Rattle.tree_certificate.specs.BoundHolds.{BoundHolds, IsSplit, nodes_of}
use Rattle.tree_certificate.specs.BoundValue.{BoundValue, PriceValue, priced, split}
use Rattle.tree_certificate.specs.PriceHolds.{AreNotNegative, FitsPrices, PriceHolds, needed_of}
use Rattle.tree_certificate.specs.PriceHolds.{potential_of, price_of, price_total}
use Rattle.tree_certificate.specs.declared.place.Place.{Place}
use Rattle.tree_certificate.specs.declared.place.Place.TheVariants.{SplitColour, SplitEdges, PriceShape}
use Rattle.tree_certificate.specs.declared.place.Place.TheVariants.{PriceNegative, PotentialLow, LeafTotal}
use Rattle.certificate_checker.specs.declared.verdict.Verdict.{Verdict}
use Rattle.certificate_checker.specs.declared.verdict.Verdict.TheVariants.{Holds, Fails}

-- the first colour whose price is below 0
pub record IsNegativePlace (graph : Graph) (cert : PriceValue) (colour : ℕ) : Type 0 where
  pub fits : FitsPrices graph cert
  pub among : (1 ≤ colour) × (colour ≤ colour_count graph)
  pub before : (earlier : ℕ) → 1 ≤ earlier → earlier < colour → pos 0 ≤ℤ price_of cert earlier
  pub negative : price_of cert colour <ℤ pos 0

-- The first vertex whose potential is lower than it needs to be, with what it is and what it is to be at least.
pub record IsPotentialPlace (graph : Graph) (allowed : List Bool) (cert : PriceValue) (vertex : ℕ) (held needed : ℤ)
    : Type 0 where
  pub fits : FitsPrices graph cert
  pub prices : AreNotNegative cert.prices
  pub in_graph : vertex < length graph.colours
  pub before : (earlier : ℕ) → earlier < vertex
      → needed_of graph allowed cert earlier ≤ℤ potential_of cert earlier
  pub is_held : held ≡ potential_of cert vertex
  pub is_needed : needed ≡ needed_of graph allowed cert vertex
  pub low : held <ℤ needed

-- Prices and potentials hold, and what they say of the whole graph is above the upper bound.
pub record IsLeafTotal (graph : Graph) (allowed : List Bool) (cert : PriceValue) (upper total : ℤ) : Type 0 where
  pub holds : PriceHolds graph allowed cert
  pub is_total : total ≡ price_total graph cert
  pub above : upper <ℤ total

-- the first place where the prices of a node fail on a set, in the order in which places are named
abbrev pub IsLeafPlace : Graph → List Bool → PriceValue → ℤ → ℕ → Place → Type 0
IsLeafPlace graph allowed cert upper node (PriceShape at) = (at ≡ node) × ¬ (FitsPrices graph cert)
IsLeafPlace graph allowed cert upper node (PriceNegative at colour) = (at ≡ node) × IsNegativePlace graph cert colour
IsLeafPlace graph allowed cert upper node (PotentialLow at vertex held needed) =
    (at ≡ node) × IsPotentialPlace graph allowed cert vertex held needed
IsLeafPlace graph allowed cert upper node (LeafTotal at total) =
    (at ≡ node) × IsLeafTotal graph allowed cert upper total
IsLeafPlace graph allowed cert upper node place = ⊥

-- the place where the split of a node fails on a set, apart from its sides
abbrev pub IsSplitPlace : Graph → List Bool → ℕ → List ℕ → ℕ → Place → Type 0
IsSplitPlace graph allowed colour part node (SplitColour at named) =
    (at ≡ node) × (named ≡ colour) × ((colour < 1) ⊎ (colour_count graph < colour))
IsSplitPlace graph allowed colour part node (SplitEdges at) =
    (at ≡ node) × (1 ≤ colour) × (colour ≤ colour_count graph) × ¬ (IsSplit graph allowed colour part)
IsSplitPlace graph allowed colour part node place = ⊥

-- The first place where a bound whose first node has a number fails on a set: its leaf does; or its split does, or this
-- is one and its first side fails, or that side holds and the second fails.
abbrev pub IsBoundPlace : Graph → List Bool → BoundValue → ℤ → ℕ → Place → Type 0
IsBoundPlace graph allowed (priced cert) upper node place = IsLeafPlace graph allowed cert upper node place
IsBoundPlace graph allowed (split colour part first second) upper node place =
    IsSplitPlace graph allowed colour part node place
    ⊎ (IsSplit graph allowed colour part
    × IsBoundPlace graph (only graph allowed colour part) first upper (node + 1) place)
    ⊎ (IsSplit graph allowed colour part × BoundHolds graph (only graph allowed colour part) first upper
    × IsBoundPlace graph (leaving allowed part) second upper (node + 1 + nodes_of first) place)

-- what is said of a bound whose first node has a number: that it holds on a set, or the first place where it fails
abbrev pub IsVerdictFrom : Graph → List Bool → BoundValue → ℤ → ℕ → Verdict → Type 0
IsVerdictFrom graph allowed bound upper node Holds = BoundHolds graph allowed bound upper
IsVerdictFrom graph allowed bound upper node (Fails place) = IsBoundPlace graph allowed bound upper node place

-- the same of a whole bound
abbrev pub IsBoundVerdict : Graph → List Bool → BoundValue → ℤ → Verdict → Type 0
IsBoundVerdict graph allowed bound upper verdict = IsVerdictFrom graph allowed bound upper 0 verdict
