-- Gains that an edge raises, one place after another, and what the edges before one gain together.
use Rattle.std.proofs.Common.{◌≡◌, ◌≢◌, ◌⊎◌, inl, inr, ◌+◌, ◌*◌, ◌<◌, ◌≤◌, ◌↔◌, ℕ, ℤ, pos, negsuc, ◌+ℤ◌, ◌≤ℤ◌, List}
use Rattle.std.proofs.Common.{length, slice_set, get_or-set_other, get_or-set_same, ap, sym, ◌∙◌, arith}
use Rattle.std.proofs.lemmas.Bool.{cases_eq}
use Rattle.std.proofs.Math.ListN.{replicate}
use Rattle.std.proofs.lemmas.Int.{ints}
use Rattle.std.proofs.lemmas.List.{get_or-replicate}
use Rattle.colour_graph.specs.EdgeSet.{AreInto}
use Rattle.colour_graph.specs.Graph.{Graph, IsScore, edge_at, head_colour}
use Rattle.tree_certificate.specs.TableHolds.{number_at, row_at}
use Rattle.certificate_checker.specs.inside.Enough.{AreGainsBefore, AreGainsBelow, AreNoGains, IsEnoughBefore, IsGain}
use Rattle.tree_certificate.specs.Enough.{IsRaised}
use Rattle.tree_certificate.specs.Number.{number_in}
use Rattle.certificate_checker.specs.inside.Enough.{IsNumber}

number_in-same : (numbers : List ℤ) (place : ℕ) (number : ℤ) → place < length numbers
    → number_in (slice_set numbers place number) place ≡ number
number_in-same numbers place number within = get_or-set_same numbers place number (pos 0) within

number_in-other : (numbers : List ℤ) (place other : ℕ) (number : ℤ) → other ≢ place
    → number_in (slice_set numbers place number) other ≡ number_in numbers other
number_in-other numbers place other number apart = get_or-set_other numbers place other number (pos 0) apart

-- one gain raised
pub raised-more : (gains old numbers : List ℤ) (weight more : ℤ) (place : ℕ) → place < length gains
    → ((p : ℕ) → p < place → IsRaised (number_in gains p) (number_in old p) weight (number_in numbers p))
    → IsRaised more (number_in old place) weight (number_in numbers place)
    → (p : ℕ) → p < place + 1 → IsRaised (number_in (slice_set gains place more) p) (number_in old p) weight
    (number_in numbers p)
raised-more gains old numbers weight more place room before is p within = choose (cases_eq p place)
  where
    choose : (p ≡ place) ⊎ (p ≡ place → ⊥)
        → IsRaised (number_in (slice_set gains place more) p) (number_in old p) weight (number_in numbers p)
    choose (inl same) = rw (same, number_in-same gains place more room) is
    choose (inr apart) = rw (number_in-other gains place p more apart) (before p (omega (arith, within, apart)))

pub rest-more : (gains old : List ℤ) (more : ℤ) (place : ℕ)
    → ((p : ℕ) → place ≤ p → number_in gains p ≡ number_in old p)
    → (p : ℕ) → place + 1 ≤ p → number_in (slice_set gains place more) p ≡ number_in old p
rest-more gains old more place before p within = number_in-other gains place p more (omega arith)
    ∙ before p (omega arith)

pub gains-more : (gains : List ℤ) (more : ℤ) (place count : ℕ) → place < length gains → AreGainsBelow gains count
    → IsGain more
    → AreGainsBelow (slice_set gains place more) count
gains-more gains more place count room before is p within = choose (cases_eq p place)
  where
    choose : (p ≡ place) ⊎ (p ≡ place → ⊥) → IsGain (number_in (slice_set gains place more) p)
    choose (inl same) = rw (same, number_in-same gains place more room) is
    choose (inr apart) = rw (number_in-other gains place p more apart) (before p within)

-- one gain set
pub set-more : (gains numbers : List ℤ) (weight more : ℤ) (place : ℕ) → place < length gains
    → ((p : ℕ) → p < place → number_in gains p ≡ weight +ℤ number_in numbers p)
    → more ≡ weight +ℤ number_in numbers place
    → (p : ℕ) → p < place + 1 → number_in (slice_set gains place more) p ≡ weight +ℤ number_in numbers p
set-more gains numbers weight more place room before is p within = choose (cases_eq p place)
  where
    choose : (p ≡ place) ⊎ (p ≡ place → ⊥) → number_in (slice_set gains place more) p ≡ weight +ℤ number_in numbers p
    choose (inl same) = rw same (number_in-same gains place more room ∙ is)
    choose (inr apart) = number_in-other gains place p more apart ∙ before p (omega (arith, within, apart))

-- numbers copied so far
pub copied-more : (own row : List ℤ) (step place : ℕ) (number : ℤ) → place < length own
    → number ≡ number_in row (step * place)
    → ((p : ℕ) → p < place → number_in own p ≡ number_in row (step * p)) → (p : ℕ) → p < place + 1
    → number_in (slice_set own place number) p ≡ number_in row (step * p)
copied-more own row step place number room is before p within = choose (cases_eq p place)
  where
    choose : (p ≡ place) ⊎ (p ≡ place → ⊥) → number_in (slice_set own place number) p ≡ number_in row (step * p)
    choose (inl same) = rw same (number_in-same own place number room ∙ is)
    choose (inr apart) = number_in-other own place p number apart ∙ before p (omega (arith, within, apart))

nothing_is_gain : (gain : ℤ) → gain ≡ negsuc 1999999999999999 → IsGain gain
nothing_is_gain gain is = record { not_below = omega (arith, ints); not_above = omega (arith, ints) }

-- Gains that stand for no edge, and one raised from there.
abbrev pub cleared : ℕ → List ℤ
cleared count = replicate count (negsuc 1999999999999999)

pub cleared-none : (count : ℕ) → AreNoGains (cleared count) count
cleared-none count place within = get_or-replicate count place (negsuc 1999999999999999) (pos 0) within

pub raised-cleared : (more weight number : ℤ) (place count : ℕ) → place < count → IsScore weight → IsNumber number
    → more ≡ weight +ℤ number
    → IsRaised more (number_in (cleared count) place) weight number
raised-cleared more weight number place count within score near is upper = rw (cleared-none count place within, is) (
  λ low. (above weight number upper score.not_below near.not_below low, low),
  λ both. both.1,
)
  where
    above : (a b c : ℤ) → negsuc 99999 ≤ℤ a → negsuc 999999999999999 ≤ℤ b → (a +ℤ b) ≤ℤ c → negsuc 1999999999999999 ≤ℤ c
    above a b c one other low = omega (arith, ints)

-- what an edge gains beside no other
pub gain-set : (more weight number : ℤ) → IsScore weight → IsNumber number → more ≡ weight +ℤ number → IsGain more
gain-set more weight number score near is = record {
  not_below = rw is (low weight number score.not_below near.not_below);
  not_above = rw is (high weight number score.not_above near.not_above);
}
  where
    low : (a b : ℤ) → negsuc 99999 ≤ℤ a → negsuc 999999999999999 ≤ℤ b → negsuc 1999999999999999 ≤ℤ (a +ℤ b)
    low a b one other = omega (arith, ints)

    high : (a b : ℤ) → a ≤ℤ pos 100000 → b ≤ℤ pos 1000000000000000 → (a +ℤ b) ≤ℤ pos 1000000000100000
    high a b one other = omega (arith, ints)

-- Before the edges into a colour no edge gains.
pub gains-first : (graph : Graph) (rows : List (List ℤ)) (vertex colour first past count : ℕ) (gains : List ℤ)
    → AreInto graph colour first past
    → AreNoGains gains count → AreGainsBefore graph rows vertex colour first count gains
gains-first graph rows vertex colour first past count gains into none = record {
  near = λ place within. nothing_is_gain (number_in gains place) (none place within);
  exact = λ place within upper. (
    λ low. record {
      lowest = rw (none place within) at low;
      each = λ edge before tail there. absurd (not_there edge before there);
    },
    λ enough. rw (none place within) enough.lowest,
  );
}
  where
    not_there : (edge : ℕ) → edge < first → head_colour graph edge ≡ colour → ⊥
    not_there edge before there =
        let in_graph : edge < length graph.edges = omega (arith, before, into.in_order, into.within) in
        let smaller = (into.smaller edge in_graph).0 before in
        omega (arith, smaller, there)

-- One more edge from the vertex into the colour raises the gains.
pub gains-with : (graph : Graph) (rows : List (List ℤ)) (vertex colour edge count : ℕ) (old gains : List ℤ)
    → (edge_at graph edge).tail ≡ vertex
    → head_colour graph edge ≡ colour → AreGainsBefore graph rows vertex colour edge count old
    → AreGainsBelow gains count
    → ((place : ℕ) → place < count → IsRaised (number_in gains place) (number_in old place) (edge_at graph edge).weight
    (number_in (row_at rows (edge_at graph edge).head) place))
    → AreGainsBefore graph rows vertex colour (edge + 1) count gains
gains-with graph rows vertex colour edge count old gains tail_is there before near raised =
    record { near = near; exact = exact }
  where
    exact : (place : ℕ) → place < count → (upper : ℤ)
        → (number_in gains place ≤ℤ upper) ↔ IsEnoughBefore graph rows vertex colour (edge + 1) place upper
    exact place within upper = (to, from)
      where
        to : number_in gains place ≤ℤ upper → IsEnoughBefore graph rows vertex colour (edge + 1) place upper
        to low = record { lowest = first.lowest; each = each }
          where
            parts : (number_in old place ≤ℤ upper)
                × (((edge_at graph edge).weight +ℤ number_in (row_at rows (edge_at graph edge).head) place) ≤ℤ upper)
            parts = (raised place within upper).0 low

            first : IsEnoughBefore graph rows vertex colour edge place upper
            first = (before.exact place within upper).0 parts.0

            each : (other : ℕ) → other < edge + 1 → (edge_at graph other).tail ≡ vertex
                → head_colour graph other ≡ colour
                → ((edge_at graph other).weight +ℤ number_at rows (edge_at graph other).head place) ≤ℤ upper
            each other below tail colour_is = choose (cases_eq other edge)
              where
                choose : (other ≡ edge) ⊎ (other ≡ edge → ⊥)
                    → ((edge_at graph other).weight +ℤ number_at rows (edge_at graph other).head place) ≤ℤ upper
                choose (inl same) = rw same parts.1
                choose (inr apart) = first.each other (omega (arith, below, apart)) tail colour_is

        from : IsEnoughBefore graph rows vertex colour (edge + 1) place upper → number_in gains place ≤ℤ upper
        from enough = (raised place within upper).1 (
          (before.exact place within upper).1
              (record { lowest = enough.lowest; each = λ other below. enough.each other (omega arith) }),
          enough.each edge (omega arith) tail_is there,
        )

-- One more edge that is not from the vertex changes nothing.
pub gains-without : (graph : Graph) (rows : List (List ℤ)) (vertex colour edge count : ℕ) (gains : List ℤ)
    → (edge_at graph edge).tail ≢ vertex
    → AreGainsBefore graph rows vertex colour edge count gains
    → AreGainsBefore graph rows vertex colour (edge + 1) count gains
gains-without graph rows vertex colour edge count gains apart before = record {
  near = before.near;
  exact = λ place within upper. (
    λ low.
        let first = (before.exact place within upper).0 low in
        record {
          lowest = first.lowest;
          each =
              λ other below tail there. first.each other (other_one other below tail (cases_eq other edge)) tail there;
        },
    λ enough. (before.exact place within upper).1
        (record { lowest = enough.lowest; each = λ other below. enough.each other (omega arith) }),
  );
}
  where
    other_one : (other : ℕ) → other < edge + 1 → (edge_at graph other).tail ≡ vertex
        → (other ≡ edge) ⊎ (other ≡ edge → ⊥) → other < edge
    other_one other below tail (inl same) = absurd (apart (ap (λ e. (edge_at graph e).tail) (sym same) ∙ tail))
    other_one other below tail (inr not_same) = omega (arith, below, not_same)

-- No edge past those into the colour gains.
pub gains-last : (graph : Graph) (rows : List (List ℤ)) (vertex colour first past count : ℕ) (gains : List ℤ)
    → AreInto graph colour first past
    → AreGainsBefore graph rows vertex colour past count gains
    → AreGainsBefore graph rows vertex colour (length graph.edges) count gains
gains-last graph rows vertex colour first past count gains into before = record {
  near = before.near;
  exact = λ place within upper. (
    λ low.
        let so_far = (before.exact place within upper).0 low in
        record {
          lowest = so_far.lowest;
          each = λ other in_graph tail there. so_far.each other
              (((into.members other in_graph).1 there).1) tail there;
        },
    λ enough. (before.exact place within upper).1
        (record { lowest = enough.lowest; each = λ other below. enough.each other (omega (arith, into.within)) }),
  );
}
