-- What vertices gain by a colour, one edge after another, and what they gain by all colours.
use Rattle.std.proofs.Common.{◌≡◌, ◌≢◌, ◌⊎◌, inl, inr, ◌+◌, ◌-◌, ◌*◌, ◌<◌, ◌≤◌, ◌↔◌, ◌∙◌, ℕ, ℤ, pos, ◌+ℤ◌, ◌≤ℤ◌, Bool}
use Rattle.std.proofs.Common.{true, false, ◌&&◌, eqb, List, length, map, get_or, get_or-set_other, get_or-set_same}
use Rattle.std.proofs.Common.{replicate, slice_set, ap, sym, refl, arith}
use Rattle.std.proofs.lemmas.Bool.{and_parts, cases_eq, eq-eqb, eqb-true, false≢true}
use Rattle.std.proofs.lemmas.Int.{clamps, fold-int_max_bounds, ints}
use Rattle.std.proofs.lemmas.List.{get_or-replicate, length-set}
use Rattle.std.proofs.lemmas.List.Elements.{All-filter, All-map, filter_passes}
use Rattle.std.proofs.lemmas.List.FromFn.{get_or-range_with_len, length-range_with_len, map-range_with_len_more}
use Rattle.std.specs.Int.{int_max}
use Rattle.std.specs.List.{All, range_with_len}
use Rattle.colour_graph.specs.Colourful.{total}
use Rattle.colour_graph.specs.EdgeSet.{AreInto, edges_into, is_allowed}
use Rattle.colour_graph.specs.Graph.{Graph, HasColours, colour_count, edge_at, head_colour}
use Rattle.colour_graph.proofs.Order.{colour-le_vertex}
use Rattle.tree_certificate.specs.BoundValue.{PriceValue}
use Rattle.tree_certificate.specs.PriceHolds.{edges_between, gain_by, gain_of}
use Rattle.tree_certificate.proofs.Caps.{IsIn-edges_into}
use Rattle.tree_certificate.proofs.Members.{All-at, IsIn-filter, IsIn-map}
use Rattle.tree_certificate.specs.Number.{number_in}
use Rattle.certificate_checker.specs.inside.Gained.{AreClear, AreGained, AreGainedBefore, AreGainsOf, AreNeededBy}
use Rattle.certificate_checker.specs.inside.Gained.{AreNeeds, AreOfTails, AreSums, IsEdgeGain, IsGainBound, IsGained}
use Rattle.certificate_checker.specs.inside.Gained.{IsNeed}
use Rattle.certificate_checker.proofs.CapOf.{fold-low, same_number, self, total-push}

number_in-same : (numbers : List ℤ) (place : ℕ) (number : ℤ) → place < length numbers
    → number_in (slice_set numbers place number) place ≡ number
number_in-same numbers place number within = get_or-set_same numbers place number (pos 0) within

number_in-other : (numbers : List ℤ) (place other : ℕ) (number : ℤ) → other ≢ place
    → number_in (slice_set numbers place number) other ≡ number_in numbers other
number_in-other numbers place other number apart = get_or-set_other numbers place other number (pos 0) apart

-- a buffer of zeros
pub clear-zeros : (long vertex : ℕ) → vertex < long → number_in (replicate long (pos 0)) vertex ≡ pos 0
clear-zeros long vertex within = get_or-replicate long vertex (pos 0) (pos 0) within

-- Before the edges into a colour no edge gains.
pub gained-first : (graph : Graph) (allowed : List Bool) (cert : PriceValue) (colour first past : ℕ) (gains : List ℤ)
    → AreInto graph colour first past
    → AreClear gains → AreGainedBefore graph allowed cert colour first gains
gained-first graph allowed cert colour first past gains into clear vertex within upper = (
  λ low. record {
    zero = rw clear_here at low;
    each = λ edge before in_graph is there tail. absurd (not_there edge before in_graph there);
  },
  λ bound. rw clear_here bound.zero,
)
  where
    clear_here : number_in gains vertex ≡ pos 0
    clear_here = clear vertex within

    not_there : (edge : ℕ) → edge < first → edge < length graph.edges → head_colour graph edge ≡ colour → ⊥
    not_there edge before in_graph there =
        let smaller = (into.smaller edge in_graph).0 before in
        omega (arith, smaller, there)

max-both : (a b upper : ℤ) → (int_max a b ≤ℤ upper) ↔ ((a ≤ℤ upper) × (b ≤ℤ upper))
max-both a b upper = (to, from)
  where
    to : int_max a b ≤ℤ upper → (a ≤ℤ upper) × (b ≤ℤ upper)
    to low = (omega (arith, ints, clamps), omega (arith, ints, clamps))

    from : (a ≤ℤ upper) × (b ≤ℤ upper) → int_max a b ≤ℤ upper
    from both = let one = both.0 in let other = both.1 in omega (arith, ints, clamps)

-- One more edge of the set raises what its tail gains.
pub gained-with : (graph : Graph) (allowed : List Bool) (cert : PriceValue) (colour first past edge tail : ℕ)
    (gains new : List ℤ) (gain : ℤ)
    → AreInto graph colour first past → first ≤ edge → edge < past → is_allowed allowed edge ≡ true
    → tail ≡ (edge_at graph edge).tail → tail < length gains
    → gain ≡ gain_by graph cert colour edge → new ≡ slice_set gains tail (int_max (number_in gains tail) gain)
    → AreGainedBefore graph allowed cert colour edge gains → AreGainedBefore graph allowed cert colour (edge + 1) new
gained-with graph allowed cert colour first past edge tail gains new gain into from below is tail_is room gain_is new_is
    before vertex within upper =
    choose (cases_eq vertex tail)
  where
    in_graph : edge < length graph.edges
    in_graph = omega (arith, into.within)

    in_old : vertex < length gains
    in_old = omega (
      arith,
      within,
      ap (λ xs. length xs) new_is,
      length-set gains tail (int_max (number_in gains tail) gain),
    )

    there : head_colour graph edge ≡ colour
    there = (into.members edge in_graph).0 (from, below)

    -- for a vertex whose number is the greater of the old one and what the edge gains, if it goes from there
    step : (n : ℤ) → ((n ≤ℤ upper) ↔ ((number_in gains vertex ≤ℤ upper)
        × ((edge_at graph edge).tail ≡ vertex → gain_by graph cert colour edge ≤ℤ upper)))
        → (n ≤ℤ upper) ↔ IsGainBound graph allowed cert colour (edge + 1) vertex upper
    step n both = (to, back)
      where
        to : n ≤ℤ upper → IsGainBound graph allowed cert colour (edge + 1) vertex upper
        to low = record { zero = old.zero; each = each }
          where
            old : IsGainBound graph allowed cert colour edge vertex upper
            old = (before vertex in_old upper).0 ((both.0 low).0)

            each : (other : ℕ) → other < edge + 1 → other < length graph.edges → is_allowed allowed other ≡ true
                → head_colour graph other ≡ colour
                → (edge_at graph other).tail ≡ vertex → gain_by graph cert colour other ≤ℤ upper
            each other at inside allows goes begins = pick (cases_eq other edge)
              where
                pick : (other ≡ edge) ⊎ (other ≡ edge → ⊥) → gain_by graph cert colour other ≤ℤ upper
                pick (inl same) = rw same ((both.0 low).1 (rw same at begins))
                pick (inr apart) = old.each other (omega (arith, at, apart)) inside allows goes begins

        back : IsGainBound graph allowed cert colour (edge + 1) vertex upper → n ≤ℤ upper
        back bound = both.1 (
          (before vertex in_old upper).1
              (record { zero = bound.zero; each = λ other at. bound.each other (omega (arith, at)) }),
          λ begins. bound.each edge (omega arith) in_graph is there begins,
        )

    choose : (vertex ≡ tail) ⊎ (vertex ≡ tail → ⊥)
        → (number_in new vertex ≤ℤ upper) ↔ IsGainBound graph allowed cert colour (edge + 1) vertex upper
    choose (inl same) = step (number_in new vertex) (
      λ low. (
        ((max-both (number_in gains vertex) gain upper).0 (rw number_is at low)).0,
        λ begins. rw (← gain_is) (((max-both (number_in gains vertex) gain upper).0 (rw number_is at low)).1),
      ),
      λ parts. rw number_is ((max-both (number_in gains vertex) gain upper).1
          (parts.0, rw gain_is (parts.1 (sym tail_is ∙ sym same)))),
    )
      where
        number_is : number_in new vertex ≡ int_max (number_in gains vertex) gain
        number_is = ap (λ xs. number_in xs vertex) new_is
            ∙ ap (λ v. number_in (slice_set gains tail (int_max (number_in gains tail) gain)) v) same
            ∙ number_in-same gains tail (int_max (number_in gains tail) gain) room
            ∙ ap (λ v. int_max (number_in gains v) gain) (sym same)
    choose (inr apart) = step (number_in new vertex) (
      λ low. (rw number_is at low, λ begins. absurd (apart (sym begins ∙ sym tail_is))),
      λ parts. rw number_is parts.0,
    )
      where
        number_is : number_in new vertex ≡ number_in gains vertex
        number_is = ap (λ xs. number_in xs vertex) new_is
            ∙ number_in-other gains tail vertex (int_max (number_in gains tail) gain) apart

-- One more edge that is not of the set changes nothing.
pub gained-without : (graph : Graph) (allowed : List Bool) (cert : PriceValue) (colour edge : ℕ) (gains : List ℤ)
    → is_allowed allowed edge ≡ false
    → AreGainedBefore graph allowed cert colour edge gains → AreGainedBefore graph allowed cert colour (edge + 1) gains
gained-without graph allowed cert colour edge gains lacks before vertex within upper = (to, from)
  where
    to : number_in gains vertex ≤ℤ upper → IsGainBound graph allowed cert colour (edge + 1) vertex upper
    to low = record { zero = old.zero; each = each }
      where
        old : IsGainBound graph allowed cert colour edge vertex upper
        old = (before vertex within upper).0 low

        each : (other : ℕ) → other < edge + 1 → other < length graph.edges → is_allowed allowed other ≡ true
            → head_colour graph other ≡ colour
            → (edge_at graph other).tail ≡ vertex → gain_by graph cert colour other ≤ℤ upper
        each other at inside allows goes begins = pick (cases_eq other edge)
          where
            pick : (other ≡ edge) ⊎ (other ≡ edge → ⊥) → gain_by graph cert colour other ≤ℤ upper
            pick (inl same) = absurd (false≢true (sym lacks ∙ ap (λ e. is_allowed allowed e) (sym same) ∙ allows))
            pick (inr apart) = old.each other (omega (arith, at, apart)) inside allows goes begins

    from : IsGainBound graph allowed cert colour (edge + 1) vertex upper → number_in gains vertex ≤ℤ upper
    from bound = (before vertex within upper).1
        (record { zero = bound.zero; each = λ other at. bound.each other (omega (arith, at)) })

-- what an edge may gain raises what a vertex may gain
pub gained-near : (gains new : List ℤ) (tail : ℕ) (gain : ℤ) → tail < length gains → IsEdgeGain gain
    → new ≡ slice_set gains tail (int_max (number_in gains tail) gain)
    → AreGained gains → AreGained new
gained-near gains new tail gain room near new_is before vertex within = choose (cases_eq vertex tail)
  where
    in_old : vertex < length gains
    in_old = omega (
      arith,
      within,
      ap (λ xs. length xs) new_is,
      length-set gains tail (int_max (number_in gains tail) gain),
    )

    greater : (held more : ℤ) → IsGained held → IsEdgeGain more → IsGained (int_max held more)
    greater held more one other = record {
      not_below = omega (arith, ints, clamps, one.not_below);
      not_above = omega (arith, ints, clamps, one.not_above, other.not_above);
    }

    choose : (vertex ≡ tail) ⊎ (vertex ≡ tail → ⊥) → IsGained (number_in new vertex)
    choose (inl same) = rw (new_is, same, number_in-same gains tail (int_max (number_in gains tail) gain) room)
        (greater (number_in gains tail) gain (before tail room) near)
    choose (inr apart) = rw (new_is, number_in-other gains tail vertex (int_max (number_in gains tail) gain) apart)
        (before vertex in_old)

-- What vertices gain by the edges before the last into a colour, they gain by the colour.
pub gained-last : (graph : Graph) (allowed : List Bool) (cert : PriceValue) (colour first past : ℕ) (gains : List ℤ)
    → AreInto graph colour first past
    → AreGainedBefore graph allowed cert colour past gains → AreGainsOf graph allowed cert colour gains
gained-last graph allowed cert colour first past gains into is vertex within = same_number held best low high
  where
    held : ℤ
    held = number_in gains vertex

    edges : List ℕ
    edges = edges_between graph allowed vertex colour

    best : ℤ
    best = gain_of graph allowed cert vertex colour

    bounds : (pos 0 ≤ℤ best) × All (λ gain. gain ≤ℤ best) (map (gain_by graph cert colour) edges)
    bounds = fold-int_max_bounds (pos 0) (map (gain_by graph cert colour) edges) best refl

    low : held ≤ℤ best
    low = (is vertex within best).1 (record { zero = bounds.0; each = each })
      where
        each : (edge : ℕ) → edge < past → edge < length graph.edges → is_allowed allowed edge ≡ true
            → head_colour graph edge ≡ colour
            → (edge_at graph edge).tail ≡ vertex → gain_by graph cert colour edge ≤ℤ best
        each edge below in_graph allows there begins =
            All-at (λ (gain : ℤ). gain ≤ℤ best) (gain_by graph cert colour edge)
            (map (gain_by graph cert colour) edges) bounds.1
            (IsIn-map (gain_by graph cert colour) edge edges
            (IsIn-filter (λ at. eqb (edge_at graph at).tail vertex) edge (edges_into graph allowed colour)
            (rw there at (IsIn-edges_into graph allowed edge in_graph allows))
            (eq-eqb (edge_at graph edge).tail vertex begins)))

    goes : ℕ → Bool
    goes edge = is_allowed allowed edge && eqb (head_colour graph edge) colour

    begins_here : ℕ → Bool
    begins_here edge = eqb (edge_at graph edge).tail vertex

    high : best ≤ℤ held
    high = fold-low (pos 0) held (map (gain_by graph cert colour) edges) ((is vertex within held).0 (self held)).zero
        (All-map (λ gain. gain ≤ℤ held) (gain_by graph cert colour) edges each)
      where
        at_each : (edge place count : ℕ) → edge ≡ 0 + place → place < count → count ≡ length graph.edges
            → goes edge ≡ true → begins_here edge ≡ true
            → gain_by graph cert colour edge ≤ℤ held
        at_each edge place count at few all passes begins =
            let in_graph : edge < length graph.edges = omega arith in
            let parts = and_parts (is_allowed allowed edge) (eqb (head_colour graph edge) colour) passes in
            let there : head_colour graph edge ≡ colour = eqb-true (head_colour graph edge) colour parts.1 in
            ((is vertex within held).0 (self held)).each edge
            (((into.members edge in_graph).1 there).1) in_graph parts.0 there
            (eqb-true (edge_at graph edge).tail vertex begins)

        in_range : All (λ edge. goes edge ≡ true → begins_here edge ≡ true → gain_by graph cert colour edge ≤ℤ held)
            (range_with_len 0 (length graph.edges))
        in_range k d at =
            let few : k < length graph.edges = omega (arith, length-range_with_len 0 (length graph.edges)) in
            at_each (get_or (range_with_len 0 (length graph.edges)) k d) k (length graph.edges)
            (get_or-range_with_len 0 (length graph.edges) k d few) few refl

        of_colour : All (λ edge. begins_here edge ≡ true → gain_by graph cert colour edge ≤ℤ held)
            (edges_into graph allowed colour)
        of_colour k d at =
            All-filter goes (λ edge. goes edge ≡ true → begins_here edge ≡ true
            → gain_by graph cert colour edge ≤ℤ held) (range_with_len 0 (length graph.edges))
            in_range k d at
            (filter_passes goes (range_with_len 0 (length graph.edges)) k d at)

        each : All (λ edge. gain_by graph cert colour edge ≤ℤ held) edges
        each k d at =
            All-filter begins_here (λ edge. begins_here edge ≡ true → gain_by graph cert colour edge ≤ℤ held)
            (edges_into graph allowed colour)
            of_colour k d at
            (filter_passes begins_here (edges_into graph allowed colour) k d at)

-- A vertex from which no edge goes into a colour gains nothing.
pub gained-tails : (graph : Graph) (allowed : List Bool) (cert : PriceValue) (colour past : ℕ) (gains : List ℤ)
    → AreGained gains
    → AreGainedBefore graph allowed cert colour past gains → AreOfTails graph colour 0 gains
gained-tails graph allowed cert colour past gains near is vertex within none =
    same_number (number_in gains vertex) (pos 0) low (near vertex within).not_below
  where
    low : number_in gains vertex ≤ℤ pos 0
    low = (is vertex within (pos 0)).1 (record {
      zero = self (pos 0);
      each = λ edge below in_graph allows there begins. absurd (none edge (omega arith) in_graph there begins);
    })

-- Gains that are added to what is gained by smaller colours, one tail after another: the sums so far and the gains
-- left.
pub record AreMoved (graph : Graph) (colour place : ℕ) (needed gains before held : List ℤ) : Type 0 where
  pub long : length needed ≡ length gains
  pub needs_long : length needed ≡ length before
  pub gains_long : length gains ≡ length held
  pub sums : (vertex : ℕ) → vertex < length gains
      → number_in needed vertex +ℤ number_in gains vertex ≡ number_in before vertex +ℤ number_in held vertex
  pub needs : AreNeeds 512 needed
  pub gained : AreGained gains
  pub tails : AreOfTails graph colour place gains

pub moved-first : (graph : Graph) (colour first past : ℕ) (needed gains : List ℤ) → 0 < colour → colour ≤ 512
    → length needed ≡ length gains → AreInto graph colour first past
    → AreNeeds (colour - 1) needed → AreGained gains → AreOfTails graph colour 0 gains
    → AreMoved graph colour first needed gains needed gains
moved-first graph colour first past needed gains some few long into needs gained tails = record {
  long = long;
  needs_long = refl;
  gains_long = refl;
  sums = λ vertex within. refl;
  needs = λ vertex within. record {
    not_below = (needs vertex within).not_below;
    not_above = more (number_in needed vertex) (needs vertex within).not_above;
  };
  gained = gained;
  tails = λ vertex within none. tails vertex within
      (λ edge from in_graph there. none edge (((into.members edge in_graph).1 there).0) in_graph there);
}
  where
    more : (n : ℤ) → n ≤ℤ pos (2000000000100000 * (colour - 1)) → n ≤ℤ pos (2000000000100000 * 512)
    more n low = omega (arith, ints)

pub moved-more : (graph : Graph) (colour first past place tail : ℕ) (needed gains before held more left : List ℤ)
    → 0 < colour → colour ≤ 512 → AreInto graph colour first past
    → first ≤ place → place < past → AreNeeds (colour - 1) before → AreGained held → tail ≡ (edge_at graph place).tail
    → tail < length gains
    → more ≡ slice_set needed tail (number_in needed tail +ℤ number_in gains tail) → left ≡ slice_set gains tail (pos 0)
    → AreMoved graph colour place needed gains before held → AreMoved graph colour (place + 1) more left before held
moved-more graph colour first past place tail needed gains before held more left some few into from below needs gained
    tail_is room more_is left_is known = record {
      long = more_long ∙ known.long ∙ sym left_long;
      needs_long = more_long ∙ known.needs_long;
      gains_long = left_long ∙ known.gains_long;
      sums = λ vertex within. sums vertex (omega (arith, within, left_long)) (cases_eq vertex tail);
      needs = λ vertex within. is_need vertex (omega (arith, within, more_long, known.long)) (cases_eq vertex tail);
      gained = λ vertex within. is_gained vertex (omega (arith, within, left_long)) (cases_eq vertex tail);
      tails = λ vertex within none. is_left vertex (omega (arith, within, left_long)) none (cases_eq vertex tail);
    }
  where
    sum : ℤ
    sum = number_in needed tail +ℤ number_in gains tail

    more_long : length more ≡ length needed
    more_long = ap (λ xs. length xs) more_is ∙ length-set needed tail sum

    left_long : length left ≡ length gains
    left_long = ap (λ xs. length xs) left_is ∙ length-set gains tail (pos 0)

    needed_room : tail < length needed
    needed_room = omega (arith, known.long)

    more_here : number_in more tail ≡ sum
    more_here = ap (λ xs. number_in xs tail) more_is ∙ number_in-same needed tail sum needed_room

    more_there : (vertex : ℕ) → (vertex ≡ tail → ⊥) → number_in more vertex ≡ number_in needed vertex
    more_there vertex apart = ap (λ xs. number_in xs vertex) more_is ∙ number_in-other needed tail vertex sum apart

    left_here : number_in left tail ≡ pos 0
    left_here = ap (λ xs. number_in xs tail) left_is ∙ number_in-same gains tail (pos 0) room

    left_there : (vertex : ℕ) → (vertex ≡ tail → ⊥) → number_in left vertex ≡ number_in gains vertex
    left_there vertex apart = ap (λ xs. number_in xs vertex) left_is ∙ number_in-other gains tail vertex (pos 0) apart

    plus_zero : (n : ℤ) → n +ℤ pos 0 ≡ n
    plus_zero n = omega (arith, ints)

    sums : (vertex : ℕ) → vertex < length gains → (vertex ≡ tail) ⊎ (vertex ≡ tail → ⊥)
        → number_in more vertex +ℤ number_in left vertex ≡ number_in before vertex +ℤ number_in held vertex
    sums vertex within (inl same) = rw (same, more_here, left_here, plus_zero sum) (known.sums tail room)
    sums vertex within (inr apart) = rw (more_there vertex apart, left_there vertex apart) (known.sums vertex within)

    bounded : (n old gain : ℤ) → n ≡ old +ℤ gain → pos 0 ≤ℤ n → IsNeed (colour - 1) old → IsGained gain → IsNeed 512 n
    bounded n old gain is low need near =
        record { not_below = low; not_above = omega (arith, ints, need.not_above, near.not_above) }

    not_negative : (a b : ℤ) → pos 0 ≤ℤ a → pos 0 ≤ℤ b → pos 0 ≤ℤ (a +ℤ b)
    not_negative a b one other = omega (arith, ints)

    is_need : (vertex : ℕ) → vertex < length gains → (vertex ≡ tail) ⊎ (vertex ≡ tail → ⊥)
        → IsNeed 512 (number_in more vertex)
    is_need vertex within (inl same) =
        rw (same, more_here)
        (bounded sum (number_in before tail) (number_in held tail) (known.sums tail room)
        (not_negative (number_in needed tail) (number_in gains tail) (known.needs tail needed_room).not_below
        (known.gained tail room).not_below)
        (needs tail (omega (arith, needed_room, known.needs_long)))
        (gained tail (omega (arith, room, known.gains_long))))
    is_need vertex within (inr apart) = rw (more_there vertex apart)
        (known.needs vertex (omega (arith, within, known.long)))

    is_gained : (vertex : ℕ) → vertex < length gains → (vertex ≡ tail) ⊎ (vertex ≡ tail → ⊥)
        → IsGained (number_in left vertex)
    is_gained vertex within (inl same) =
        rw (same, left_here) (record { not_below = self (pos 0); not_above = omega (arith, ints) })
    is_gained vertex within (inr apart) = rw (left_there vertex apart) (known.gained vertex within)

    is_left : (vertex : ℕ) → vertex < length gains
        → ((edge : ℕ) → place + 1 ≤ edge → edge < length graph.edges → head_colour graph edge ≡ colour
        → (edge_at graph edge).tail ≢ vertex) → (vertex ≡ tail) ⊎ (vertex ≡ tail → ⊥) → number_in left vertex ≡ pos 0
    is_left vertex within none (inl same) = rw same left_here
    is_left vertex within none (inr apart) = left_there vertex apart ∙ known.tails vertex within each
      where
        each : (edge : ℕ) → place ≤ edge → edge < length graph.edges → head_colour graph edge ≡ colour
            → (edge_at graph edge).tail ≢ vertex
        each edge at in_graph there begins = pick (cases_eq edge place)
          where
            pick : (edge ≡ place) ⊎ (edge ≡ place → ⊥) → ⊥
            pick (inl same) = apart (sym begins ∙ ap (λ e. (edge_at graph e).tail) same ∙ sym tail_is)
            pick (inr later) = none edge (omega (arith, at, later)) in_graph there begins

-- at the end no gain is left
pub moved-last : (graph : Graph) (colour first past : ℕ) (needed gains before held : List ℤ)
    → AreInto graph colour first past
    → AreMoved graph colour past needed gains before held → AreClear gains
moved-last graph colour first past needed gains before held into known vertex within =
    known.tails vertex within (λ edge from in_graph there. absurd
    (not_past edge from (((into.members edge in_graph).1 there).1)))
  where
    not_past : (edge : ℕ) → past ≤ edge → edge < past → ⊥
    not_past edge from below = omega arith

pub moved-sums : (graph : Graph) (colour place : ℕ) (needed gains before held : List ℤ)
    → AreMoved graph colour place needed gains before held → AreClear gains
    → AreSums needed before held
moved-sums graph colour place needed gains before held known clear vertex within =
    plus (number_in needed vertex) (number_in gains vertex) (number_in before vertex +ℤ number_in held vertex)
    (clear vertex here) (known.sums vertex here)
  where
    here : vertex < length gains
    here = omega (arith, within, known.gains_long)

    plus : (n gain sum : ℤ) → gain ≡ pos 0 → n +ℤ gain ≡ sum → n ≡ sum
    plus n gain sum none is = omega (arith, ints)

-- a graph of so few vertices has fewer colours
pub few_colours : (graph : Graph) → HasColours graph.colours → length graph.colours ≤ 512 → colour_count graph < 512
few_colours graph colours few =
    let low = colour-le_vertex graph colours (length graph.colours - 1) (omega (arith, colours.some)) in
    omega (arith, low, colours.some)

-- what is gained by no colour
pub needed-none : (graph : Graph) (allowed : List Bool) (cert : PriceValue) (needed : List ℤ) → AreClear needed
    → AreNeededBy graph allowed cert 0 needed
needed-none graph allowed cert needed clear vertex within = clear vertex within

-- what is gained by one colour more
pub needed-more : (graph : Graph) (allowed : List Bool) (cert : PriceValue) (before colour : ℕ)
    (needed gains more : List ℤ) → colour ≡ before + 1
    → length more ≡ length needed → length needed ≡ length gains → AreNeededBy graph allowed cert before needed
    → AreGainsOf graph allowed cert colour gains
    → AreSums more needed gains → AreNeededBy graph allowed cert (before + 1) more
needed-more graph allowed cert before colour needed gains more next more_long long known gained added vertex within =
    added vertex in_gains ∙ ap (λ n. n +ℤ number_in gains vertex) (known vertex in_needed)
    ∙ ap (λ n. total (map (gain_of graph allowed cert vertex) (range_with_len 1 before)) +ℤ n) (gained vertex in_gains
    ∙ ap (gain_of graph allowed cert vertex) next)
    ∙ sym (total-push (map (gain_of graph allowed cert vertex) (range_with_len 1 before))
    (gain_of graph allowed cert vertex (before + 1)))
    ∙ ap (λ ns. total ns) (sym (map-range_with_len_more (gain_of graph allowed cert vertex) 1 before (before + 1)
    (omega arith)))
  where
    in_needed : vertex < length needed
    in_needed = omega (arith, within, more_long)

    in_gains : vertex < length gains
    in_gains = omega (arith, within, more_long, long)

pub needs-none : (needed : List ℤ) → AreClear needed → AreNeeds 0 needed
needs-none needed clear vertex within = rw (clear vertex within)
    (record { not_below = self (pos 0); not_above = self (pos 0) })

pub needs-more : (before : ℕ) (needed gains more : List ℤ) → length more ≡ length needed → length needed ≡ length gains
    → AreNeeds before needed → AreGained gains
    → AreSums more needed gains → AreNeeds (before + 1) more
needs-more before needed gains more more_long long needs gained added vertex within =
    rw (added vertex in_gains) (sum (number_in needed vertex) (number_in gains vertex) (needs vertex in_needed)
    (gained vertex in_gains))
  where
    in_needed : vertex < length needed
    in_needed = omega (arith, within, more_long)

    in_gains : vertex < length gains
    in_gains = omega (arith, within, more_long, long)

    sum : (need gain : ℤ) → IsNeed before need → IsGained gain → IsNeed (before + 1) (need +ℤ gain)
    sum need gain one other = record {
      not_below = omega (arith, ints, one.not_below, other.not_below);
      not_above = omega (arith, ints, one.not_above, other.not_above);
    }
