-- The candidates with the chosen counts, by the count of one more element.
use Rattle.std.proofs.Common.{◌≡◌, ℕ, ◌+◌, ◌*◌, ◌<◌, ◌≤◌, ◌↔◌, inl, inr, List, [], ◌∷◌, length, slice_index, slice_set, refl}
use Rattle.std.proofs.Common.{sym, subst, ap, ◌∙◌, arith, get_or-set_same, get_or-set_other}
use Rattle.std.proofs.lemmas.Bool.{cases_eq}
use Rattle.std.proofs.lemmas.Grind.{same_number_lists}
use Rattle.std.proofs.lemmas.List.{length-set}
use Rattle.std.proofs.Math.Nat.{eq-or-lt_of_le, mul-le-mul_right}
use Rattle.std.specs.List.{AllByRecursion}
use Rattle.element_table.specs.Elements.{masses}
use Rattle.element_table.specs.Formula.{IsWithin, mass_of}
use Rattle.element_table.specs.Rule.{Rule, Passes}
use Rattle.formula_lister.specs.declared.chosen.Bounds.{Bounds}
use Rattle.formula_lister.specs.declared.chosen.Chosen.{Chosen}
use Rattle.formula_lister.specs.declared.element.Element.{Element}
use Rattle.formula_lister.specs.inside.Counting.{Completes, Gains, Overfills, IsOne, IsReady}
use Rattle.formula_lister.specs.inside.Elements.{AreElements, IsUncounted, NoneChosen, reach_of}
use Rattle.formula_lister.proofs.Gaining.{Gains-as, Gains-more, Gains-none, Overfills-later}
use Rattle.formula_lister.proofs.WeightedSum.{weighted_sum-set}

abbrev IsLower : ℕ → List Element → Type 0
IsLower place elements = AllByRecursion (λ element. element.place < place) elements

lower_uncounted : (place : ℕ) (elements : List Element) → IsLower place elements → IsUncounted elements place
lower_uncounted place [] lower = tt
lower_uncounted place (element ∷ elements) lower = (omega (arith, lower.0), lower_uncounted place elements lower.1)

-- a count at a higher place chooses none of these elements
pub NoneChosen-set : (elements : List Element) (place count : ℕ) (chosen : List ℕ) → IsLower place elements
    → NoneChosen elements chosen → NoneChosen elements (slice_set chosen place count)
NoneChosen-set [] place count chosen lower none = tt
NoneChosen-set (element ∷ elements) place count chosen lower none = (
  get_or-set_other chosen place element.place count 0 (omega (arith, lower.0))
      ∙ none.0,
  NoneChosen-set elements place count chosen lower.1 none.1,
)

pub IsWithin-set : (counts limits : List ℕ) (place count : ℕ) → place < length counts → IsWithin counts limits
    → count ≤ slice_index limits place → IsWithin (slice_set counts place count) limits
IsWithin-set counts limits place count inside within small = λ k. elim (cases_eq k place) [
  | inl e ↦
      let P : ℕ → Type 0 = λ n. slice_index (slice_set counts place count) n ≤ slice_index limits n in
      subst P (sym e) (omega (arith, get_or-set_same counts place count 0 inside))
  | inr other ↦ omega (arith, get_or-set_other counts place k count 0 other, within k)
]

-- one count more is chosen: that of the first element
pub Completes-set : (bounds : Bounds) (rules : List Rule) (element : Element) (others : List Element)
    (chosen counts : List ℕ) → element.place < length chosen → Completes bounds rules (element ∷ others) chosen counts
    → Completes bounds rules others (slice_set chosen element.place (slice_index counts element.place)) counts
Completes-set bounds rules element others chosen counts inside h = record {
  candidate = h.candidate;
  shares = λ k uncounted. elim (cases_eq k element.place) [
    | inl e ↦
        let P : ℕ → Type 0 =
        λ n. slice_index counts n ≡ slice_index (slice_set chosen element.place (slice_index counts element.place))
        n in
        subst P (sym e) (sym (get_or-set_same chosen element.place (slice_index counts element.place) 0 inside))
    | inr other ↦
        h.shares k ((λ is. other (sym is)), uncounted)
        ∙ sym (get_or-set_other chosen element.place k (slice_index counts element.place) 0 other)
  ];
}

-- and back
pub Completes-unset : (bounds : Bounds) (rules : List Rule) (element : Element) (others : List Element) (count : ℕ)
    (chosen counts : List ℕ) → element.place < length chosen → IsLower element.place others
    → Completes bounds rules others (slice_set chosen element.place count) counts
    → Completes bounds rules (element ∷ others) chosen counts × (slice_index counts element.place ≡ count)
Completes-unset bounds rules element others count chosen counts inside lower h = (
  record {
    candidate = h.candidate;
    shares =
        λ k uncounted. h.shares k uncounted.1 ∙ get_or-set_other chosen element.place k count 0
        (λ is. uncounted.0 (sym is));
  },
  h.shares element.place (lower_uncounted element.place others lower)
      ∙ get_or-set_same chosen element.place count 0 inside,
)

-- with every count chosen there is one candidate, if it is one
pub Completes-only_itself : (bounds : Bounds) (rules : List Rule) (chosen counts : List ℕ) → length chosen ≡ 16
    → Completes bounds rules [] chosen counts → chosen ≡ counts
Completes-only_itself bounds rules chosen counts places h =
    same_number_lists chosen counts (places ∙ sym h.candidate.places) (λ k below. sym (h.shares k tt))

pub Completes-itself : (bounds : Bounds) (rules : List Rule) (chosen counts : List ℕ) → IsReady bounds [] chosen
    → bounds.least ≤ mass_of chosen → mass_of chosen ≤ bounds.most → IsOne rules chosen counts
    → Completes bounds rules [] chosen counts
Completes-itself bounds rules chosen counts ready reached light one =
    let P : List ℕ → Type 0 = λ list. Passes rules list → Completes bounds rules [] chosen list in
    subst P one.0 (λ passes. record {
      candidate =
          record {
            places = ready.places;
            within_limits = ready.within_limits;
            not_below = reached;
            not_above = light;
            passes = passes;
          };
      shares = λ k uncounted. refl;
    }) one.1

pub one_from_Completes-itself : (bounds : Bounds) (rules : List Rule) (chosen counts : List ℕ)
    → IsReady bounds [] chosen → Completes bounds rules [] chosen counts → IsOne rules chosen counts
one_from_Completes-itself bounds rules chosen counts ready h =
    (Completes-only_itself bounds rules chosen counts ready.places h, h.candidate.passes)

pub Completes-reached : (bounds : Bounds) (rules : List Rule) (chosen counts : List ℕ) → IsReady bounds [] chosen
    → Completes bounds rules [] chosen counts → bounds.least ≤ mass_of chosen
Completes-reached bounds rules chosen counts ready h =
    omega (arith, h.candidate.not_below, ap mass_of (Completes-only_itself bounds rules chosen counts ready.places h))

-- the mass of the atoms of some elements
weight_of : List Element → List ℕ → ℕ
weight_of [] counts = 0
weight_of (element ∷ elements) counts = slice_index counts element.place * element.mass + weight_of elements counts

pub IsReady-inside : (bounds : Bounds) (element : Element) (others : List Element) (chosen : List ℕ)
    → IsReady bounds (element ∷ others) chosen → element.place < length chosen
IsReady-inside bounds element others chosen ready = omega (arith, ready.places, ready.known.0.known.place)

-- a count of the first element is chosen
pub IsReady-set : (bounds : Bounds) (element : Element) (others : List Element) (chosen : List ℕ) (count : ℕ)
    → IsReady bounds (element ∷ others) chosen → count ≤ element.limit
    → IsReady bounds others (slice_set chosen element.place count)
IsReady-set bounds element others chosen count ready small = record {
  known = ready.known.1;
  none = NoneChosen-set others element.place count chosen ready.known.0.falling ready.none.1;
  places = length-set chosen element.place count ∙ ready.places;
  within_limits =
      IsWithin-set chosen bounds.limits element.place count (IsReady-inside bounds element others chosen ready)
      ready.within_limits (omega (arith, small, ready.known.0.limited));
}

-- and adds its atoms' mass
pub mass-set : (bounds : Bounds) (element : Element) (others : List Element) (chosen : List ℕ) (count : ℕ)
    → IsReady bounds (element ∷ others) chosen → mass_of (slice_set chosen element.place count) ≡ mass_of chosen
    + count * element.mass
mass-set bounds element others chosen count ready =
    omega (
      arith,
      weighted_sum-set chosen masses element.place count (IsReady-inside bounds element others chosen ready)
          ready.none.0,
      ap (λ n. count * n) ready.known.0.known.weighed,
    )

-- a candidate's mass is that of the chosen atoms and that of the others
mass_split : (bounds : Bounds) (rules : List Rule) (elements : List Element) (chosen counts : List ℕ)
    → IsReady bounds elements chosen → Completes bounds rules elements chosen counts → mass_of counts ≡ mass_of chosen
    + weight_of elements counts
unfolding weight_of
mass_split bounds rules [] chosen counts ready h =
    omega (arith, ap mass_of (Completes-only_itself bounds rules chosen counts ready.places h))
mass_split bounds rules (element ∷ others) chosen counts ready h =
    let count = slice_index counts element.place in
    let small : count ≤ element.limit = omega (arith, ready.known.0.limited, h.candidate.within_limits element.place) in
    omega (
      arith,
      mass_split bounds rules others (slice_set chosen element.place count) counts
          (IsReady-set bounds element others chosen count ready small)
          (Completes-set bounds rules element others chosen counts (IsReady-inside bounds element others chosen ready)
          h),
      mass-set bounds element others chosen count ready,
    )

weight-le_reach : (limits : List ℕ) (elements : List Element) (counts : List ℕ) → AreElements limits elements
    → IsWithin counts limits → weight_of elements counts ≤ reach_of elements
unfolding weight_of
weight-le_reach limits [] counts are within = omega arith
weight-le_reach limits (element ∷ others) counts are within =
    let small : slice_index counts element.place ≤ element.limit = omega (arith, are.0.limited, within element.place) in
    omega (arith, mul-le-mul_right element.mass small, weight-le_reach limits others counts are.1 within)

-- what a candidate says of the count of the first element
pub record IsFeasible (bounds : Bounds) (element : Element) (mass count : ℕ) : Type 0 where
  pub reached : bounds.least ≤ mass + count * element.mass + element.after
  pub within_limit : count ≤ element.limit
  pub light : mass + count * element.mass ≤ bounds.most

pub Completes-feasible : (bounds : Bounds) (rules : List Rule) (element : Element) (others : List Element)
    (chosen counts : List ℕ) (mass : ℕ) → IsReady bounds (element ∷ others) chosen → mass ≡ mass_of chosen
    → Completes bounds rules (element ∷ others) chosen counts
    → IsFeasible bounds element mass (slice_index counts element.place)
unfolding weight_of
Completes-feasible bounds rules element others chosen counts mass ready weighed h =
    let split = mass_split bounds rules (element ∷ others) chosen counts ready h in
    let reach = weight-le_reach bounds.limits others counts ready.known.1 h.candidate.within_limits in
    record {
      reached = omega (arith, split, reach, weighed, h.candidate.not_below, ready.known.0.reach);
      within_limit = omega (arith, ready.known.0.limited, h.candidate.within_limits element.place);
      light = omega (arith, split, weighed, h.candidate.not_above);
    }

-- the candidates with less than so many atoms of the first element
abbrev pub CompletesBelow : Bounds → List Rule → Element → List Element → List ℕ → ℕ → List ℕ → Type 0
CompletesBelow bounds rules element others chosen count counts =
    Completes bounds rules (element ∷ others) chosen counts × (slice_index counts element.place < count)

-- some elements are their first and the others
pub IsReady-first : (bounds : Bounds) (elements : List Element) (first : Element) (others : List Element)
    (chosen : List ℕ) → elements ≡ first ∷ others → IsReady bounds elements chosen
    → IsReady bounds (first ∷ others) chosen
IsReady-first bounds elements first others chosen is ready =
    subst (λ (l : List Element). IsReady bounds l chosen) is ready

-- below the least count with which the others reach the bounds there are no candidates
pub Gains-no_count : (bounds : Bounds) (rules : List Rule) (first : Element) (others : List Element) (chosen : Chosen)
    (least : ℕ) (list : List (List ℕ)) → IsReady bounds (first ∷ others) chosen.formula
    → ((count : ℕ) → (least ≤ count) ↔ (bounds.least ≤ chosen.mass + count * first.mass + first.after))
    → Gains (CompletesBelow bounds rules first others chosen.formula least) list list
Gains-no_count bounds rules first others chosen least list ready is_least =
    Gains-none (CompletesBelow bounds rules first others chosen.formula least) list
    (λ counts h.
    let feasible =
    Completes-feasible bounds rules first others chosen.formula counts chosen.mass ready chosen.weighed.weighed h.0 in
    let from = (is_least (slice_index counts first.place)).1 feasible.reached in
    absurd (omega (arith, from, h.1)))

-- below the end of the counts that the bounds allow there are all candidates
pub Gains-all_counts : (bounds : Bounds) (rules : List Rule) (first : Element) (others : List Element)
    (chosen : Chosen) (ending count : ℕ) (before now : List (List ℕ)) → IsReady bounds (first ∷ others) chosen.formula
    → ((k : ℕ) → (k < ending) ↔ ((k ≤ first.limit) × (chosen.mass + k * first.mass ≤ bounds.most)))
    → ending ≤ count → Gains (CompletesBelow bounds rules first others chosen.formula count) before now
    → Gains (Completes bounds rules (first ∷ others) chosen.formula) before now
Gains-all_counts bounds rules first others chosen ending count before now ready is_ending past gains =
    Gains-as (CompletesBelow bounds rules first others chosen.formula count)
    (Completes bounds rules (first ∷ others) chosen.formula) before now gains
    (λ counts p. p.0)
    (λ counts h.
    let feasible =
    Completes-feasible bounds rules first others chosen.formula counts chosen.mass ready chosen.weighed.weighed h in
    let below = (is_ending (slice_index counts first.place)).1 (feasible.within_limit, feasible.light) in
    (h, omega (arith, below, past)))

-- one count more, and a list gained all candidates with that count
pub Gains-more_counts : (bounds : Bounds) (rules : List Rule) (element : Element) (others : List Element) (count : ℕ)
    (chosen further : List ℕ) (before middle now : List (List ℕ)) → IsReady bounds (element ∷ others) chosen → further
    ≡ slice_set chosen element.place count → Gains (CompletesBelow bounds rules element others chosen count) before
    middle → Gains (Completes bounds rules others further) middle now
    → Gains (CompletesBelow bounds rules element others chosen (count + 1)) before now
Gains-more_counts bounds rules element others count chosen further before middle now ready is below here =
    let inside = IsReady-inside bounds element others chosen ready in
    let lower = ready.known.0.falling in
    let set_at = λ (n : ℕ). slice_set chosen element.place n in
    let gained : Gains (Completes bounds rules others (set_at count)) middle now =
    subst (λ (f : List ℕ). Gains (Completes bounds rules others f) middle now) is here in
    Gains-more (CompletesBelow bounds rules element others chosen count) (Completes bounds rules others (set_at count))
    (CompletesBelow bounds rules element others chosen (count + 1)) before middle now below gained
    (λ counts p q. absurd (omega
    (arith, p.1, (Completes-unset bounds rules element others count chosen counts inside lower q).1)))
    (λ counts r. elim (eq-or-lt_of_le {n = slice_index counts element.place} {m = count} (omega (arith, r.1))) [
      | inl e ↦
          inr (subst (λ (n : ℕ). Completes bounds rules others (set_at n) counts) e
          (Completes-set bounds rules element others chosen counts inside r.0))
      | inr less ↦ inl (r.0, less)
    ])
    (λ counts p. (p.0, omega (arith, p.1)))
    (λ counts q. let h = Completes-unset bounds rules element others count chosen counts inside lower q in
    (h.0, omega (arith, h.1)))

-- one count more, and there are too many candidates with that count
pub Overfills-at_count : (bounds : Bounds) (rules : List Rule) (element : Element) (others : List Element) (count : ℕ)
    (chosen further : List ℕ) (before middle : List (List ℕ)) → IsReady bounds (element ∷ others) chosen → further
    ≡ slice_set chosen element.place count → Gains (CompletesBelow bounds rules element others chosen count) before
    middle → Overfills (Completes bounds rules others further) middle
    → Overfills (Completes bounds rules (element ∷ others) chosen) before
Overfills-at_count bounds rules element others count chosen further before middle ready is below here =
    let inside = IsReady-inside bounds element others chosen ready in
    let lower = ready.known.0.falling in
    let set_at = λ (n : ℕ). slice_set chosen element.place n in
    let found : Overfills (Completes bounds rules others (set_at count)) middle =
    subst (λ (f : List ℕ). Overfills (Completes bounds rules others f) middle) is here in
    Overfills-later (CompletesBelow bounds rules element others chosen count)
    (Completes bounds rules others (set_at count)) (Completes bounds rules (element ∷ others) chosen) before middle
    below found
    (λ counts p q. absurd (omega
    (arith, p.1, (Completes-unset bounds rules element others count chosen counts inside lower q).1)))
    (λ counts p. p.0)
    (λ counts q. (Completes-unset bounds rules element others count chosen counts inside lower q).0)
