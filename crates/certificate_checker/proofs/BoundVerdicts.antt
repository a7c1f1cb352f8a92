-- What is said of a bound, by what is said of its sides; and a bound that fails somewhere does not hold.
use Rattle.std.proofs.Common.{◌≡◌, ◌⊎◌, inl, inr, ◌+◌, ◌-◌, ◌<◌, ◌↔◌, ◌∙◌, ℕ, ℤ, pos, ◌≤ℤ◌, ◌<ℤ◌, Bool, List, ◌++◌}
use Rattle.std.proofs.Common.{drop, length, take, ap, refl, subst, sym, arith, Result, IfOk}
use Rattle.std.proofs.Math.Seq.{drop-append_seam, take-append_seam}
use Rattle.std.proofs.lemmas.Int.{ints}
use Rattle.std.proofs.lemmas.Result.{IfOk-weaker}
use Rattle.std.specs.List.{All}
use Rattle.colour_graph.specs.EdgeSet.{IsSetOf, edges_into, leaving, only}
use Rattle.colour_graph.specs.Graph.{Graph, colour_count}
use Rattle.tree_certificate.specs.BoundHolds.{BoundHolds, IsSplit, nodes_of}
use Rattle.tree_certificate.specs.BoundValue.{BoundValue, PriceValue, priced, split}
use Rattle.tree_certificate.specs.BoundView.{bound_value}
use Rattle.tree_certificate.specs.PriceHolds.{PriceHolds, needed_of, potential_of, price_of, price_total}
use Rattle.tree_certificate.specs.declared.bound.Bound.{Bound}
use Rattle.tree_certificate.specs.declared.bound.Bound.TheVariants.{Split}
use Rattle.tree_certificate.proofs.BoundValues.{value_of_split}
use Rattle.tree_certificate.specs.declared.place.Place.{Place}
use Rattle.tree_certificate.specs.declared.place.Place.TheVariants.{SplitColour, SplitEdges, PriceShape, PriceNegative}
use Rattle.tree_certificate.specs.declared.place.Place.TheVariants.{PotentialLow, LeafTotal}
use Rattle.certificate_checker.specs.declared.verdict.Verdict.{Verdict}
use Rattle.certificate_checker.specs.declared.verdict.Verdict.TheVariants.{Holds, Fails}
use Rattle.certificate_checker.specs.BoundPlaces.{IsBoundPlace, IsLeafPlace, IsSplitPlace, IsVerdictFrom}
use Rattle.certificate_checker.specs.inside.Sides.{adding}
use Rattle.certificate_checker.proofs.SplitSides.{into-in_range, only-undone}

-- a bound whose head is a split, as a plain value
pub value_split : (bound : Bound) (colour : ℕ) (part named : List ℕ) (first second one other : Bound)
    → bound ≡ Split colour part first second → named ≡ part
    → one ≡ first → other ≡ second → bound_value bound ≡ split colour named (bound_value one) (bound_value other)
value_split bound colour part named first second one other is named_is one_is other_is =
    ap bound_value is ∙ value_of_split colour part first second
    ∙ ap (λ xs. split colour xs (bound_value first) (bound_value second)) (sym named_is)
    ∙ ap (λ b. split colour named (bound_value b) (bound_value second)) (sym one_is)
    ∙ ap (λ b. split colour named (bound_value one) (bound_value b)) (sym other_is)

-- the same verdict of the same set
pub said-at : (graph : Graph) (set side : List Bool) (value : BoundValue) (passed upper : ℤ) (node : ℕ)
    (verdict its : Verdict) → set ≡ side → passed ≡ upper → verdict ≡ its
    → IsVerdictFrom graph set value passed node verdict → IsVerdictFrom graph side value upper node its
said-at graph set side value passed upper node verdict its set_is upper_is same said =
    rw (← set_is, ← upper_is, ← same) said

-- what is said of a bound whose first side fails
pub verdict-first : (graph : Graph) (allowed : List Bool) (colour : ℕ) (part : List ℕ) (value first second : BoundValue)
    (upper : ℤ) (node : ℕ) (place : Place)
    → value ≡ split colour part first second → IsSplit graph allowed colour part
    → IsBoundPlace graph (only graph allowed colour part) first upper (node + 1) place
    → IsBoundPlace graph allowed value upper node place
verdict-first graph allowed colour part value first second upper node place value_is is fails =
    let P : BoundValue → Type 0 = λ v. IsBoundPlace graph allowed v upper node place in
    subst P (sym value_is) (inr (inl (is, fails)))

-- what is said of one whose first side holds
pub verdict-second : (graph : Graph) (allowed : List Bool) (colour : ℕ) (part : List ℕ)
    (value first second : BoundValue) (upper : ℤ) (node next : ℕ) (side : Verdict)
    → value ≡ split colour part first second → IsSplit graph allowed colour part
    → BoundHolds graph (only graph allowed colour part) first upper
    → next ≡ node + 1 + nodes_of first → IsVerdictFrom graph (leaving allowed part) second upper next side
    → IsVerdictFrom graph allowed value upper node side
verdict-second graph allowed colour part value first second upper node next side value_is is holds next_is said =
    let P : BoundValue → Type 0 = λ v. IsVerdictFrom graph allowed v upper node side in
    subst P (sym value_is) (choose side (let Q : ℕ
    → Type 0 = λ n. IsVerdictFrom graph (leaving allowed part) second upper n side in subst Q next_is said))
  where
    choose : (its : Verdict) → IsVerdictFrom graph (leaving allowed part) second upper (node + 1 + nodes_of first) its
        → IsVerdictFrom graph allowed (split colour part first second) upper node its
    choose Holds other = (is, holds, other)
    choose (Fails place) fails = inr (inr (is, holds, fails))

-- The edges behind those taken out before.
dropped : (old others taken : List ℕ) (before : ℕ) → before ≡ length old → taken ≡ old ++ others
    → drop before taken ≡ others
dropped old others taken before before_is taken_is = ap (λ n. drop n taken) before_is ∙ ap (drop (length old)) taken_is
    ∙ drop-append_seam old others

pub behind-in_range : (graph : Graph) (allowed : List Bool) (colour before : ℕ) (old taken : List ℕ) (now : List Bool)
    → IsSetOf graph now → before ≡ length old
    → taken ≡ old ++ edges_into graph allowed colour → All (λ edge. edge < length now) (drop before taken)
behind-in_range graph allowed colour before old taken now set_is before_is taken_is =
    rw (dropped old (edges_into graph allowed colour) taken before before_is taken_is)
    (into-in_range graph allowed colour (length now) set_is)

-- They make the first side the whole set again.
pub first-undone : (graph : Graph) (allowed now new : List Bool) (colour before : ℕ) (part old taken : List ℕ)
    → IsSetOf graph allowed → now ≡ only graph allowed colour part
    → before ≡ length old → taken ≡ old ++ edges_into graph (leaving allowed part) colour
    → new ≡ adding now (drop before taken) → new ≡ allowed
first-undone graph allowed now new colour before part old taken set_is now_is before_is taken_is new_is =
    new_is ∙ ap (λ xs. adding now xs) (dropped old (edges_into graph (leaving allowed part) colour) taken before
    before_is taken_is)
    ∙ ap (λ set. adding set (edges_into graph (leaving allowed part) colour)) now_is
    ∙ only-undone graph allowed colour part set_is

-- Where a place is one, prices do not hold.
no_leaf_place : (graph : Graph) (allowed : List Bool) (cert : PriceValue) (upper : ℤ) (node : ℕ) (place : Place)
    → IsLeafPlace graph allowed cert upper node place
    → PriceHolds graph allowed cert → price_total graph cert ≤ℤ upper → ⊥
no_leaf_place graph allowed cert upper node (PriceShape at) is holds below =
    is.1 holds.fits
no_leaf_place graph allowed cert upper node (PriceNegative at colour) (same, is) holds below =
    above (price_of cert colour) is.negative
    (holds.prices (colour - 1) (pos 0) (omega (arith, is.among, is.fits.price_count)))
  where
    above : (price : ℤ) → price <ℤ pos 0 → pos 0 ≤ℤ price → ⊥
    above price low high = omega (arith, ints)
no_leaf_place graph allowed cert upper node (PotentialLow at vertex held needed) (same, is) holds below =
    apart held needed (potential_of cert vertex) (needed_of graph allowed cert vertex) is.low is.is_held is.is_needed
    (holds.potentials vertex is.in_graph)
  where
    apart : (held needed potential least : ℤ) → held <ℤ needed → held ≡ potential → needed ≡ least → least ≤ℤ potential
        → ⊥
    apart held needed potential least low one other high = omega (arith, ints)
no_leaf_place graph allowed cert upper node (LeafTotal at total) (same, is) holds below =
    apart upper total (price_total graph cert) is.above is.is_total below
  where
    apart : (upper total most : ℤ) → upper <ℤ total → total ≡ most → most ≤ℤ upper → ⊥
    apart upper total most above same low = omega (arith, ints)
no_leaf_place graph allowed cert upper node place is holds below = absurd is

no_split_place : (graph : Graph) (allowed : List Bool) (colour : ℕ) (part : List ℕ) (node : ℕ) (place : Place)
    → IsSplitPlace graph allowed colour part node place
    → IsSplit graph allowed colour part → ⊥
no_split_place graph allowed colour part node (SplitColour at named) (same, is, apart) holds = choose apart
  where
    choose : (colour < 1) ⊎ (colour_count graph < colour) → ⊥
    choose (inl low) = omega (arith, holds.among)
    choose (inr high) = omega (arith, holds.among)
no_split_place graph allowed colour part node (SplitEdges at) is holds = is.3 holds
no_split_place graph allowed colour part node place is holds = absurd is

-- Where a place is one, a bound does not hold.
pub no_bound_place : (graph : Graph) (allowed : List Bool) (bound : BoundValue) (upper : ℤ) (node : ℕ) (place : Place)
    → IsBoundPlace graph allowed bound upper node place
    → BoundHolds graph allowed bound upper → ⊥
no_bound_place graph allowed (priced cert) upper node place is holds =
    no_leaf_place graph allowed cert upper node place is holds.0 holds.1
no_bound_place graph allowed (split colour part first second) upper node place (inl is) holds =
    no_split_place graph allowed colour part node place is holds.0
no_bound_place graph allowed (split colour part first second) upper node place (inr (inl is)) holds =
    no_bound_place graph (only graph allowed colour part) first upper (node + 1) place is.1 holds.1
no_bound_place graph allowed (split colour part first second) upper node place (inr (inr is)) holds =
    no_bound_place graph (leaving allowed part) second upper (node + 1 + nodes_of first) place is.2 holds.2

exactly_at : (graph : Graph) (allowed : List Bool) (bound : BoundValue) (upper : ℤ) (node : ℕ) (verdict : Verdict)
    → IsVerdictFrom graph allowed bound upper node verdict
    → (verdict ≡ Holds) ↔ BoundHolds graph allowed bound upper
exactly_at graph allowed bound upper node Holds is = (λ same. is, λ holds. refl)
exactly_at graph allowed bound upper node (Fails place) is =
    (λ same. absurd (differ same), λ holds. absurd (no_bound_place graph allowed bound upper node place is holds))
  where
    differ : Fails place ≡ Holds → ⊥
    differ same = cc

pub exactly_from : {E : Type 0} (graph : Graph) (set allowed : List Bool) (bound : BoundValue) (passed upper : ℤ)
    (result : Result Verdict E) → set ≡ allowed → passed ≡ upper
    → IfOk result (λ verdict. IsVerdictFrom graph set bound passed 0 verdict)
    → IfOk result (λ verdict. (verdict ≡ Holds) ↔ BoundHolds graph allowed bound upper)
exactly_from graph set allowed bound passed upper result set_is upper_is =
    IfOk-weaker result (λ verdict. IsVerdictFrom graph set bound passed 0 verdict)
    (λ verdict. (verdict ≡ Holds) ↔ BoundHolds graph allowed bound upper)
    (λ verdict said. exactly_at graph allowed bound upper 0 verdict
    (said-at graph set allowed bound passed upper 0 verdict verdict set_is upper_is refl said))

-- what was taken out before a first side, when the edges behind are given back
pub first-taken : (old behind taken left : List ℕ) (before : ℕ) → before ≡ length old → taken ≡ old ++ behind
    → left ≡ take before taken → left ≡ old
first-taken old behind taken left before long is left_is =
    left_is ∙ ap (λ n. take n taken) long ∙ ap (take (length old)) is ∙ take-append_seam old behind
