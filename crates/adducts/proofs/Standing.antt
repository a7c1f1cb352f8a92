-- Of Selected and StandApart: what selected peaks are to one another, and that there is one list of them.
use Rattle.std.proofs.Common.{◌≡◌, ◌≢◌, ◌<◌, ◌≤◌, ◌∙◌, ℕ, zero, suc, Bool, true, false, not, ◌||◌, cond, eqb, ltb, List}
use Rattle.std.proofs.Common.{[], ◌∷◌, ◌++◌, Some, length, take, get_or, refl, sym, ap, subst, append_assoc, append-nil}
use Rattle.std.proofs.Common.{arith}
use Rattle.std.specs.Prelude.{◌↔◌, IsTrue, slice_get, slice_index_or}
use Rattle.std.specs.Cmp.{IsTotalOrder}
use Rattle.std.specs.List.{All, AllByRecursion, AllPairs, Contains, IsDistinct, filter}
use Rattle.std.specs.List.Sorted.{IsPermutation, IsSorted}
use Rattle.std.specs.Ordering.{is_lt, nat_cmp, ordering_then}
use Rattle.std.specs.FinMap.{nat_cmp-IsAntisymmetric}
use Rattle.std.specs.declared.cmp.Ordering.TheVariants.{Less, Equal, Greater}
use Rattle.std.specs.declared.cmp.Ordering.{Ordering}
use Rattle.std.proofs.lemmas.Cmp.{back_total, nat_cmp_total, on_total, then_total}
use Rattle.std.proofs.lemmas.List.Elements.{All-nil, All-push, Contains-get_or}
use Rattle.std.proofs.lemmas.Bool.{ltb-false, ltb-true}
use Rattle.std.proofs.lemmas.List.Quantifiers.{all_pairs_push}
use Rattle.std.proofs.lemmas.List.Sorted.{All-permutation, Contains-permutation, IsPermutation-sym, length_permutation}
use Rattle.std.proofs.lemmas.List.Sorted.{ranks_by, sorted_far, sum_by-IsPermutation}
use Rattle.std.proofs.lemmas.Map.Keys.{IsDistinct-IsPermutation, IsDistinct-from_apart, apart_from_distinct}
use Rattle.element_table.proofs.Members.{In, In-filter_from, In-from_Contains, Contains-from_In, Rising-from_AllPairs}
use Rattle.element_table.proofs.Members.{same_from_members}
use Rattle.element_table.specs.Window.{InInterval}
use Rattle.mgf_reader.specs.Spectrum.{PeakValue}
use Rattle.adducts.specs.Selected.{AreApart, IsSelectable, LiesBelow, Selected, StandApart, falling_cmp, has_intensity}
use Rattle.adducts.specs.Selected.{marked, rank_cmp}
use Rattle.adducts.specs.declared.choice.Choice.{Choice}
use Rattle.adducts.specs.inside.Choosing.{interval_of, is_apart}
use Rattle.adducts.proofs.Intervals.{Decides-is_apart}
use Rattle.adducts.proofs.Sorted.{sorted_same}

-- the order in which peaks are looked at is total, and two that tie are the same
rank_total : IsTotalOrder rank_cmp
rank_total =
    then_total (then_total (back_total (on_total (λ (peak : PeakValue). peak.intensity) nat_cmp_total))
    (on_total (λ (peak : PeakValue). peak.mz) nat_cmp_total))
    (on_total (λ (peak : PeakValue). peak.line) nat_cmp_total)

both_tie : (r s : Ordering) → ordering_then r s ≡ Equal → (r ≡ Equal) × (s ≡ Equal)
both_tie Less s is = absurd (cc)
both_tie Equal s is = (refl, is)
both_tie Greater s is = absurd (cc)

made : ℕ → ℕ → ℕ → PeakValue
made mz intensity line = record { mz = mz; intensity = intensity; line = line }

same_peak : (one other : PeakValue) → rank_cmp one other ≡ Equal → one ≡ other
unfolding made
same_peak one other is =
    let outer =
    both_tie (ordering_then (nat_cmp other.intensity one.intensity) (nat_cmp one.mz other.mz))
    (nat_cmp one.line other.line) is in
    let inner = both_tie (nat_cmp other.intensity one.intensity) (nat_cmp one.mz other.mz) outer.0 in
    let intensity : one.intensity ≡ other.intensity =
    sym (nat_cmp-IsAntisymmetric other.intensity one.intensity inner.0) in
    let mz : one.mz ≡ other.mz = nat_cmp-IsAntisymmetric one.mz other.mz inner.1 in
    let line : one.line ≡ other.line = nat_cmp-IsAntisymmetric one.line other.line outer.1 in
    let whole : made one.mz one.intensity one.line ≡ made other.mz other.intensity other.line = cc in
    whole

-- the marks of later peaks are right, after earlier ones that are selected
abbrev AreRight : Choice → ℕ → List PeakValue → List Bool → List PeakValue → Type 0
AreRight choice precursor earlier marks later =
    (place : ℕ) (peak : PeakValue) → slice_get later place ≡ Some peak
    → IsTrue (slice_index_or marks place false) ↔ IsSelectable choice precursor
    (earlier ++ marked (take place marks) later) peak

first_right : (choice : Choice) (precursor : ℕ) (earlier : List PeakValue) (mark : Bool) (marks : List Bool)
    (peak : PeakValue) (later : List PeakValue)
    → AreRight choice precursor earlier (mark ∷ marks) (peak ∷ later)
    → IsTrue mark ↔ IsSelectable choice precursor earlier peak
first_right choice precursor earlier mark marks peak later right =
    subst (λ (xs : List PeakValue). IsTrue mark ↔ IsSelectable choice precursor xs peak) (append-nil earlier)
    (right 0 peak refl)

rest_right : (choice : Choice) (precursor : ℕ) (earlier : List PeakValue) (marks : List Bool) (peak : PeakValue)
    (later : List PeakValue)
    → AreRight choice precursor earlier (true ∷ marks) (peak ∷ later)
    → AreRight choice precursor (earlier ++ peak ∷ []) marks later
rest_right choice precursor earlier marks peak later right place next there =
    subst (λ (xs : List PeakValue). IsTrue (slice_index_or marks place false) ↔ IsSelectable choice precursor xs next)
    (sym (append_assoc earlier (peak ∷ []) (marked (take place marks) later))) (right (suc place) next there)

-- what holds of no peak, and of one more that is selectable, holds of the marked ones
grown : (choice : Choice) (precursor : ℕ) (P : List PeakValue → Type 0)
    → ((xs : List PeakValue) (peak : PeakValue) → P xs → IsSelectable choice precursor xs peak → P (xs ++ peak ∷ []))
    → (earlier : List PeakValue) (marks : List Bool) (later : List PeakValue) → P earlier
    → AreRight choice precursor earlier marks later → P (earlier ++ marked marks later)
grown choice precursor P step earlier [] later start right = subst P (sym (append-nil earlier)) start
grown choice precursor P step earlier (true ∷ marks) [] start right = subst P (sym (append-nil earlier)) start
grown choice precursor P step earlier (false ∷ marks) [] start right = subst P (sym (append-nil earlier)) start
grown choice precursor P step earlier (true ∷ marks) (peak ∷ later) start right =
    let first : IsSelectable choice precursor earlier peak =
    (first_right choice precursor earlier true marks peak later right).0 refl in
    subst P (append_assoc earlier (peak ∷ []) (marked marks later))
    (grown choice precursor P step (earlier ++ peak ∷ []) marks later (step earlier peak start first)
    (rest_right choice precursor earlier marks peak later right))
grown choice precursor P step earlier (false ∷ marks) (peak ∷ later) start right =
    grown choice precursor P step earlier marks later start (λ place next there. right (suc place) next there)

at_place : {X : Type 0} (P : X → Type 0) (xs : List X) → AllByRecursion P xs → (k : ℕ) (none : X) → k < length xs
    → P (get_or xs k none)
at_place P [] all k none within = absurd (omega arith)
at_place P (x ∷ xs) all zero none within = all.0
at_place P (x ∷ xs) all (suc k) none within = at_place P xs all.1 k none (omega arith)

abbrev Pairs : Choice → List PeakValue → Type 0
Pairs choice xs = AllPairs (λ one later. AreApart choice one.mz later.mz) xs

pairs_more : (choice : Choice) (precursor : ℕ) (xs : List PeakValue) (peak : PeakValue) → Pairs choice xs
    → IsSelectable choice precursor xs peak → Pairs choice (xs ++ peak ∷ [])
pairs_more choice precursor xs peak pairs selectable =
    all_pairs_push (λ (one later : PeakValue). AreApart choice one.mz later.mz) xs peak pairs
    (λ k none within n in_one in_later. at_place (λ (other : PeakValue). AreApart choice peak.mz other.mz) xs
    selectable.apart k none within n in_later in_one)

length_more : (xs : List PeakValue) (peak : PeakValue) → length (xs ++ peak ∷ []) ≡ suc (length xs)
length_more [] peak = refl
length_more (x ∷ xs) peak = ap suc (length_more xs peak)

-- two peaks whose intervals share a number
meet : Choice → PeakValue → PeakValue → Bool
meet choice one other = not (is_apart (interval_of choice one.mz) (interval_of choice other.mz))

or_turned : (a b : Bool) → (a || b) ≡ (b || a)
or_turned true true = refl
or_turned true false = refl
or_turned false true = refl
or_turned false false = refl

meet_turned : (choice : Choice) (one other : PeakValue) → meet choice one other ≡ meet choice other one
unfolding meet
meet_turned choice one other =
    ap not (or_turned (ltb (interval_of choice one.mz).high (interval_of choice other.mz).low)
    (ltb (interval_of choice other.mz).high (interval_of choice one.mz).low))

not_false : (b : Bool) → not b ≡ false → b ≡ true
not_false true is = refl
not_false false is = absurd (cc)

meet-from_apart : (choice : Choice) (one other : PeakValue) → AreApart choice one.mz other.mz
    → meet choice one other ≡ false
unfolding meet
meet-from_apart choice one other apart = ap not ((Decides-is_apart choice one.mz other.mz).1 apart)

apart-from_meet : (choice : Choice) (one other : PeakValue) → meet choice one other ≡ false
    → AreApart choice one.mz other.mz
unfolding meet
apart-from_meet choice one other is = (Decides-is_apart choice one.mz other.mz).0 (not_false _ is)

-- peaks whose intervals are apart stay so when they change places
pairs_moved : (choice : Choice) (xs ys : List PeakValue) → IsPermutation xs ys → Pairs choice xs → Pairs choice ys
pairs_moved choice xs ys moved pairs i j none before within =
    let distinct : IsDistinct (meet choice) xs =
    IsDistinct-from_apart (meet choice) xs
    (λ a b d earlier in_xs. meet-from_apart choice (get_or xs a d) (get_or xs b d) (pairs a b d earlier in_xs)) in
    let still : IsDistinct (meet choice) ys =
    IsDistinct-IsPermutation (meet choice) (meet_turned choice) xs ys moved distinct in
    apart-from_meet choice (get_or ys i none) (get_or ys j none)
    (apart_from_distinct (meet choice) ys i j none still before within)

-- an m/z is in its own interval
differ : (choice : Choice) (one other : ℕ) → AreApart choice one other → one ≢ other
differ choice one other apart same =
    apart one (record { not_below = omega arith; not_above = omega arith })
    (subst (λ (mz : ℕ). InInterval choice.ppm choice.abs mz one) same
    (record { not_below = omega arith; not_above = omega arith }))

not_below : (one other : ℕ) → is_lt (nat_cmp one other) ≡ false → other ≤ one
not_below one other is = by_test (ltb one other) refl is
  where
    by_test : (b : Bool) → ltb one other ≡ b → is_lt (cond b Less (cond (eqb one other) Equal Greater)) ≡ false
        → other ≤ one
    by_test true below is = absurd (cc)
    by_test false below is = ltb-false one other below

-- peaks that do not rise and whose intervals are apart fall
falls : (choice : Choice) (xs : List PeakValue) → IsSorted falling_cmp xs → Pairs choice xs
    → AllPairs (λ one later. later.mz < one.mz) xs
falls choice xs sorted pairs i j none before within =
    let far =
    sorted_far (λ (one other : PeakValue). is_lt (falling_cmp one other))
    (ranks_by (back_total nat_cmp_total) (λ (peak : PeakValue). peak.mz)) xs sorted i j none (omega arith) within in
    let at_most : (get_or xs j none).mz ≤ (get_or xs i none).mz =
    not_below (get_or xs i none).mz (get_or xs j none).mz far in
    let other = differ choice (get_or xs i none).mz (get_or xs j none).mz (pairs i j none before within) in
    strict (get_or xs j none).mz (get_or xs i none).mz at_most (λ same. other (sym same))
  where
    strict : (a b : ℕ) → a ≤ b → a ≢ b → a < b
    strict a b small apart = omega (arith, apart)

-- a peak of these that has an intensity
abbrev IsOwn : List PeakValue → PeakValue → Type 0
IsOwn peaks peak = Contains peaks peak × (0 < peak.intensity)

own_filtered : (peaks : List PeakValue) → All (IsOwn peaks) (filter has_intensity peaks)
own_filtered peaks k none within =
    let found =
    In-filter_from has_intensity (get_or (filter has_intensity peaks) k none) peaks
    (In-from_Contains (get_or (filter has_intensity peaks) k none) (filter has_intensity peaks)
    (Contains-get_or (filter has_intensity peaks) k none within)) in
    (Contains-from_In _ peaks found.0, ltb-true _ _ found.1)

own_marked : (P : PeakValue → Type 0) (marks : List Bool) (ranked : List PeakValue) → All P ranked
    → All P (marked marks ranked)
own_marked P [] ranked all k none within = absurd (omega arith)
own_marked P (true ∷ marks) [] all k none within = absurd (omega arith)
own_marked P (false ∷ marks) [] all k none within = absurd (omega arith)
own_marked P (true ∷ marks) (peak ∷ ranked) all zero none within = all 0 none (omega arith)
own_marked P (true ∷ marks) (peak ∷ ranked) all (suc k) none within =
    own_marked P marks ranked (λ i d in_ranked. all (suc i) d (omega arith)) k none (omega arith)
own_marked P (false ∷ marks) (peak ∷ ranked) all k none within =
    own_marked P marks ranked (λ i d in_ranked. all (suc i) d (omega arith)) k none within

pub stand_apart : (choice : Choice) (precursor : ℕ) (peaks selected : List PeakValue)
    → Selected choice precursor peaks selected → StandApart choice precursor peaks selected
stand_apart choice precursor peaks selected is =
    let pairs : Pairs choice (marked is.marks is.ranked) =
    grown choice precursor (Pairs choice) (pairs_more choice precursor) [] is.marks is.ranked
    (λ i j none before within. absurd (omega arith)) is.marks_right in
    let apart : Pairs choice selected = pairs_moved choice (marked is.marks is.ranked) selected is.same_marked pairs in
    let below : All (λ (peak : PeakValue). LiesBelow choice peak.mz precursor) (marked is.marks is.ranked) =
    grown choice precursor (λ xs. All (λ (peak : PeakValue). LiesBelow choice peak.mz precursor) xs)
    (λ xs peak all selectable. All-push (λ (peak : PeakValue). LiesBelow choice peak.mz precursor) xs peak all
    selectable.below)
    [] is.marks is.ranked (All-nil (λ (peak : PeakValue). LiesBelow choice peak.mz precursor)) is.marks_right
    in
    let few : length (marked is.marks is.ranked) ≤ choice.peaks =
    grown choice precursor (λ xs. length xs ≤ choice.peaks)
    (λ xs peak small selectable. let more = length_more xs peak in let room = selectable.room in omega arith) []
    is.marks is.ranked (omega arith) is.marks_right
    in
    let own : All (IsOwn peaks) selected =
    All-permutation (IsOwn peaks) (marked is.marks is.ranked) selected is.same_marked
    (own_marked (IsOwn peaks) is.marks is.ranked
    (All-permutation (IsOwn peaks) (filter has_intensity peaks) is.ranked is.same_peaks (own_filtered peaks)))
    in
    let long : length selected ≡ length (marked is.marks is.ranked) =
    length_permutation (marked is.marks is.ranked) selected is.same_marked in
    record {
      falling = falls choice selected is.falling apart;
      apart = apart;
      below =
          All-permutation (λ (peak : PeakValue). LiesBelow choice peak.mz precursor) (marked is.marks is.ranked)
          selected is.same_marked below;
      intense = λ k none within. (own k none within).1;
      own = λ k none within. (own k none within).0;
      few = omega arith;
    }

-- right marks are the same, and so are the marked peaks
same_marked : (choice : Choice) (precursor : ℕ) (earlier : List PeakValue) (one other : List Bool)
    (later : List PeakValue) → length one ≡ length later → length other ≡ length later
    → AreRight choice precursor earlier one later → AreRight choice precursor earlier other later → marked one later
    ≡ marked other later
same_marked choice precursor earlier [] [] later long_one long_other right_one right_other = refl
same_marked choice precursor earlier [] (mark ∷ other) later long_one long_other right_one right_other =
    absurd (omega arith)
same_marked choice precursor earlier (mark ∷ one) [] later long_one long_other right_one right_other =
    absurd (omega arith)
same_marked choice precursor earlier (mark ∷ one) (mark' ∷ other) [] long_one long_other right_one right_other =
    absurd (omega arith)
same_marked choice precursor earlier (true ∷ one) (true ∷ other) (peak ∷ later) long_one long_other right_one
    right_other =
    ap (λ peaks. peak ∷ peaks)
    (same_marked choice precursor (earlier ++ peak ∷ []) one other later (omega arith) (omega arith)
    (rest_right choice precursor earlier one peak later right_one)
    (rest_right choice precursor earlier other peak later right_other))
same_marked choice precursor earlier (false ∷ one) (false ∷ other) (peak ∷ later) long_one long_other right_one
    right_other =
    same_marked choice precursor earlier one other later (omega arith) (omega arith)
    (λ place next there. right_one (suc place) next there) (λ place next there. right_other (suc place) next there)
same_marked choice precursor earlier (true ∷ one) (false ∷ other) (peak ∷ later) long_one long_other right_one
    right_other =
    let both : false ≡ true =
    (first_right choice precursor earlier false other peak later right_other).1
    ((first_right choice precursor earlier true one peak later right_one).0 refl) in
    absurd (cc)
same_marked choice precursor earlier (false ∷ one) (true ∷ other) (peak ∷ later) long_one long_other right_one
    right_other =
    let both : false ≡ true =
    (first_right choice precursor earlier false one peak later right_one).1
    ((first_right choice precursor earlier true other peak later right_other).0 refl) in
    absurd (cc)

pub one_selection : (choice : Choice) (precursor : ℕ) (peaks one other : List PeakValue)
    → Selected choice precursor peaks one → Selected choice precursor peaks other → one ≡ other
one_selection choice precursor peaks one other first second =
    let ranked : first.ranked ≡ second.ranked =
    sorted_same rank_cmp rank_total same_peak first.ranked second.ranked first.in_order second.in_order
    (λ f. sum_by-IsPermutation f (filter has_intensity peaks) first.ranked first.same_peaks
    ∙ sym (sum_by-IsPermutation f (filter has_intensity peaks) second.ranked second.same_peaks))
    in
    let right : AreRight choice precursor [] second.marks first.ranked =
    subst (AreRight choice precursor [] second.marks) (sym ranked) second.marks_right in
    let marks : marked first.marks first.ranked ≡ marked second.marks first.ranked =
    same_marked choice precursor [] first.marks second.marks first.ranked first.one_each
    (second.one_each ∙ ap length (sym ranked)) first.marks_right right
    in
    let same : marked first.marks first.ranked ≡ marked second.marks second.ranked =
    marks ∙ ap (marked second.marks) ranked in
    same_from_members (λ (earlier later : PeakValue). later.mz < earlier.mz) (λ x y below above. omega arith) one other
    (Rising-from_AllPairs _ one (stand_apart choice precursor peaks one first).falling)
    (Rising-from_AllPairs _ other (stand_apart choice precursor peaks other second).falling)
    (λ peak there. moved (marked first.marks first.ranked) (marked second.marks second.ranked) same one other
    first.same_marked second.same_marked peak there)
    (λ peak there. moved (marked second.marks second.ranked) (marked first.marks first.ranked) (sym same) other one
    second.same_marked first.same_marked peak there)
  where
    moved : (xs ys : List PeakValue) → xs ≡ ys → (a b : List PeakValue) → IsPermutation xs a → IsPermutation ys b
        → (peak : PeakValue) → In peak a → In peak b
    moved xs ys same a b from to peak there =
        In-from_Contains peak b (Contains-permutation ys b peak to
        (subst (λ (zs : List PeakValue). Contains zs peak) same
        (Contains-permutation a xs peak (IsPermutation-sym xs a from) (Contains-from_In peak a there))))
