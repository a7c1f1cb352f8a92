-- Of count_lists: they rise in formula order, and their members are the lists within the limits.
use Rattle.std.proofs.Common.{◌≡◌, ◌≤◌, ◌<◌, ◌+◌, ◌∙◌, inl, inr, ℕ, zero, suc, List, [], ◌∷◌, length, map, refl, sym}
use Rattle.std.proofs.Common.{ap, subst, arith}
use Rattle.std.specs.declared.cmp.Ordering.TheVariants.{Less}
use Rattle.std.specs.List.{flat_map, range_with_len}
use Rattle.std.specs.Cmp.Lexicographic.{slice_cmp}
use Rattle.std.specs.Ordering.{nat_cmp, ordering_then}
use Rattle.std.proofs.lemmas.Bool.{lt-ltb, cases_eq}
use Rattle.std.proofs.lemmas.Cmp.{nat_cmp_total, tied_itself}
use Rattle.element_table.specs.Formula.{IsWithin, formula_cmp}
use Rattle.element_table.specs.Listed.{count_lists}
use Rattle.element_table.proofs.Members.{In, Rising, In-append_left, In-append_right, In-append_cases, In-map}
use Rattle.element_table.proofs.Members.{In-map_from, Rising-append, Rising-map}

abbrev pub IsBelow : List ℕ → List ℕ → Type 0
IsBelow first later = formula_cmp first later ≡ Less

-- the lists that begin with one of n counts from `least` on, and go on as one of `rests`
abbrev block : ℕ → ℕ → List (List ℕ) → List (List ℕ)
block least n rests = flat_map (λ count. map (λ counts. count ∷ counts) rests) (range_with_len least n)

-- how a member of a block is made
record IsMade (least n : ℕ) (rests : List (List ℕ)) (counts : List ℕ) : Type 0 where
  first : ℕ
  rest : List ℕ
  not_below : least ≤ first
  below : first < least + n
  is : first ∷ rest ≡ counts
  listed : In rest rests

made_from_In : (least n : ℕ) (rests : List (List ℕ)) (counts : List ℕ) → In counts (block least n rests)
    → IsMade least n rests counts
made_from_In least zero rests counts h = absurd h
made_from_In least (suc n) rests counts h =
    elim (In-append_cases counts (map (λ rest. least ∷ rest) rests) (block (least + 1) n rests) h) [
      | inl here ↦
          let made : (rest : List ℕ) × In rest rests × (least ∷ rest ≡ counts) =
          In-map_from (λ (rest : List ℕ). least ∷ rest) counts rests here in
          record {
            first = least;
            rest = made.0;
            not_below = omega arith;
            below = omega arith;
            is = made.2;
            listed = made.1;
          }
      | inr later ↦
          let made : IsMade (least + 1) n rests counts = made_from_In (least + 1) n rests counts later in
          record {
            first = made.first;
            rest = made.rest;
            not_below = omega (arith, made.not_below);
            below = omega
                (arith, made.below);
            is = made.is;
            listed = made.listed;
          }
    ]

In-block : (least n : ℕ) (rests : List (List ℕ)) (first : ℕ) (rest : List ℕ) → least ≤ first → first < least + n
    → In rest rests → In (first ∷ rest) (block least n rests)
In-block least zero rests first rest not_below below listed = absurd (omega arith)
In-block least (suc n) rests first rest not_below below listed = elim (cases_eq least first) [
  | inl is ↦ In-append_left (first ∷ rest) (map (λ rest. least ∷ rest) rests) (block (least + 1) n rests)
      (let P : ℕ → Type 0 = λ count. In (first ∷ rest) (map (λ rest. count ∷ rest) rests) in
      subst P (sym is) (In-map (λ (rest : List ℕ). first ∷ rest) rest rests listed))
  | inr apart ↦ In-append_right (first ∷ rest) (map (λ rest. least ∷ rest) rests) (block (least + 1) n rests)
      (In-block (least + 1) n rests first rest (omega (arith, apart)) (omega arith) listed)
]

below_by_first : (one two : ℕ) (rest later : List ℕ) → one < two → IsBelow (one ∷ rest) (two ∷ later)
below_by_first one two rest later less = rw lt-ltb refl

below_by_rest : (count : ℕ) (rest later : List ℕ) → IsBelow rest later → IsBelow (count ∷ rest) (count ∷ later)
below_by_rest count rest later below =
    ap (λ order. ordering_then order (slice_cmp nat_cmp rest later)) (tied_itself nat_cmp_total count) ∙ below

Rising-block : (least n : ℕ) (rests : List (List ℕ)) → Rising IsBelow rests → Rising IsBelow (block least n rests)
Rising-block least zero rests rising = tt
Rising-block least (suc n) rests rising =
    Rising-append IsBelow (map (λ rest. least ∷ rest) rests) (block (least + 1) n rests)
    (Rising-map IsBelow IsBelow (λ rest. least ∷ rest) (below_by_rest least) rests rising)
    (Rising-block (least + 1) n rests rising)
    (λ one two in_first in_later.
    let made : (rest : List ℕ) × In rest rests × (least ∷ rest ≡ one) =
    In-map_from (λ (rest : List ℕ). least ∷ rest) one rests in_first in
    let later : IsMade (least + 1) n rests two = made_from_In (least + 1) n rests two in_later in
    let less : IsBelow (least ∷ made.0) (later.first ∷ later.rest) =
    below_by_first least later.first made.0 later.rest (omega (arith, later.not_below)) in
    let P : List ℕ → Type 0 = λ list. IsBelow list (later.first ∷ later.rest) in
    let Q : List ℕ → Type 0 = λ list. IsBelow one list in
    subst Q later.is (subst P made.2 less))

pub Rising-count_lists : (limits : List ℕ) → Rising IsBelow (count_lists limits)
Rising-count_lists [] = ((λ y there. absurd there), tt)
Rising-count_lists (limit ∷ limits) = Rising-block 0 (limit + 1) (count_lists limits) (Rising-count_lists limits)

pub within_from_In : (limits counts : List ℕ) → In counts (count_lists limits)
    → (length counts ≡ length limits) × IsWithin counts limits
within_from_In [] counts (inl is) =
    let P : List ℕ → Type 0 = λ list. (length list ≡ 0) × IsWithin list [] in subst P is (refl, (λ place. omega arith))
within_from_In [] counts (inr later) = absurd later
within_from_In (limit ∷ limits) counts h =
    let made : IsMade 0 (limit + 1) (count_lists limits) counts =
    made_from_In 0 (limit + 1) (count_lists limits) counts h in
    let within : (length made.rest ≡ length limits) × IsWithin made.rest limits =
    within_from_In limits made.rest made.listed in
    let P : List ℕ → Type 0 = λ list. (length list ≡ length (limit ∷ limits)) × IsWithin list (limit ∷ limits) in
    subst P made.is (
      omega (arith, within.0),
      at_place limit limits made.first made.rest (omega (arith, made.below))
          within.1,
    )
  where
    at_place : (limit : ℕ) (limits : List ℕ) (first : ℕ) (rest : List ℕ) → first ≤ limit → IsWithin rest limits
        → IsWithin (first ∷ rest) (limit ∷ limits)
    at_place limit limits first rest small within zero = small
    at_place limit limits first rest small within (suc place) = within place

pub In-count_lists : (limits counts : List ℕ) → length counts ≡ length limits → IsWithin counts limits
    → In counts (count_lists limits)
In-count_lists [] [] places within = inl refl
In-count_lists [] (count ∷ counts) places within = absurd (omega arith)
In-count_lists (limit ∷ limits) [] places within = absurd (omega arith)
In-count_lists (limit ∷ limits) (count ∷ counts) places within =
    let small : count ≤ limit = within 0 in
    In-block 0 (limit + 1) (count_lists limits) count counts (omega arith) (omega arith)
    (In-count_lists limits counts (omega arith) (λ place. within (suc place)))
