-- How entries come from those of an earlier row, and how residues become closed.
use Rattle.std.proofs.Common.{◌≡◌, ◌≢◌, ◌≤◌, ◌<◌, ◌+◌, ◌*◌, ◌%◌, ◌⊎◌, ◌∙◌, ℕ, Bool, true, false, List, length, min}
use Rattle.std.proofs.Common.{slice_index, slice_index_or, slice_set, get_or-set_same, get_or-set_other, inl, inr}
use Rattle.std.proofs.Common.{nat_lt}
use Rattle.std.proofs.Common.{arith, refl, sym, ap, subst}
use Rattle.std.proofs.lemmas.Bool.{cases_eq, cases_lt, lt-ltb}
use Rattle.std.proofs.lemmas.List.{length-set}
use Rattle.std.proofs.lemmas.List.Sums.{sum_by-set}
use Rattle.std.proofs.Common.{cond, le-ltb}
use Rattle.std.specs.List.{sum_by}
use Rattle.std.proofs.Math.Nat.{add-mul, mod-add-mod, mod-eq_of_lt}
use Rattle.residue_table.specs.inside.Rounds.{AreLow, AreReached, IsClosedAt, IsReached}

pub AreReached-itself : (mass : ℕ) (row : List ℕ) → AreReached mass row row
AreReached-itself mass row = record {
  size = refl;
  lower = λ residue. omega arith;
  reached = λ residue below. record {
    from = residue;
    count = 0;
    within = below;
    is = omega arith;
    class = rw (plus_none residue mass) (mod-eq_of_lt below);
  };
}
  where
    plus_none : (n m : ℕ) → n + 0 * m ≡ n
    plus_none n m = omega arith

-- masses added after others
pub IsReached-further : (mass : ℕ) (before : List ℕ) (middle count residue entry between : ℕ)
    → IsReached mass before middle between → entry ≡ between + count * mass
    → (middle + count * mass) % length before ≡ residue → IsReached mass before residue entry
IsReached-further mass before middle count residue entry between reached is class = record {
  from = reached.from;
  count = reached.count + count;
  within = reached.within;
  is = omega (arith, is, reached.is, add-mul reached.count count mass);
  class =
      let spread : reached.from + (reached.count + count) * mass
      ≡ (reached.from + reached.count * mass) + count * mass =
      omega (arith, add-mul reached.count count mass) in
      ap (λ n. n % length before) spread
      ∙ sym (mod-add-mod (reached.from + reached.count * mass) (length before) (count * mass))
      ∙ ap (λ n. (n + count * mass) % length before) reached.class
      ∙ class;
}

pub AreReached-further : (mass : ℕ) (before middle now : List ℕ) → AreReached mass before middle
    → AreReached mass middle now → AreReached mass before now
AreReached-further mass before middle now first second = record {
  size = second.size ∙ first.size;
  lower = λ residue. omega (arith, first.lower residue, second.lower residue);
  reached = λ residue below.
      let last = second.reached residue (omega (arith, first.size)) in
      IsReached-further mass before last.from last.count residue (slice_index now residue)
      (slice_index middle last.from)
      (first.reached last.from (omega (arith, last.within, first.size))) last.is
      (subst (λ (n : ℕ). (last.from + last.count * mass) % n ≡ residue) first.size last.class);
}

-- an entry lowered to another one with the mass
abbrev pub lowered : List ℕ → ℕ → ℕ → ℕ → List ℕ
lowered row from to mass = slice_set row to (min (slice_index row to) (slice_index row from + mass))

pub lowered-same : (row : List ℕ) (from to mass : ℕ) → to < length row
    → slice_index (lowered row from to mass) to ≡ min (slice_index row to) (slice_index row from + mass)
lowered-same row from to mass below =
    get_or-set_same row to (min (slice_index row to) (slice_index row from + mass)) 0 below

pub lowered-other : (row : List ℕ) (from to mass k : ℕ) → k ≢ to
    → slice_index (lowered row from to mass) k ≡ slice_index row k
lowered-other row from to mass k other =
    get_or-set_other row to k (min (slice_index row to) (slice_index row from + mass)) 0 other

pub lowered-length : (row : List ℕ) (from to mass : ℕ) → length (lowered row from to mass) ≡ length row
lowered-length row from to mass = length-set row to (min (slice_index row to) (slice_index row from + mass))

pub lowered-lower : (row : List ℕ) (from to mass k : ℕ) → to < length row
    → slice_index (lowered row from to mass) k ≤ slice_index row k
lowered-lower row from to mass k below = elim (cases_eq k to) [
  | inl e ↦
      let P : ℕ → Type 0 = λ n. slice_index (lowered row from to mass) n ≤ slice_index row n in
      subst P (sym e) (omega (arith, lowered-same row from to mass below))
  | inr other ↦ omega (arith, lowered-other row from to mass k other)
]

pub AreReached-lowered : (mass : ℕ) (before row : List ℕ) (from to : ℕ) → from < length row
    → to ≡ (from + mass) % length row → to < length row → AreReached mass before row
    → AreReached mass before (lowered row from to mass)
AreReached-lowered mass before row from to within next below reached = record {
  size = lowered-length row from to mass ∙ reached.size;
  lower = λ k. omega (arith, lowered-lower row from to mass k below, reached.lower k);
  reached = λ k inside. elim (cases_eq k to) [
    | inl e ↦
        subst (λ (n : ℕ). IsReached mass before n (slice_index (lowered row from to mass) n)) (sym e)
        (subst (λ (n : ℕ). IsReached mass before to n) (sym (lowered-same row from to mass below)) here)
    | inr other ↦
        subst (λ (n : ℕ). IsReached mass before k n) (sym (lowered-other row from to mass k other))
        (reached.reached k inside)
  ];
}
  where
    here : IsReached mass before to (min (slice_index row to) (slice_index row from + mass))
    here = elim (cases_lt (slice_index row from + mass) (slice_index row to)) [
      | inl less ↦
          IsReached-further mass before from 1 to _ (slice_index row from)
          (reached.reached from (omega (arith, within, reached.size))) (omega (arith, less))
          (ap (λ n. (from + n) % length before) (omega arith)
          ∙ subst (λ (n : ℕ). (from + mass) % n ≡ to) reached.size (sym next))
      | inr more ↦
          let same : min (slice_index row to) (slice_index row from + mass) ≡ slice_index row to =
          omega (arith, more) in
          subst (λ (n : ℕ). IsReached mass before to n) (sym same)
          (reached.reached to (omega (arith, below, reached.size)))
    ]

pub AreLow-reached : (mass : ℕ) (before now : List ℕ) → AreLow before → AreReached mass before now → AreLow now
AreLow-reached mass before now low reached = λ residue. omega (arith, low residue, reached.lower residue)

-- Each seen residue is closed, but for one whose entry was lowered.
abbrev pub AreClosedBut : ℕ → List ℕ → List Bool → ℕ → Bool → Type 0
AreClosedBut mass row seen last was_lowered = (residue : ℕ) → residue < length row
    → slice_index_or seen residue false ≡ true → IsClosedAt mass row residue ⊎ ((residue ≡ last) × (was_lowered ≡ true))

pub AreClosedBut-step : (mass : ℕ) (row : List ℕ) (seen : List Bool) (residue next : ℕ) (before now : Bool)
    → residue < length row → next < length row → next ≡ (residue + mass) % length row
    → now ≡ nat_lt (slice_index row residue + mass) (slice_index row next) → AreClosedBut mass row seen residue before
    → AreClosedBut mass (lowered row residue next mass) (slice_set seen residue true) next now
AreClosedBut-step mass row seen residue next before now within below is test closed = λ k inside was_seen.
    elim (cases_eq k residue) [
      | inl e ↦ inl (subst (λ (n : ℕ). IsClosedAt mass (lowered row residue next mass) n) (sym e) here)
      | inr other ↦
          let old : slice_index_or seen k false ≡ true =
          sym (get_or-set_other seen residue k true false other) ∙ was_seen in
          elim (closed k (omega (arith, inside, size)) old) [
            | inl closed_before ↦ further k other closed_before
            | inr last ↦ absurd (other last.0)
          ]
    ]
  where
    size : length (lowered row residue next mass) ≡ length row
    size = lowered-length row residue next mass

    at_next : (k : ℕ) → (k + mass) % length (lowered row residue next mass) ≡ (k + mass) % length row
    at_next k = ap (λ n. (k + mass) % n) size

    here : IsClosedAt mass (lowered row residue next mass) residue
    here =
        subst (λ (n : ℕ). slice_index (lowered row residue next mass) n
        ≤ slice_index (lowered row residue next mass) residue + mass) (is ∙ sym (at_next residue))
        (elim (cases_eq residue next) [
          | inl same ↦
              subst (λ (n : ℕ). slice_index (lowered row residue next mass) next
              ≤ slice_index (lowered row residue next mass) n + mass) (sym same) (omega arith)
          | inr apart ↦
              omega
              (arith, lowered-same row residue next mass below, lowered-other row residue next mass residue apart)
        ])

    kept : (k : ℕ) → slice_index (lowered row residue next mass) k ≡ slice_index row k → IsClosedAt mass row k
        → IsClosedAt mass (lowered row residue next mass) k
    kept k same was =
        subst (λ (n : ℕ). slice_index (lowered row residue next mass) n
        ≤ slice_index (lowered row residue next mass) k + mass) (sym (at_next k))
        (omega (arith, lowered-lower row residue next mass ((k + mass) % length row) below, same, was))

    further : (k : ℕ) → k ≢ residue → IsClosedAt mass row k
        → IsClosedAt mass (lowered row residue next mass) k ⊎ ((k ≡ next) × (now ≡ true))
    further k other was = elim (cases_eq k next) [
      | inl e ↦ subst (λ (n : ℕ). IsClosedAt mass (lowered row residue next mass) n ⊎ ((n ≡ next) × (now ≡ true)))
          (sym e) (elim (cases_lt (slice_index row residue + mass) (slice_index row next)) [
            | inl less ↦ inr (refl, test ∙ lt-ltb _ _ less)
            | inr more ↦
                let unchanged : slice_index (lowered row residue next mass) next ≡ slice_index row next =
                omega (arith, lowered-same row residue next mass below, more) in
                let was_next : IsClosedAt mass row next = subst (λ (n : ℕ). IsClosedAt mass row n) e was in
                inl (kept next unchanged was_next)
          ])
      | inr apart ↦ inl (kept k (lowered-other row residue next mass k apart) was)
    ]

abbrev pub is_unseen : Bool → ℕ
is_unseen flag = cond flag 0 1

abbrev pub was_one : Bool → ℕ
was_one flag = cond flag 1 0

-- what is left to do: the sum of the entries, the residues not seen, and what was lowered last
abbrev pub left_of : List ℕ → List Bool → Bool → ℕ
left_of row seen was_lowered =
    2 * (sum_by (λ entry. entry) row + sum_by is_unseen seen) + was_one was_lowered

cond-small : (b : Bool) → was_one b ≤ 1
cond-small true = omega arith
cond-small false = omega arith

-- A step lowers an entry, or sees a residue for the first time, or is the last one after an entry was lowered.
pub left_of-less : (row : List ℕ) (seen : List Bool) (residue next mass : ℕ) (before now : Bool)
    → residue < length seen → next < length row
    → now ≡ nat_lt (slice_index row residue + mass) (slice_index row next)
    → (before ≡ true) ⊎ (slice_index_or seen residue false ≡ false)
    → left_of (lowered row residue next mass) (slice_set seen residue true) now < left_of row seen before
left_of-less row seen residue next mass before now inside below test either =
    elim (cases_lt (slice_index row residue + mass) (slice_index row next)) [
      | inl less ↦
          let is : was_one now ≤ 1 = cond-small now in
          omega (arith, entries, flags, less, is)
      | inr more ↦
          let is : was_one now ≡ 0 = ap was_one (test ∙ le-ltb _ _ more) in
          elim either [
            | inl was ↦
                let one : was_one before ≡ 1 = ap was_one was in
                omega (arith, entries, flags, more, is, one)
            | inr unseen ↦
                let one : is_unseen (slice_index_or seen residue false) ≡ 1 = ap is_unseen unseen in
                omega (arith, entries, flags, more, is, one)
          ]
    ]
  where
    entries : sum_by (λ entry. entry) (lowered row residue next mass) + slice_index row next
        ≡ sum_by (λ entry. entry) row + min (slice_index row next) (slice_index row residue + mass)
    entries = sum_by-set (λ entry. entry) row next (min (slice_index row next) (slice_index row residue + mass)) 0
        below

    flags : sum_by is_unseen (slice_set seen residue true)
        + is_unseen (slice_index_or seen residue false) ≡ sum_by is_unseen seen + 0
    flags = sum_by-set is_unseen seen residue true false inside
