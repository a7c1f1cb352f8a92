-- Of default_tables and IsScores: the default tables are right.
use Rattle.std.proofs.Common.{◌≡◌, ◌≢◌, ◌≤◌, ℕ, zero, suc, ℤ, pos, Bool, true, false, ◌&&◌, not, List, [], ◌∷◌, length}
use Rattle.std.proofs.Common.{get_or, drop, refl, sym, arith, All, AllPairs, eqb, leb, ◌+◌, ◌-◌, ◌∙◌, inl, inr}
use Rattle.std.specs.Prelude.{bytes_eq, int_le, neg_ℤ}
use Rattle.std.specs.List.{list_all}
use Rattle.std.proofs.lemmas.Bool.{and_parts, cases_lt, eqb-true, leb-true, not-true}
use Rattle.std.proofs.lemmas.List.{get_or-drop, get_or_past, length-drop}
use Rattle.std.proofs.lemmas.List.Elements.{All-cons, All-nil}
use Rattle.std.proofs.lemmas.Slice.Eq.{bytes_eq-Decides}
use Rattle.std.proofs.lemmas.Float.{T_from_true}
use Rattle.element_table.specs.Formula.{IsFormula, empty_formula}
use Rattle.element_table.specs.Rule.{IsNearZero}
use Rattle.score_tables.specs.Default.{default_tables, default_intensity, default_error, default_named}
use Rattle.score_tables.specs.Default.{default_implausible}
use Rattle.score_tables.specs.Tables.{bounds_of, IsLossTable, IsScores, IsShareTable, LossTable, ShareTable}
use Rattle.score_tables.specs.Tables.{falls_to_nought, greatest_score, rises_to_whole}

-- what a test of each item says
all_by_test : {X : Type 0} (test : X → Bool) (P : X → Type 0) → ((item : X) → test item ≡ true → P item)
    → (items : List X) → list_all test items ≡ true → All P items
all_by_test test P says [] all = All-nil P
all_by_test test P says (item ∷ items) all =
    let (first, rest) = and_parts (test item) (list_all test items) all in
    All-cons P item items (says item first) (all_by_test test P says items rest)

abbrev is_near : ℤ → Bool
is_near score = int_le (neg_ℤ (pos greatest_score)) score && int_le score (pos greatest_score)

near_by_test : (score : ℤ) → is_near score ≡ true → IsNearZero greatest_score score
near_by_test score is =
    let (low, high) = and_parts (int_le (neg_ℤ (pos greatest_score)) score) (int_le score (pos greatest_score)) is in
    (record { le = T_from_true _ low }, record { le = T_from_true _ high })

-- whether counts are a formula
abbrev is_formula : List ℕ → Bool
is_formula counts =
    eqb (length counts) 16 && list_all (λ count. leb count 1999) counts
    && list_all (λ count. eqb count 0) (drop 11 counts)

capped_at : (counts : List ℕ) → All (λ count. count ≤ 1999) counts → (place : ℕ) → get_or counts place 0 ≤ 1999
capped_at counts capped place =
    elim (cases_lt place (length counts)) [
      | inl within ↦ capped place 0 within
      | inr past ↦ rw (get_or_past counts place 0 past) (omega arith)
    ]

nothing_past : (first : ℕ) (counts : List ℕ) → All (λ count. count ≡ 0) (drop first counts) → (place : ℕ)
    → first ≤ place → get_or counts place 0 ≡ 0
nothing_past first counts none place past =
    elim (cases_lt (place - first) (length (drop first counts))) [
      | inl within ↦
          let here : first + (place - first) ≡ place = omega arith in
          rw (get_or-drop, here) at (none (place - first) 0 within)
      | inr over ↦
          let far : length counts ≤ place = let left = length-drop first counts in omega arith in
          get_or_past counts place 0 far
    ]

formula_by_test : (counts : List ℕ) → is_formula counts ≡ true → IsFormula counts
formula_by_test counts is =
    let (more, none) =
    and_parts (eqb (length counts) 16 && list_all (λ count. leb count 1999) counts)
    (list_all (λ count. eqb count 0) (drop 11 counts)) is in
    let (places, capped) = and_parts (eqb (length counts) 16) (list_all (λ count. leb count 1999) counts) more in
    record {
      places = eqb-true (length counts) 16 places;
      capped =
          capped_at counts (all_by_test (λ count. leb count 1999) (λ count. count ≤ 1999)
          (λ count is. leb-true count 1999 is) counts capped);
      elements =
          nothing_past 11 counts (all_by_test (λ count. eqb count 0) (λ count. count ≡ 0)
          (λ count is. eqb-true count 0 is) (drop 11 counts) none);
    }

apart_by_test : (one other : List ℕ) → not (bytes_eq one other) ≡ true → one ≢ other
apart_by_test one other is same =
    let equal = (bytes_eq-Decides one other).1 same in
    let both : true ≡ false = sym equal ∙ not-true (bytes_eq one other) is in
    cc

-- whether no two losses are the same
abbrev are_apart : LossTable → Bool
are_apart [] = true
are_apart (entry ∷ losses) = list_all (λ later. not (bytes_eq entry.0 later.0)) losses && are_apart losses

distinct_by_test : (losses : LossTable) → are_apart losses ≡ true → AllPairs (λ first later. first.0 ≢ later.0) losses
distinct_by_test [] is i j none before within = absurd (omega arith)
distinct_by_test (entry ∷ losses) is zero zero none before within = absurd (omega arith)
distinct_by_test (entry ∷ losses) is (suc i) zero none before within = absurd (omega arith)
distinct_by_test (entry ∷ losses) is zero (suc j) none before within =
    let (first, rest) =
    and_parts (list_all (λ (later : List ℕ × ℤ). not (bytes_eq entry.0 later.0)) losses) (are_apart losses) is in
    all_by_test (λ (later : List ℕ × ℤ). not (bytes_eq entry.0 later.0)) (λ later. entry.0 ≢ later.0)
    (λ later is. apart_by_test entry.0 later.0 is) losses first j none (omega arith)
distinct_by_test (entry ∷ losses) is (suc i) (suc j) none before within =
    let (first, rest) =
    and_parts (list_all (λ (later : List ℕ × ℤ). not (bytes_eq entry.0 later.0)) losses) (are_apart losses) is in
    distinct_by_test losses rest i j none (omega arith) (omega arith)

losses_by_test : (losses : LossTable) → length losses ≤ 64 → list_all (λ entry. is_formula entry.0) losses ≡ true
    → list_all (λ entry. not (bytes_eq entry.0 empty_formula)) losses ≡ true
    → are_apart losses ≡ true → list_all (λ entry. is_near entry.1) losses ≡ true → IsLossTable losses
losses_by_test losses few formulas some_atom apart near = record {
  few = few;
  formulas =
      all_by_test (λ (entry : List ℕ × ℤ). is_formula entry.0) (λ entry. IsFormula entry.0)
      (λ entry is. formula_by_test entry.0 is) losses formulas;
  some_atom =
      all_by_test (λ (entry : List ℕ × ℤ). not (bytes_eq entry.0 empty_formula)) (λ entry. entry.0 ≢ empty_formula)
      (λ entry is. apart_by_test entry.0 empty_formula is) losses some_atom;
  distinct = distinct_by_test losses apart;
  scores =
      all_by_test (λ (entry : List ℕ × ℤ). is_near entry.1) (λ entry. IsNearZero greatest_score entry.1)
      (λ entry is. near_by_test entry.1 is) losses near;
}

shares_by_test : (are_ordered : List ℤ → Bool) (pairs : ShareTable) → length pairs ≤ 16
    → are_ordered (bounds_of pairs) ≡ true → list_all (λ pair. leb pair.0 1000) pairs ≡ true
    → list_all (λ pair. is_near pair.1) pairs ≡ true
    → IsShareTable are_ordered pairs
shares_by_test are_ordered pairs few ordered bounds near = record {
  few = few;
  ordered = ordered;
  bounds =
      all_by_test (λ (pair : ℕ × ℤ). leb pair.0 1000) (λ pair. pair.0 ≤ 1000) (λ pair is. leb-true pair.0 1000 is)
      pairs bounds;
  scores =
      all_by_test (λ (pair : ℕ × ℤ). is_near pair.1) (λ pair. IsNearZero greatest_score pair.1)
      (λ pair is. near_by_test pair.1 is) pairs near;
}

pub default_tables-right : IsScores default_tables
default_tables-right = record {
  intensity = shares_by_test falls_to_nought default_intensity (omega arith) refl refl refl;
  error = shares_by_test rises_to_whole default_error (omega arith) refl refl refl;
  named = losses_by_test default_named (omega arith) refl refl refl refl;
  implausible = losses_by_test default_implausible (omega arith) refl refl refl refl;
  radical = near_by_test default_tables.radical refl;
  negative = near_by_test default_tables.negative refl;
  not_small = omega arith;
  not_large = omega arith;
}

-- the same of tables that are these
pub right_as_default : (intensity error : ShareTable) (named implausible : LossTable) → intensity ≡ default_intensity
    → error ≡ default_error → named ≡ default_named → implausible ≡ default_implausible
    → IsScores (record {
      intensity = intensity;
      error = error;
      named = named;
      implausible = implausible;
      radical =
          default_tables.radical;
      negative = default_tables.negative;
      size = default_tables.size;
    })
right_as_default intensity error named implausible a b d e = rw (a, b, d, e) default_tables-right
