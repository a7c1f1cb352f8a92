-- Of rank_cmp: it is a total order, sorted entries are ranked, and ranked entries of different candidates rise
-- strictly.
use Rattle.std.proofs.Common.{◌≡◌, ◌≢◌, ◌∙◌, ℤ, List, true, false, get_or, refl, sym, ap, arith}
use Rattle.std.specs.Cmp.{IsTotalOrder}
use Rattle.std.specs.FinMap.{nat_cmp-IsAntisymmetric, slice_cmp-IsAntisymmetric}
use Rattle.std.specs.List.{AllPairs}
use Rattle.std.specs.List.Sorted.{IsSortedBy}
use Rattle.std.specs.Ordering.{int_cmp, is_lt, ordering_reverse, ordering_then}
use Rattle.std.specs.declared.cmp.Ordering.{Ordering}
use Rattle.std.specs.declared.cmp.Ordering.TheVariants.{Less, Equal, Greater}
use Rattle.std.proofs.lemmas.Cmp.{int_cmp_total, nat_cmp_total, nat_list_cmp_total, on_total, then_total}
use Rattle.std.proofs.lemmas.List.Sorted.{ranks_by, sorted_far}
use Rattle.tree_entry.specs.Rank.{AreRanked, outcome_cmp, rank_cmp}
use Rattle.tree_document.specs.declared.entry.Entry.{Entry}
use Rattle.tree_document.specs.declared.entry.Outcome.{Outcome}
use Rattle.tree_document.specs.declared.entry.Outcome.TheVariants.{Tree, TooLarge}

outcome_total : IsTotalOrder outcome_cmp
outcome_total = record { antisymm = turned; trans = passed; congr = tied }
  where
    turned : (x y : Outcome) → outcome_cmp x y ≡ ordering_reverse (outcome_cmp y x)
    turned (Tree x) (Tree y) = int_cmp_total.antisymm y.score x.score
    turned (Tree x) (TooLarge y) = refl
    turned (TooLarge x) (Tree y) = refl
    turned (TooLarge x) (TooLarge y) = refl

    passed : (x y z : Outcome) → outcome_cmp x y ≡ Less → outcome_cmp y z ≡ Less → outcome_cmp x z ≡ Less
    passed (Tree x) (Tree y) (Tree z) first second = int_cmp_total.trans z.score y.score x.score second first
    passed (Tree x) y (TooLarge z) first second = refl
    passed (Tree x) (TooLarge y) (Tree z) first second = (cc)
    passed (TooLarge x) (Tree y) z first second = (cc)
    passed (TooLarge x) (TooLarge y) z first second = (cc)

    same_score : (x y z : ℤ) → int_cmp y x ≡ Equal → int_cmp z x ≡ int_cmp z y
    same_score x y z tie =
        int_cmp_total.antisymm z x
        ∙ ap ordering_reverse (int_cmp_total.congr x y z (int_cmp_total.antisymm x y ∙ ap ordering_reverse tie))
        ∙ sym (int_cmp_total.antisymm z y)

    tied : (x y z : Outcome) → outcome_cmp x y ≡ Equal → outcome_cmp x z ≡ outcome_cmp y z
    tied (Tree x) (Tree y) (Tree z) tie = same_score x.score y.score z.score tie
    tied (Tree x) (Tree y) (TooLarge z) tie = refl
    tied (Tree x) (TooLarge y) z tie = (cc)
    tied (TooLarge x) (Tree y) z tie = (cc)
    tied (TooLarge x) (TooLarge y) (Tree z) tie = refl
    tied (TooLarge x) (TooLarge y) (TooLarge z) tie = refl

pub rank_total : IsTotalOrder rank_cmp
rank_total =
    then_total (then_total (on_total (λ (entry : Entry). entry.outcome) outcome_total)
    (on_total (λ (entry : Entry). entry.error) nat_cmp_total))
    (on_total (λ (entry : Entry). entry.candidate) nat_list_cmp_total)

pub ranked_from_sorted : (entries : List Entry) → IsSortedBy (λ one other. is_lt (rank_cmp one other)) entries
    → AreRanked entries
ranked_from_sorted entries in_order i j none earlier within above =
    let not_below : is_lt (rank_cmp (get_or entries j none) (get_or entries i none)) ≡ false =
    sorted_far (λ one other. is_lt (rank_cmp one other)) (ranks_by rank_total (λ entry. entry)) entries in_order i j
    none (omega arith) within
    in
    let below = rank_total.antisymm (get_or entries j none) (get_or entries i none) ∙ ap ordering_reverse above in
    let both : true ≡ false = sym (ap is_lt below) ∙ not_below in
    cc

-- the second of two comparisons in turn is a tie where both are
tie_of_second : (first second : Ordering) → ordering_then first second ≡ Equal → second ≡ Equal
tie_of_second Less second tie = (cc)
tie_of_second Equal second tie = tie
tie_of_second Greater second tie = (cc)

less_from : (order : Ordering) → order ≢ Greater → order ≢ Equal → order ≡ Less
less_from Less not_above not_tied = refl
less_from Equal not_above not_tied = absurd (not_tied refl)
less_from Greater not_above not_tied = absurd (not_above refl)

pub ranked_rises : (entries : List Entry) → AreRanked entries
    → AllPairs (λ one later. one.candidate ≢ later.candidate) entries
    → AllPairs (λ one later. rank_cmp one later ≡ Less) entries
ranked_rises entries ranked apart i j none earlier within =
    less_from (rank_cmp (get_or entries i none) (get_or entries j none)) (ranked i j none earlier within)
    (λ tie. apart i j none earlier within
    (slice_cmp-IsAntisymmetric nat_cmp-IsAntisymmetric _ _ (tie_of_second _ _ tie)))
