-- Of Listed and listed_of: the list of a window is a filter, and there is no other.
use Rattle.std.proofs.Common.{◌≡◌, ℕ, ℤ, pos, ◌≤ℤ◌, List, [], ◌∷◌, Bool, true, false, ◌&&◌, length, refl, sym, ◌∙◌, ap}
use Rattle.std.proofs.Common.{T}
use Rattle.std.specs.declared.cmp.Ordering.TheVariants.{Less, Greater}
use Rattle.std.specs.Bool.{Decides}
use Rattle.std.specs.List.{filter}
use Rattle.std.specs.Ordering.{int_eq, ordering_reverse}
use Rattle.std.specs.Prelude.{int_le, int_rem}
use Rattle.std.proofs.lemmas.Bool.Decides.{Decides-and, Decides-int_eq, Decides-like, Decides-not}
use Rattle.std.proofs.lemmas.Cmp.{nat_list_cmp_total}
use Rattle.std.proofs.lemmas.Float.{T_from_true}
use Rattle.std.proofs.lemmas.List.Kept.{AllPairs-filter}
use Rattle.element_table.specs.Formula.{IsWithin, formula_cmp}
use Rattle.element_table.specs.Listed.{IsAllowed, Listed, count_lists, has_parity, holds, is_in_window, listed_of}
use Rattle.element_table.specs.Listed.{passes}
use Rattle.element_table.specs.Rule.{HasParity, Holds, Parity, Passes, Rule, any, even, odd, value_of}
use Rattle.element_table.specs.Window.{InWindow, Window}
use Rattle.element_table.proofs.CountLists.{In-count_lists, IsBelow, Rising-count_lists, within_from_In}
use Rattle.element_table.proofs.Members.{AllPairs-from_Rising, Contains-from_In, In, In-filter, In-filter_from}
use Rattle.element_table.proofs.Members.{In-from_Contains, Rising-from_AllPairs, same_from_members}

Decides-int_le : (x y : ℤ) → Decides (int_le x y) (x ≤ℤ y)
Decides-int_le x y = ((λ is. record { le = T_from_true (int_le x y) is }), (λ below. true_from_T (int_le x y) below.le))
  where
    true_from_T : (b : Bool) → T b → b ≡ true
    true_from_T true h = refl
    true_from_T false h = absurd h

pub Decides-is_in_window : (window : Window) (counts : List ℕ)
    → Decides (is_in_window window counts) (InWindow window counts)
Decides-is_in_window window counts = Decides-like (is_in_window window counts)
    (λ both. record { not_below = both.0; not_above = both.1 })
    (λ inside. (inside.not_below, inside.not_above))
    (Decides-and _ _ (Decides-int_le _ _) (Decides-int_le _ _))

Decides-has_parity : (parity : Parity) (n : ℤ) → Decides (has_parity parity n) (HasParity parity n)
Decides-has_parity any n = ((λ is. tt), (λ h. refl))
Decides-has_parity even n = Decides-int_eq (int_rem n (pos 2)) (pos 0)
Decides-has_parity odd n = Decides-not (int_eq (int_rem n (pos 2)) (pos 0)) (Decides-int_eq (int_rem n (pos 2)) (pos 0))

pub Decides-holds : (rule : Rule) (counts : List ℕ) → Decides (holds rule counts) (Holds rule counts)
Decides-holds rule counts = Decides-like (holds rule counts)
    (λ both. record { not_negative = both.0; parity = both.1 })
    (λ held. (held.not_negative, held.parity))
    (Decides-and _ _ (Decides-int_le (pos 0) (value_of rule counts))
    (Decides-has_parity rule.parity (value_of rule counts)))

pub Decides-passes : (rules : List Rule) (counts : List ℕ) → Decides (passes rules counts) (Passes rules counts)
Decides-passes [] counts = ((λ is. tt), (λ h. refl))
Decides-passes (rule ∷ rules) counts =
    Decides-and (holds rule counts) (passes rules counts) (Decides-holds rule counts) (Decides-passes rules counts)

-- whether a formula is in the window and passes the rules
abbrev keeps : Window → List Rule → List ℕ → Bool
keeps window rules counts = is_in_window window counts && passes rules counts

Decides-keeps : (window : Window) (rules : List Rule) (counts : List ℕ)
    → Decides (keeps window rules counts) (InWindow window counts × Passes rules counts)
Decides-keeps window rules counts = Decides-and _ _ (Decides-is_in_window window counts) (Decides-passes rules counts)

allowed_from_In : (window : Window) (limits : List ℕ) (rules : List Rule) → length limits ≡ 16 → (counts : List ℕ)
    → In counts (filter (keeps window rules) (count_lists limits)) → IsAllowed window limits rules counts
allowed_from_In window limits rules places counts there =
    let kept : In counts (count_lists limits) × (keeps window rules counts ≡ true) =
    In-filter_from (keeps window rules) counts (count_lists limits) there in
    let within : (length counts ≡ length limits) × IsWithin counts limits = within_from_In limits counts kept.0 in
    let both : InWindow window counts × Passes rules counts = (Decides-keeps window rules counts).0 kept.1 in
    record { places = within.0 ∙ places; within_limits = within.1; in_window = both.0; passes = both.1 }

In-filter_allowed : (window : Window) (limits : List ℕ) (rules : List Rule) → length limits ≡ 16 → (counts : List ℕ)
    → IsAllowed window limits rules counts → In counts (filter (keeps window rules) (count_lists limits))
In-filter_allowed window limits rules places counts allowed =
    In-filter (keeps window rules) counts (count_lists limits)
    ((Decides-keeps window rules counts).1 (allowed.in_window, allowed.passes))
    (In-count_lists limits counts (allowed.places ∙ sym places) allowed.within_limits)

pub listed_of-is_listed : (window : Window) (limits : List ℕ) (rules : List Rule) → length limits ≡ 16
    → Listed window limits rules (listed_of window limits rules)
unfolding listed_of
listed_of-is_listed window limits rules places = record {
  rising =
      AllPairs-filter IsBelow (keeps window rules) (count_lists limits)
      (AllPairs-from_Rising IsBelow (count_lists limits) (Rising-count_lists limits));
  members = λ counts. (
    (λ there. allowed_from_In window limits rules places counts (In-from_Contains counts _ there)),
    (λ allowed. Contains-from_In counts _ (In-filter_allowed window limits rules places counts allowed)),
  );
}

-- no two formulas are each below the other
one_way : (x y : List ℕ) → IsBelow x y → IsBelow y x → ⊥
one_way x y below above =
    let reversed : formula_cmp x y ≡ ordering_reverse (formula_cmp y x) = nat_list_cmp_total.antisymm x y in
    let both : Less ≡ Greater = sym below ∙ reversed ∙ ap ordering_reverse above in
    cc

pub same_lists_listed : (window : Window) (limits : List ℕ) (rules : List Rule) (one two : List (List ℕ))
    → Listed window limits rules one → Listed window limits rules two → one ≡ two
same_lists_listed window limits rules one two first second =
    same_from_members IsBelow one_way one two
    (Rising-from_AllPairs IsBelow one first.rising)
    (Rising-from_AllPairs IsBelow two second.rising)
    (λ counts there. In-from_Contains counts two
    ((second.members counts).1 ((first.members counts).0 (Contains-from_In counts one there))))
    (λ counts there. In-from_Contains counts one
    ((first.members counts).1 ((second.members counts).0 (Contains-from_In counts two there))))
