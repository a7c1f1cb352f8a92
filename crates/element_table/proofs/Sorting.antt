-- Of formula_cmp: sorted formulas of which no two are the same rise strictly.
use Rattle.std.proofs.Common.{◌≡◌, ◌≢◌, ℕ, List, true, false, get_or, sym, ap, ◌∙◌, refl, arith}
use Rattle.std.specs.declared.cmp.Ordering.{Ordering}
use Rattle.std.specs.declared.cmp.Ordering.TheVariants.{Less, Equal, Greater}
use Rattle.std.specs.FinMap.{slice_cmp-IsAntisymmetric, nat_cmp-IsAntisymmetric}
use Rattle.std.specs.List.{AllPairs, IsDistinct}
use Rattle.std.specs.List.Sorted.{IsPermutation, IsSorted}
use Rattle.std.specs.Ordering.{eq_by_cmp, is_eq, is_lt, ordering_reverse}
use Rattle.std.proofs.lemmas.Cmp.{eq_by_cmp_equiv, nat_list_cmp_total}
use Rattle.std.proofs.lemmas.List.Sorted.{ranks_by, sorted_far}
use Rattle.std.proofs.lemmas.Map.Keys.{IsDistinct-IsPermutation, IsDistinct-from_apart, apart_from_distinct}
use Rattle.element_table.specs.Formula.{formula_cmp}

not_tied : (x y : List ℕ) → x ≢ y → is_eq (formula_cmp x y) ≡ false
not_tied x y apart = by_order (formula_cmp x y) refl
  where
    by_order : (order : Ordering) → formula_cmp x y ≡ order → is_eq order ≡ false
    by_order Less is = refl
    by_order Equal is = absurd (apart (slice_cmp-IsAntisymmetric nat_cmp-IsAntisymmetric x y is))
    by_order Greater is = refl

less_from_not_above : (x y : List ℕ) → is_eq (formula_cmp x y) ≡ false → is_lt (formula_cmp y x) ≡ false
    → formula_cmp x y ≡ Less
less_from_not_above x y apart not_above = by_order (formula_cmp x y) refl
  where
    by_order : (order : Ordering) → formula_cmp x y ≡ order → formula_cmp x y ≡ Less
    by_order Less is = is
    by_order Equal is = let both : true ≡ false = ap is_eq (sym is) ∙ apart in cc
    by_order Greater is =
        let above : formula_cmp y x ≡ Less = nat_list_cmp_total.antisymm y x ∙ ap ordering_reverse is in
        let both : true ≡ false = ap is_lt (sym above) ∙ not_above in
        cc

pub sorted_rises : (formulas sorted : List (List ℕ)) → AllPairs (λ first later. first ≢ later) formulas
    → IsPermutation formulas sorted → IsSorted formula_cmp sorted
    → AllPairs (λ first later. formula_cmp first later ≡ Less) sorted
sorted_rises formulas sorted apart moved in_order i j none earlier within =
    let distinct : IsDistinct (eq_by_cmp formula_cmp) formulas =
    IsDistinct-from_apart (eq_by_cmp formula_cmp) formulas
    (λ a b d before in'. not_tied _ _ (apart a b d before in')) in
    let still : IsDistinct (eq_by_cmp formula_cmp) sorted =
    IsDistinct-IsPermutation (eq_by_cmp formula_cmp) (eq_by_cmp_equiv nat_list_cmp_total).symm formulas sorted
    moved distinct in
    less_from_not_above (get_or sorted i none) (get_or sorted j none)
    (apart_from_distinct (eq_by_cmp formula_cmp) sorted i j none still earlier within)
    (sorted_far (λ x y. is_lt (formula_cmp x y)) (ranks_by nat_list_cmp_total (λ x. x)) sorted in_order i j none
    (omega arith) within)
