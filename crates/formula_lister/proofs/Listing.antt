-- What was gained from nothing and sorted is the list of the window, and where too many were found that list is too
-- long.
use Rattle.std.proofs.Common.{◌≡◌, ◌≢◌, ℕ, zero, suc, ◌≤◌, ◌<◌, List, [], ◌∷◌, length, slice_index, refl, subst, sym}
use Rattle.std.proofs.Common.{rules as search_rules, arith}
use Rattle.std.proofs.lemmas.List.Sorted.{IsPermutation-sym, Contains-permutation}
use Rattle.std.specs.Prelude.{◌↔◌}
use Rattle.std.specs.List.{AllByRecursion, AllPairs}
use Rattle.std.specs.List.Sorted.{IsPermutation}
use Rattle.std.specs.declared.cmp.Ordering.TheVariants.{Less}
use Rattle.element_table.specs.Formula.{empty_formula, formula_cmp, mass_of}
use Rattle.element_table.specs.Listed.{IsAllowed, Listed}
use Rattle.element_table.specs.Rule.{Rule}
use Rattle.element_table.specs.Window.{InWindow, Window}
use Rattle.formula_lister.specs.declared.chosen.Bounds.{Bounds}
use Rattle.formula_lister.specs.declared.element.Element.{Element}
use Rattle.element_table.specs.FormulaList.{greatest_list}
use Rattle.formula_lister.specs.inside.Counting.{IsCandidate, IsReady, Completes, Gains, Overfills}
use Rattle.formula_lister.specs.inside.Elements.{AreElements, IsUncounted, NoneChosen}
use Rattle.formula_lister.proofs.Fitting.{length-le_from_members}

zeros : (xs : List ℕ) (k : ℕ) → AllByRecursion (λ x. x ≡ 0) xs → slice_index xs k ≡ 0
zeros [] k all = refl
zeros (x ∷ xs) zero all = all.0
zeros (x ∷ xs) (suc k) all = zeros xs k all.1

nothing : (k : ℕ) → slice_index empty_formula k ≡ 0
nothing k = zeros empty_formula k (search search_rules)

none_of_nothing : (elements : List Element) → NoneChosen elements empty_formula
none_of_nothing [] = tt
none_of_nothing (element ∷ elements) = (nothing element.place, none_of_nothing elements)

-- every count may be added to nothing
pub IsReady-nothing : (bounds : Bounds) (elements : List Element) → AreElements bounds.limits elements
    → IsReady bounds elements empty_formula
IsReady-nothing bounds elements known = record {
  known = known;
  none = none_of_nothing elements;
  places = refl;
  within_limits = λ k. omega (arith, nothing k);
}

-- the bounds are those of a window and limits, and the elements are those of a positive limit
pub record AreOf (window : Window) (limits : List ℕ) (bounds : Bounds) (elements : List Element) : Type 0 where
  pub limited : bounds.limits ≡ limits
  pub masses : (counts : List ℕ)
      → InWindow window counts ↔ ((bounds.least ≤ mass_of counts) × (mass_of counts ≤ bounds.most))
  pub others : (place : ℕ) → IsUncounted elements place → slice_index limits place ≡ 0

allowed_from_candidate : (window : Window) (limits : List ℕ) (rules : List Rule) (bounds : Bounds)
    (elements : List Element) (counts : List ℕ) → AreOf window limits bounds elements → IsCandidate bounds rules counts
    → IsAllowed window limits rules counts
allowed_from_candidate window limits rules bounds elements counts are h = record {
  places = h.places;
  within_limits = rw (sym are.limited) h.within_limits;
  in_window = (are.masses counts).1 (h.not_below, h.not_above);
  passes = h.passes;
}

candidate_from_allowed : (window : Window) (limits : List ℕ) (rules : List Rule) (bounds : Bounds)
    (elements : List Element) (counts : List ℕ) → AreOf window limits bounds elements
    → IsAllowed window limits rules counts → IsCandidate bounds rules counts
candidate_from_allowed window limits rules bounds elements counts are h =
    let within = (are.masses counts).0 h.in_window in
    record {
      places = h.places;
      within_limits = rw are.limited h.within_limits;
      not_below = within.0;
      not_above = within.1;
      passes = h.passes;
    }

candidate_completes : (window : Window) (limits : List ℕ) (rules : List Rule) (bounds : Bounds)
    (elements : List Element) (counts : List ℕ) → AreOf window limits bounds elements
    → IsAllowed window limits rules counts → Completes bounds rules elements empty_formula counts
candidate_completes window limits rules bounds elements counts are h = record {
  candidate = candidate_from_allowed window limits rules bounds elements counts are h;
  shares = λ k uncounted. omega (arith, h.within_limits k, are.others k uncounted, nothing k);
}

pub listed : (window : Window) (limits : List ℕ) (rules : List Rule) (bounds : Bounds) (elements : List Element)
    (gained sorted : List (List ℕ)) → AreOf window limits bounds elements
    → Gains (Completes bounds rules elements empty_formula) [] gained → IsPermutation gained sorted
    → ((formulas : List (List ℕ)) → AllPairs (λ first later. first ≢ later) formulas → IsPermutation formulas sorted
    → AllPairs (λ first later. formula_cmp first later ≡ Less) sorted) → Listed window limits rules sorted
listed window limits rules bounds elements gained sorted are g moved rises =
    let added_moved : IsPermutation g.added sorted = subst (λ (l : List (List ℕ)). IsPermutation l sorted) g.is moved in
    record {
      rising = rises g.added g.distinct added_moved;
      members = λ counts. (
        λ has. allowed_from_candidate window limits rules bounds elements counts are
            ((g.members counts).0 (Contains-permutation sorted g.added counts
            (IsPermutation-sym g.added sorted added_moved) has)).candidate,
        λ allowed. Contains-permutation g.added sorted counts added_moved
            ((g.members counts).1 (candidate_completes window limits rules bounds elements counts are allowed)),
      );
    }

pub too_many_listed : (window : Window) (limits : List ℕ) (rules : List Rule) (bounds : Bounds)
    (elements : List Element) (formulas : List (List ℕ)) → AreOf window limits bounds elements
    → Overfills (Completes bounds rules elements empty_formula) [] → Listed window limits rules formulas
    → greatest_list < length formulas
too_many_listed window limits rules bounds elements formulas are h list =
    omega (
      arith,
      h.too_many,
      length-le_from_members h.found formulas h.distinct
          (λ counts has. (list.members counts).1
          (allowed_from_candidate window limits rules bounds elements counts are (h.members counts has).candidate)),
    )

-- where no formula is in a window, its list is empty
pub none_listed : (window : Window) (limits : List ℕ) (rules : List Rule)
    → ((counts : List ℕ) → InWindow window counts → ⊥) → Listed window limits rules []
none_listed window limits rules none = record {
  rising = λ i j d before below. absurd (omega arith);
  members = λ counts. (λ has. absurd (omega (arith, has.1)), λ allowed. absurd (none counts allowed.in_window));
}
