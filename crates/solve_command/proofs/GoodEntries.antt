-- `entry_lines`: what bounds the errors of candidates, and the numbers of the lists of a graph.
use Rattle.std.proofs.Common.{◌+◌, ◌≡◌, ◌≤◌, ◌<◌, ◌-◌, ◌⊎◌, inl, inr, ℕ, List, length, slice_index, sym, subst}
use Rattle.std.proofs.Common.{arith}
use Rattle.std.proofs.Common.{ℤ, pos, negsuc, ◌+ℤ◌, ◌-ℤ◌, ◌≤ℤ◌, unsigned_abs}
use Rattle.std.proofs.lemmas.Bool.{cases_lt}
use Rattle.std.proofs.lemmas.Int.{ints}
use Rattle.std.proofs.lemmas.List.{get_or_past}
use Rattle.std.proofs.lemmas.List.Elements.{All-contains, All-filter}
use Rattle.std.proofs.lemmas.List.FromFn.{get_or-range_with_len, length-range_with_len}
use Rattle.std.specs.List.{All, range_with_len}
use Rattle.adducts.specs.declared.choice.Choice.{Choice}
use Rattle.element_table.specs.Formula.{mass_of}
use Rattle.element_table.specs.FormulaList.{FormulaListValue}
use Rattle.element_table.specs.Window.{InWindow, Window, greatest_half_width}
use Rattle.loss_graph.specs.Lists.{AreLists, list_at, window_at}
use Rattle.loss_graph.specs.LossGraph.{error_of}
use Rattle.loss_graph.specs.Vertices.{has_part, peaks_of}

away : (difference : ℤ) (half : ℕ) → pos 0 ≤ℤ (difference +ℤ pos half) → difference ≤ℤ pos half
    → unsigned_abs difference ≤ half
away (pos n) half low high = omega (arith, ints, high)
away (negsuc n) half low high = omega (arith, ints, low)

-- a formula in a window is at most half its width away from the centre
error-within : (window : Window) (formula : List ℕ) → InWindow window formula → error_of window formula ≤ window.half
error-within window formula is =
    away (pos (mass_of formula) -ℤ window.centre) window.half (omega (arith, ints, is.not_below))
    (omega (arith, ints, is.not_above))

-- so the error of an ion in the precursor's list is small
pub error-small : (choice : Choice) (root : List ℕ) (lists : List FormulaListValue) → AreLists choice root lists
    → error_of (window_at choice (list_at lists 0)) root ≤ greatest_half_width
error-small choice root lists are =
    let window = window_at choice (list_at lists 0) in
    let inside = All-contains (InWindow window) (list_at lists 0).formulas root (are.each 0 _ are.some).in_window
    are.holds_root in
    let half : window.half ≤ greatest_half_width = omega arith in
    omega (arith, error-within window root inside, half)

-- the numbers of the lists of a graph are those of some lists, the precursor's left out
pub peaks-few : (most : ℕ) (root : List ℕ) (lists : List FormulaListValue) (peaks : List ℕ)
    → peaks ≡ peaks_of root lists
    → length lists ≤ most + 1
    → (colour : ℕ) → slice_index peaks colour ≤ most
peaks-few most root lists peaks are few colour = choose (cases_lt colour (length peaks))
  where
    numbers : List ℕ
    numbers = range_with_len 1 (length lists - 1)

    each : All (λ peak. peak ≤ most) numbers
    each k d within =
        let before : k < length lists - 1 = omega (arith, length-range_with_len 1 (length lists - 1)) in
        omega (arith, get_or-range_with_len 1 (length lists - 1) k d before)

    of_peaks : All (λ peak. peak ≤ most) peaks
    of_peaks = subst (All (λ peak. peak ≤ most)) (sym are)
        (All-filter (λ number. has_part root (list_at lists number)) (λ peak. peak ≤ most) numbers each)

    choose : (colour < length peaks) ⊎ (length peaks ≤ colour) → slice_index peaks colour ≤ most
    choose (inl within) = of_peaks colour 0 within
    choose (inr past) = omega (arith, get_or_past peaks colour 0 past)
