-- Of Selected and chosen_from: the peaks that are chosen one after another are those with a mark.
use Rattle.std.proofs.Common.{◌≡◌, ℕ, zero, suc, Bool, true, false, List, [], ◌∷◌, ◌++◌, Some, length, take, refl, sym}
use Rattle.std.proofs.Common.{ap, ◌∙◌, append_assoc, append-nil, if◌then◌else◌}
use Rattle.std.specs.Prelude.{slice_get, slice_index_or}
use Rattle.std.specs.List.{filter}
use Rattle.std.specs.List.Sorted.{IsPermutation, IsSorted}
use Rattle.mgf_reader.specs.Spectrum.{PeakValue}
use Rattle.adducts.specs.inside.Choosing.{chosen_from, chosen_with, is_chosen}
use Rattle.adducts.specs.Selected.{Selected, falling_cmp, has_intensity, marked, rank_cmp}
use Rattle.adducts.specs.declared.choice.Choice.{Choice}
use Rattle.adducts.proofs.Intervals.{Decides-is_chosen}

abbrev marks_from : Choice → ℕ → List PeakValue → List PeakValue → List Bool
marks_from choice precursor chosen [] = []
marks_from choice precursor chosen (peak ∷ later) =
    is_chosen choice precursor chosen peak ∷ marks_from choice precursor (chosen_with choice precursor chosen peak)
    later

length-marks_from : (choice : Choice) (precursor : ℕ) (chosen ranked : List PeakValue)
    → length (marks_from choice precursor chosen ranked) ≡ length ranked
length-marks_from choice precursor chosen [] = refl
length-marks_from choice precursor chosen (peak ∷ later) =
    ap suc (length-marks_from choice precursor (chosen_with choice precursor chosen peak) later)

-- one more peak, with its mark
marked_more : (chosen : List PeakValue) (peak : PeakValue) (marks : List Bool) (later : List PeakValue) (mark : Bool)
    → (if mark then chosen ++ peak ∷ [] else chosen) ++ marked marks later ≡ chosen
    ++ marked (mark ∷ marks) (peak ∷ later)
marked_more chosen peak marks later true = append_assoc chosen (peak ∷ []) (marked marks later)
marked_more chosen peak marks later false = refl

chosen_from-marked : (choice : Choice) (precursor : ℕ) (chosen ranked : List PeakValue)
    → chosen_from choice precursor chosen ranked ≡ chosen ++ marked (marks_from choice precursor chosen ranked) ranked
chosen_from-marked choice precursor chosen [] = sym (append-nil chosen)
chosen_from-marked choice precursor chosen (peak ∷ later) =
    let more = chosen_with choice precursor chosen peak in
    chosen_from-marked choice precursor more later
    ∙ marked_more chosen peak (marks_from choice precursor more later) later
    (is_chosen choice precursor chosen peak)

mark_at : (choice : Choice) (precursor : ℕ) (chosen ranked : List PeakValue) (place : ℕ) (peak : PeakValue)
    → slice_get ranked place ≡ Some peak
    → slice_index_or (marks_from choice precursor chosen ranked) place false
    ≡ is_chosen choice precursor (chosen ++ marked (take place (marks_from choice precursor chosen ranked)) ranked) peak
mark_at choice precursor chosen [] place peak there = cc
mark_at choice precursor chosen (first ∷ later) zero peak there =
    let same : first ≡ peak = cc in
    ap (λ p. is_chosen choice precursor chosen p) same
    ∙ ap (λ earlier. is_chosen choice precursor earlier peak) (sym (append-nil chosen))
mark_at choice precursor chosen (first ∷ later) (suc place) peak there =
    let more = chosen_with choice precursor chosen first in
    mark_at choice precursor more later place peak there
    ∙ ap (λ earlier. is_chosen choice precursor earlier peak)
    (marked_more chosen first (take place (marks_from choice precursor more later)) later
    (is_chosen choice precursor chosen first))

-- the chosen ones of the ranked peaks, by falling m/z, are the selected ones
pub selected_from_chosen : (choice : Choice) (precursor : ℕ) (peaks ranked selected : List PeakValue)
    → IsPermutation (filter has_intensity peaks) ranked → IsSorted rank_cmp ranked
    → IsPermutation (chosen_from choice precursor [] ranked) selected → IsSorted falling_cmp selected
    → Selected choice precursor peaks selected
selected_from_chosen choice precursor peaks ranked selected same_peaks in_order same_chosen falling = record {
  ranked = ranked;
  marks = marks_from choice precursor [] ranked;
  same_peaks = same_peaks;
  in_order = in_order;
  one_each = length-marks_from choice precursor [] ranked;
  marks_right = λ place peak there.
      rw (mark_at choice precursor [] ranked place peak there)
      (Decides-is_chosen choice precursor (marked (take place (marks_from choice precursor [] ranked)) ranked) peak);
  same_marked = rw (← chosen_from-marked choice precursor [] ranked) same_chosen;
  falling = falling;
}
