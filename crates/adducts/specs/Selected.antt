-- The peaks of a spectrum that are selected.
use Rattle.std.specs.Prelude.{◌≡◌, ◌≤◌, ◌<◌, ◌↔◌, ℕ, Bool, true, false, IsTrue, List, [], ◌∷◌}
use Rattle.std.specs.Prelude.{Some, length, nat_lt, slice_get, slice_index_or, take}
use Rattle.std.specs.List.{All, AllByRecursion, AllPairs, Contains, filter}
use Rattle.std.specs.List.Sorted.{IsPermutation, IsSorted}
use Rattle.std.specs.Ordering.{nat_cmp, ordering_then}
use Rattle.std.specs.declared.cmp.Ordering.{Ordering}
use Rattle.element_table.specs.Window.{InInterval}
use Rattle.mgf_reader.specs.Spectrum.{PeakValue}
use Rattle.adducts.specs.declared.choice.Choice.{Choice}

abbrev pub has_intensity : PeakValue → Bool
has_intensity peak = nat_lt 0 peak.intensity

-- The order in which peaks are looked at: intensity falling, then m/z rising, then line rising.
abbrev pub rank_cmp : PeakValue → PeakValue → Ordering
rank_cmp one other =
    ordering_then (ordering_then (nat_cmp other.intensity one.intensity) (nat_cmp one.mz other.mz))
    (nat_cmp one.line other.line)

-- m/z falling
abbrev pub falling_cmp : PeakValue → PeakValue → Ordering
falling_cmp one other = nat_cmp other.mz one.mz

-- the interval of one m/z lies wholly below that of another: each of its numbers is less than each of the other's
abbrev pub LiesBelow : Choice → ℕ → ℕ → Type 0
LiesBelow choice low high =
    (n m : ℕ) → InInterval choice.ppm choice.abs low n → InInterval choice.ppm choice.abs high m → n < m

-- the intervals of two m/z share no number
abbrev pub AreApart : Choice → ℕ → ℕ → Type 0
AreApart choice one other =
    (n : ℕ) → InInterval choice.ppm choice.abs one n → InInterval choice.ppm choice.abs other n → ⊥

-- when a peak is selected, after the earlier ones that are
pub record IsSelectable (choice : Choice) (precursor : ℕ) (earlier : List PeakValue) (peak : PeakValue) : Type 0 where
  pub below : LiesBelow choice peak.mz precursor
  pub apart : AllByRecursion (λ other. AreApart choice peak.mz other.mz) earlier
  pub room : length earlier < choice.peaks

-- the peaks that have a mark
abbrev pub marked : List Bool → List PeakValue → List PeakValue
marked (true ∷ marks) (peak ∷ peaks) = peak ∷ marked marks peaks
marked (false ∷ marks) (peak ∷ peaks) = marked marks peaks
marked marks peaks = []

-- The selected peaks: of the peaks that have an intensity, in their order, those are marked that are selectable after
-- the marked ones before them; these are the selected ones, by falling m/z.
pub record Selected (choice : Choice) (precursor : ℕ) (peaks selected : List PeakValue) : Type 0 where
  pub ranked : List PeakValue
  pub marks : List Bool
  pub same_peaks : IsPermutation (filter has_intensity peaks) ranked
  pub in_order : IsSorted rank_cmp ranked
  pub one_each : length marks ≡ length ranked
  pub marks_right : (place : ℕ) (peak : PeakValue) → slice_get ranked place ≡ Some peak
      → IsTrue (slice_index_or marks place false)
      ↔ IsSelectable choice precursor (marked (take place marks) ranked) peak
  pub same_marked : IsPermutation (marked marks ranked) selected
  pub falling : IsSorted falling_cmp selected

-- What the selected peaks are to one another, to the precursor and to the peaks of their spectrum.
pub record StandApart (choice : Choice) (precursor : ℕ) (peaks selected : List PeakValue) : Type 0 where
  pub falling : AllPairs (λ one later. later.mz < one.mz) selected
  pub apart : AllPairs (λ one later. AreApart choice one.mz later.mz) selected
  pub below : All (λ peak. LiesBelow choice peak.mz precursor) selected
  pub intense : All (λ peak. 0 < peak.intensity) selected
  pub own : All (Contains peaks) selected
  pub few : length selected ≤ choice.peaks
