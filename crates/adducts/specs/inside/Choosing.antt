-- How peaks are chosen one after another.
use Rattle.std.specs.Prelude.{ℕ, ◌+◌, ◌-◌, Bool, ◌&&◌, ◌||◌, List, [], ◌∷◌, ◌++◌, length, map, nat_lt, if◌then◌else◌}
use Rattle.std.specs.List.{list_all}
use Rattle.element_table.specs.Window.{half_width_of}
use Rattle.mgf_reader.specs.Spectrum.{PeakValue}
use Rattle.adducts.specs.declared.choice.Choice.{Choice}
use Rattle.adducts.specs.declared.selection.Interval.{Interval}

-- the interval of an m/z: the numbers at most half a window's width away from it
abbrev pub interval_of : Choice → ℕ → Interval
interval_of choice mz =
    record {
      low = mz - half_width_of choice.ppm choice.abs mz;
      high = mz + half_width_of choice.ppm choice.abs mz;
    }

-- whether two intervals share no number
abbrev pub is_apart : Interval → Interval → Bool
is_apart one other = nat_lt one.high other.low || nat_lt other.high one.low

-- whether an interval lies wholly below the precursor's and shares no number with those that are taken
abbrev pub is_free : Interval → Interval → List Interval → Bool
is_free interval precursor taken =
    nat_lt interval.high precursor.low && list_all (λ other. is_apart interval other) taken

-- whether a peak is chosen after those that are
abbrev pub is_chosen : Choice → ℕ → List PeakValue → PeakValue → Bool
is_chosen choice precursor chosen peak =
    nat_lt (length chosen) choice.peaks
    && is_free (interval_of choice peak.mz) (interval_of choice precursor)
    (map (λ other. interval_of choice other.mz) chosen)

-- the chosen peaks, with one more where it is chosen
abbrev pub chosen_with : Choice → ℕ → List PeakValue → PeakValue → List PeakValue
chosen_with choice precursor chosen peak =
    if is_chosen choice precursor chosen peak then chosen ++ peak ∷ [] else chosen

-- the chosen peaks, with those of the later ones that are
abbrev pub chosen_from : Choice → ℕ → List PeakValue → List PeakValue → List PeakValue
chosen_from choice precursor chosen [] = chosen
chosen_from choice precursor chosen (peak ∷ later) =
    chosen_from choice precursor (chosen_with choice precursor chosen peak) later
