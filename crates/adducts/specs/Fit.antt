-- What a spectrum is fit for under a choice: the first reason against it, or the m/z of its precursor.
use Rattle.std.specs.Prelude.{ℕ, ℤ, pos, int_le, Bool, ◌&&◌, if◌then◌else◌}
use Rattle.std.specs.Option.{option_map_or}
use Rattle.element_table.specs.Window.{window_of}
use Rattle.mgf_reader.specs.Spectrum.{SpectrumValue}
use Rattle.adducts.specs.Charges.{charges_fit}
use Rattle.adducts.specs.declared.choice.Choice.{Choice}
use Rattle.adducts.specs.declared.outcome.Fit.{Fit}
use Rattle.adducts.specs.declared.outcome.Fit.TheVariants.{NoPrecursor, Charge, Range, Usable}

-- A neutral mass that is looked at is at most 2,000 Da.
abbrev pub greatest_neutral_mass : ℤ
greatest_neutral_mass = pos 20000000000

-- whether the centre of the window at an m/z is a neutral mass that is looked at
abbrev pub is_in_range : Choice → ℕ → Bool
is_in_range choice mz =
    let window = window_of choice.adduct.shift choice.ppm choice.abs mz in
    int_le (pos 1) window.centre && int_le window.centre greatest_neutral_mass

-- the same where the precursor has this m/z
abbrev pub fit_at : SpectrumValue → Choice → ℕ → Fit
fit_at spectrum choice mz =
    if charges_fit choice.adduct.plus spectrum.charges then (if is_in_range choice mz then Usable mz else Range mz)
    else Charge

abbrev pub fit_of : SpectrumValue → Choice → Fit
fit_of spectrum choice = option_map_or (fit_at spectrum choice) spectrum.precursor NoPrecursor

-- the spectrum can be used
abbrev pub IsUsable : Fit → Type 0
IsUsable (Usable mz) = Unit {0}
IsUsable _ = ⊥
