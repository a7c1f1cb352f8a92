-- What a peak line says.
use Rattle.std.specs.Prelude.{ℕ, List, [], ◌∷◌, Option, Some, None}
use Rattle.std.specs.Option.{option_and_then}
use Rattle.fixed_mass.specs.Units.{readable_units}
use Rattle.mgf_reader.specs.Spectrum.{PeakValue, intensity_scale, mz_scale}

-- the intensity of a peak line without one: 1, in units of 10^-6
abbrev pub default_intensity : ℕ
default_intensity = 1000000

-- the intensity, which is the second field where there is one
abbrev pub intensity_of : List (List ℕ) → Option ℕ
intensity_of [] = Some default_intensity
intensity_of (field ∷ fields) = readable_units intensity_scale field

-- the peak of a line: the first field is the m/z, the second the intensity, and further ones are ignored
abbrev pub peak_of : ℕ → List (List ℕ) → Option PeakValue
peak_of line [] = None
peak_of line (field ∷ fields) =
    option_and_then (λ mz.
    option_and_then (λ intensity. Some (record { mz = mz; intensity = intensity; line = line })) (intensity_of fields))
    (readable_units mz_scale field)
