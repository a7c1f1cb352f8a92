-- What a text holds, as plain values.
use Rattle.std.specs.Prelude.{ℕ, List, Option}
use Rattle.mgf_reader.specs.declared.spectrum.Charge.{Charge}

-- the scale of m/z, which is given in units of 10 ^ -7
abbrev pub mz_scale : ℕ
mz_scale = 7

-- the scale of intensities, which are given in units of 10 ^ -6
abbrev pub intensity_scale : ℕ
intensity_scale = 6

-- a peak: its m/z and its intensity in their units, and its line in the text
pub record PeakValue : Type 0 where
  pub mz : ℕ
  pub intensity : ℕ
  pub line : ℕ

-- a spectrum: the line of its begin line, its title, the m/z of its precursor, its charges and its peaks
pub record SpectrumValue : Type 0 where
  pub line : ℕ
  pub title : List ℕ
  pub precursor : Option ℕ
  pub charges : List Charge
  pub peaks : List PeakValue
