-- What every command tells of a spectrum: its line, its title, and its outline. A list tells no more.
use Rattle.std.specs.Prelude.{◌≡◌, ℕ, List}
use Rattle.adducts.specs.Fit.{fit_of}
use Rattle.mgf_reader.specs.Spectrum.{SpectrumValue}
use Rattle.tree_document.specs.Outline.{OutlineValue}
use Rattle.right_document.specs.Outline.{IsOutline}
use Rattle.right_document.specs.RunSettings.{RunSettingsValue}

pub record Outlined : Type 0 where
  pub line : ℕ
  pub title : List ℕ
  pub outline : OutlineValue

-- what is told is the spectrum's
pub record IsOutlined (settings : RunSettingsValue) (spectrum : SpectrumValue) (told : Outlined) : Type 0 where
  pub line : told.line ≡ spectrum.line
  pub title : told.title ≡ spectrum.title
  pub outline : IsOutline settings spectrum.peaks (fit_of spectrum settings.choice) told.outline
