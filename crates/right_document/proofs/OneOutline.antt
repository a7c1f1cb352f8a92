-- `IsOutlined`: what is told of a spectrum is one thing.
use Rattle.std.proofs.Common.{◌≡◌, ◌∙◌, sym, ap, List, ℕ}
use Rattle.mgf_reader.specs.Spectrum.{PeakValue, SpectrumValue}
use Rattle.adducts.specs.Fit.{fit_of}
use Rattle.adducts.specs.Selected.{Selected}
use Rattle.adducts.specs.declared.choice.Choice.{Choice}
use Rattle.adducts.specs.declared.outcome.Fit.{Fit}
use Rattle.adducts.specs.declared.outcome.Fit.TheVariants as Found
use Rattle.tree_document.specs.Outline.{OutlineValue}
use Rattle.right_document.specs.Outline.{IsOutline, explained}
use Rattle.right_document.specs.Outlined.{IsOutlined, Outlined}
use Rattle.right_document.specs.RunSettings.{RunSettingsValue}

same_outline : ((choice : Choice) (precursor : ℕ) (peaks one other : List PeakValue)
    → Selected choice precursor peaks one → Selected choice precursor peaks other → one ≡ other)
    → (settings : RunSettingsValue) (peaks : List PeakValue) (fit : Fit) (one other : OutlineValue)
    → IsOutline settings peaks fit one → IsOutline settings peaks fit other → one ≡ other
same_outline selection settings peaks Found.NoPrecursor one other first second = first ∙ sym second
same_outline selection settings peaks Found.Charge one other first second = first ∙ sym second
same_outline selection settings peaks (Found.Range mz) one other first second = first ∙ sym second
same_outline selection settings peaks (Found.Usable mz) one other first second =
    first.2
    ∙ ap (explained settings mz) (selection settings.choice mz peaks first.0 second.0 first.1 second.1)
    ∙ sym second.2

pub same_outlined : ((choice : Choice) (precursor : ℕ) (peaks one other : List PeakValue)
    → Selected choice precursor peaks one → Selected choice precursor peaks other → one ≡ other)
    → (settings : RunSettingsValue) (spectrum : SpectrumValue) (one other : Outlined)
    → IsOutlined settings spectrum one → IsOutlined settings spectrum other → one ≡ other
same_outlined selection settings spectrum one other first second =
    parts one.line other.line one.title other.title one.outline other.outline (first.line ∙ sym second.line)
    (first.title ∙ sym second.title)
    (same_outline selection settings spectrum.peaks (fit_of spectrum settings.choice) one.outline other.outline
    first.outline second.outline)
  where
    told : ℕ → List ℕ → OutlineValue → Outlined
    told line title outline = record { line = line; title = title; outline = outline }

    parts : (line other_line : ℕ) (title other_title : List ℕ) (outline other_outline : OutlineValue)
        → line ≡ other_line → title ≡ other_title → outline ≡ other_outline
        → told line title outline ≡ told other_line other_title other_outline
    parts line other_line title other_title outline other_outline same also too = cc
