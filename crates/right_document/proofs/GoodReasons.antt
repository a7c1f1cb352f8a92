-- `IsGoodLine`: the lines that say why a spectrum is skipped, and that of an ending.
use Rattle.std.proofs.Common.{◌≡◌, ◌≤◌, ◌^◌, ℕ, Bool, true, false, cond, Option, Some}
use Rattle.std.proofs.Common.{None, refl, ap, arith}
use Rattle.std.specs.Option.{ForSome, option_map_or}
use Rattle.adducts.specs.Charges.{charges_fit}
use Rattle.adducts.specs.Fit.{fit_at, fit_of, is_in_range}
use Rattle.adducts.specs.declared.choice.Choice.{Choice}
use Rattle.adducts.specs.declared.outcome.Fit.TheVariants as Found
use Rattle.mgf_reader.specs.Spectrum.{SpectrumValue}
use Rattle.mgf_reader.specs.Fault.{kind_number}
use Rattle.mgf_reader.specs.declared.fault.MgfKind.{MgfKind}
use Rattle.tree_document.specs.Document.{IsGoodLine}
use Rattle.tree_document.specs.Line.{refused_line, skip_line}
use Rattle.tree_document.specs.declared.document.Skip.TheVariants.{Range, TooMany}
use Rattle.right_document.proofs.GoodLines.{line_is_good, within}

-- the m/z of a precursor whose mass is out of range is the spectrum's
range_of : (spectrum : SpectrumValue) (choice : Choice) (precursor : Option ℕ) (mz : ℕ)
    → option_map_or (fit_at spectrum choice) precursor Found.NoPrecursor ≡ Found.Range mz → precursor ≡ Some mz
range_of spectrum choice None mz is = cc
range_of spectrum choice (Some n) mz is =
    ap Some (choose (charges_fit choice.adduct.plus spectrum.charges) (is_in_range choice n) is)
  where
    choose : (carried in_range : Bool)
        → cond carried (cond in_range (Found.Usable n) (Found.Range n)) Found.Charge ≡ Found.Range mz → n ≡ mz
    choose true true is = cc
    choose true false is = cc
    choose false in_range is = cc

pub range-measured : (spectrum : SpectrumValue) (choice : Choice) (mz : ℕ) → fit_of spectrum choice ≡ Found.Range mz
    → ForSome spectrum.precursor (λ measured. measured ≤ 10 ^ 18) → mz ≤ 10 ^ 18
range-measured spectrum choice mz is measured = measured mz (range_of spectrum choice spectrum.precursor mz is)

pub range_is_good : (mz : ℕ) → mz ≤ 10 ^ 18 → IsGoodLine (skip_line (Range mz))
range_is_good mz few = line_is_good (skip_line (Range mz)) refl (tt, (within (10 ^ 18) mz few (omega arith), tt))

pub too_many_is_good : (mz : ℕ) → mz ≤ 10 ^ 18 → IsGoodLine (skip_line (TooMany mz))
too_many_is_good mz few = line_is_good (skip_line (TooMany mz)) refl (tt, (within (10 ^ 18) mz few (omega arith), tt))

-- the line of an ending
pub refusal_is_good : (line : ℕ) (kind : MgfKind) → line ≤ 4294967295
    → IsGoodLine (refused_line line (kind_number kind))
refusal_is_good line kind few =
    line_is_good (refused_line line (kind_number kind)) refl
    (tt, (within 4294967295 line few (omega arith), ((kind, refl), tt)))
