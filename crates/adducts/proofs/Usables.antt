-- Of IsUsable: a spectrum that can be used has a precursor.
use Rattle.std.proofs.Common.{◌≡◌, ℕ, Bool, true, false, Option, Some, None, ap, if◌then◌else◌}
use Rattle.std.specs.Option.{option_map_or}
use Rattle.mgf_reader.specs.Spectrum.{SpectrumValue}
use Rattle.adducts.specs.Fit.{IsUsable, fit_at, fit_of}
use Rattle.adducts.specs.declared.choice.Choice.{Choice}
use Rattle.adducts.specs.declared.outcome.Fit.TheVariants.{NoPrecursor, Charge, Range, Usable}

same_mz : (fits in_range : Bool) (p mz : ℕ)
    → (if fits then (if in_range then Usable p else Range p) else Charge) ≡ Usable mz → p ≡ mz
same_mz true true p mz is = cc
same_mz true false p mz is = cc
same_mz false in_range p mz is = cc

pub precursor_of_usable : (spectrum : SpectrumValue) (choice : Choice) (mz : ℕ) → fit_of spectrum choice ≡ Usable mz
    → spectrum.precursor ≡ Some mz
precursor_of_usable spectrum choice mz is = by_precursor spectrum.precursor is
  where
    by_precursor : (precursor : Option ℕ) → option_map_or (fit_at spectrum choice) precursor NoPrecursor ≡ Usable mz
        → precursor ≡ Some mz
    by_precursor None is = cc
    by_precursor (Some p) is = ap Some (same_mz _ _ p mz is)

pub no_use_without_precursor : (spectrum : SpectrumValue) (choice : Choice) → spectrum.precursor ≡ None
    → IsUsable (fit_of spectrum choice) → ⊥
no_use_without_precursor spectrum choice none usable = by_precursor spectrum.precursor none usable
  where
    by_precursor : (precursor : Option ℕ) → precursor ≡ None
        → IsUsable (option_map_or (fit_at spectrum choice) precursor NoPrecursor) → ⊥
    by_precursor None none usable = usable
    by_precursor (Some p) none usable = cc
