use Rattle.std.proofs.Common.{◌≤◌, ◌^◌, ◌∙◌, List, arith, sym, subst}
use Rattle.std.specs.List.{All}
use Rattle.std.specs.Option.{ForSome}
use Rattle.mgf_reader.specs.Spectrum.{PeakValue, SpectrumValue}
use Rattle.adducts.specs.Selected.{LiesBelow}
use Rattle.right_document.proofs.LiesBelow.{less_from_below}
use Rattle.right_document.proofs.GoodReasons.{range_is_good, range-measured}
use Rattle.right_document.proofs.outline.read_outline.Goals as goal

pub explain-requires-clause-below : goal.explain-requires-clause-below
explain-requires-clause-below g c k d h =
    let below = subst (λ (peaks : List PeakValue). All
    (λ peak. LiesBelow c.args.settings.now.choice peak.mz c.in-Usable.mz) peaks) (sym c.deref.ensures.value)
    (c.in_ok-selected-in-Usable.ensures.below c.in-Usable.mz (sym c.fit.ensures.fit ∙ c.in-Usable.is)) in
    omega (arith, less_from_below c.args.settings.now.choice _ c.in-Usable.mz (below k d h))

pub returns-in-Range-clause-reason : goal.returns-in-Range-clause-reason
returns-in-Range-clause-reason g c =
    range_is_good c.in-Range.mz
    (range-measured c.args.spectrum.now c.args.settings.now.choice c.in-Range.mz (sym c.fit.ensures.fit ∙ c.in-Range.is)
    (subst (λ (spectrum : SpectrumValue). ForSome spectrum.precursor (λ mz. mz ≤ 10 ^ 18)) c.spectrum.view_is
    c.spectrum.invariant))
