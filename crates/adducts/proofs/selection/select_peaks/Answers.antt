use Rattle.std.proofs.Common.{◌≡◌, ◌∙◌, List, [], Some, ap, rules, subst}
use Rattle.std.specs.List.{filter}
use Rattle.std.specs.List.Sorted.{IsPermutation}
use Rattle.std.proofs.lemmas.List.Sorted.{answers_always}
use Rattle.mgf_reader.specs.Spectrum.{PeakValue}
use Rattle.adducts.specs.inside.Choosing.{chosen_from}
use Rattle.adducts.specs.Selected.{has_intensity}
use Rattle.adducts.proofs.Marking.{selected_from_chosen}
use Rattle.adducts.proofs.Standing.{stand_apart}
use Rattle.adducts.proofs.Usables.{precursor_of_usable}
use Rattle.adducts.proofs.selection.select_peaks.Goals as goal

pub returns-clause-selected : goal.returns-clause-selected
returns-clause-selected c mz usable =
    let precursor : c.args.spectrum.now.precursor ≡ Some mz =
    precursor_of_usable c.args.spectrum.now c.args.choice.now mz usable in
    let inside : c.spectrum.inside.precursor ≡ c.args.spectrum.now.precursor =
    ap (λ spectrum. spectrum.precursor) c.spectrum.view_is in
    let same : c.in-Some.precursor ≡ mz = cc in
    let peaks : c.items.result.now ≡ c.args.spectrum.now.peaks =
    c.items.ensures ∙ ap (λ spectrum. spectrum.peaks) c.spectrum.view_is in
    let chosen : c.in_ok-selected.selected.items ≡ chosen_from c.args.choice.now mz [] c.in_ok-ranked.ranked.items =
    c.in_ok-selected.ensures ∙ ap (λ p. chosen_from c.args.choice.now p [] c.deref.result.now) same
    ∙ ap (λ ranked. chosen_from c.args.choice.now mz [] ranked) c.deref.ensures.value
    in
    selected_from_chosen c.args.choice.now mz c.args.spectrum.now.peaks c.in_ok-ranked.ranked.items
    c.sort_unstable_by_key.new.self.items
    (subst (λ (peaks : List PeakValue). IsPermutation (filter has_intensity peaks) c.in_ok-ranked.ranked.items) peaks
    c.in_ok-ranked.ensures.same_peaks)
    c.in_ok-ranked.ensures.in_order
    (subst (λ (peaks : List PeakValue). IsPermutation peaks c.sort_unstable_by_key.new.self.items) chosen
    c.sort_unstable_by_key.ensures.permutation)
    (c.sort_unstable_by_key.ensures.sorted (λ (peak : PeakValue). record { 0 = peak.mz })
    (answers_always _ _ _ (λ f a r g h. search rules)))

pub returns-clause-stand_apart : goal.returns-clause-stand_apart
returns-clause-stand_apart c mz usable =
    stand_apart c.args.choice.now mz c.args.spectrum.now.peaks c.sort_unstable_by_key.new.self.items
    (returns-clause-selected c mz usable)

pub returns-clause-below : goal.returns-clause-below
returns-clause-below c mz usable =
    (stand_apart c.args.choice.now mz c.args.spectrum.now.peaks c.sort_unstable_by_key.new.self.items
    (returns-clause-selected c mz usable)).below
