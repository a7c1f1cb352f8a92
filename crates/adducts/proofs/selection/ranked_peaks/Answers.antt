use Rattle.std.proofs.Common.{◌≡◌, ◌∙◌, List, ap, rules, subst}
use Rattle.std.specs.List.{filter}
use Rattle.std.specs.List.Sorted.{IsPermutation}
use Rattle.std.proofs.lemmas.Fn.{filter_same}
use Rattle.std.proofs.lemmas.List.Sorted.{answers_always}
use Rattle.mgf_reader.specs.Spectrum.{PeakValue}
use Rattle.adducts.specs.Selected.{has_intensity}
use Rattle.adducts.proofs.selection.ranked_peaks.Goals as goal

pub returns : goal.returns
returns c =
    let kept = filter_same _ has_intensity _ (λ x b f' k. search rules) _ _ c.retain.ensures.filtered in
    let same : c.retain.new.self.items ≡ filter has_intensity c.args.peaks.now =
    kept ∙ ap (filter has_intensity) c.in_ok-ranked.ensures.items in
    record {
      same_peaks =
          subst (λ (peaks : List PeakValue). IsPermutation peaks c.sort_unstable_by_key.new.self.items) same
          c.sort_unstable_by_key.ensures.permutation;
      in_order =
          c.sort_unstable_by_key.ensures.sorted
          (λ (peak : PeakValue). (record { 0 = peak.intensity }, peak.mz, peak.line))
          (answers_always _ _ _ (λ f a r g h. search rules));
    }
