use Rattle.std.proofs.Common.{◌<◌, ◌∙◌, ◌++◌, [], ◌∷◌, length, ap, arith, sym, take}
use Rattle.std.specs.List.{flat_map}
use Rattle.std.proofs.lemmas.List.{flat_map_more, take_more}
use Rattle.rank_report.specs.Report.{section_text_of}
use Rattle.rank_report.proofs.report.push_sections.Goals as goal

pub loop-section-preserved : goal.loop-section-preserved
loop-section-preserved c =
    let within : c.loop-section.section-index < length c.args.sections.now = omega arith in
    c.in_ok-push_section.ensures ∙ ap (λ t. t ++ section_text_of c.section-item.result) c.loop-section.invariant
    ∙ flat_map_more section_text_of c.args.text.now.items (take c.loop-section.section-index c.args.sections.now)
    c.section-item.result
    ∙ ap (λ sections. c.args.text.now.items ++ flat_map section_text_of sections)
    (ap (λ last. take c.loop-section.section-index c.args.sections.now ++ last ∷ []) c.section-item.is
    ∙ sym (take_more c.args.sections.now c.loop-section.section-index c.section-item.result within))
