use Rattle.std.proofs.Common.{◌≡◌, ◌<◌, ◌∙◌, ◌++◌, [], ◌∷◌, length, ap, arith, rules, sym, take}
use Rattle.std.specs.List.{flat_map}
use Rattle.std.proofs.lemmas.List.{flat_map_more, take_more}
use Rattle.rank_report.specs.JsonReport.{section_json_of}
use Rattle.rank_report.proofs.json_report.push_section_lines.Goals as goal

pub loop-section-preserved : goal.loop-section-preserved
loop-section-preserved c =
    let within : c.loop-section.section-index < length c.args.sections.now = omega arith in
    let added : c.deref.result.now ≡ section_json_of c.section-item.result = search rules in
    c.in_ok-extend_from_slice.ensures.items ∙ ap (λ line. c.loop-section.text.items ++ line) added
    ∙ ap (λ t. t ++ section_json_of c.section-item.result) c.loop-section.invariant
    ∙ flat_map_more section_json_of c.args.text.now.items (take c.loop-section.section-index c.args.sections.now)
    c.section-item.result
    ∙ ap (λ sections. c.args.text.now.items ++ flat_map section_json_of sections)
    (ap (λ last. take c.loop-section.section-index c.args.sections.now ++ last ∷ []) c.section-item.is
    ∙ sym (take_more c.args.sections.now c.loop-section.section-index c.section-item.result within))
