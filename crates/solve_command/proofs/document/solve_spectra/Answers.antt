use Rattle.std.proofs.Common.{◌∙◌, ◌++◌, List, ℕ, ap}
use Rattle.std.specs.List.{flat_map}
use Rattle.rank_report.specs.Report.{section_text_of}
use Rattle.right_document.specs.SettingsOf.{solve_settings_value_of}
use Rattle.solve_command.proofs.MadeSections.{parts_are_made}
use Rattle.solve_command.proofs.document.solve_spectra.Goals as goal

pub returns : goal.returns
returns g c text reads =
    let pushed = c.in_ok-push_sections.ensures in
    let ended = c.in_ok-push_endings.ensures in
    let header = c.in_ok-extend_from_slice.ensures.items
    ∙ ap (λ (bytes : List ℕ). bytes ++ c.write_header.result.now) c.new-document.ensures.items ∙ c.write_header.ensures
    in
    let sections = pushed.3
    ∙ ap (λ (bytes : List ℕ). bytes ++ flat_map section_text_of pushed.0) c.new-report.ensures.items
    in
    parts_are_made (solve_settings_value_of c.args.settings.now) text _ c.args.fault pushed.0 _ _ _ _ _
    c.parts_make_the_spelling.ensures reads pushed.1 ended.good header pushed.2 ended.document sections
    ended.report
