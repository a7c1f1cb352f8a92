use Rattle.std.proofs.Common.{refl}
use Rattle.std.proofs.lemmas.Result.{IfOk-weaker}
use Rattle.right_document.specs.Outlined.{Outlined}
use Rattle.check_command.specs.inside.CheckAnswers.{IsBodyAnswer, IsSectionAnswer}
use Rattle.tree_document.specs.Outline.{outline_of}
use Rattle.right_document.specs.SettingsOf.{solve_settings_value_of}
use Rattle.check_command.proofs.IsSectionAnswer.{section_answer}
use Rattle.check_command.proofs.section.section_place.Goals as goal

pub returns-then-not-has_line_and_title : goal.returns-then-not-has_line_and_title
returns-then-not-has_line_and_title g c =
    let spectrum = c.args.spectrum.now in
    let told : Outlined =
    record { line = spectrum.line; title = spectrum.title; outline = outline_of c.in_ok-outline.outline } in (
      told,
      record { line = refl; title = refl; outline = c.in_ok-outline.ensures.outline },
      c.if-not-has_line_and_title.ensures,
    )

pub returns : goal.returns
returns g c =
    let settings = solve_settings_value_of c.args.settings.now in
    let spectrum = c.args.spectrum.now in
    let section = c.args.section.now in
    let outline = outline_of c.in_ok-outline.outline in
    let told : Outlined = record { line = spectrum.line; title = spectrum.title; outline = outline } in
    IfOk-weaker c.body_place.result (IsBodyAnswer settings outline section.body)
    (IsSectionAnswer settings spectrum section)
    (section_answer settings spectrum section told
    (record { line = refl; title = refl; outline = c.in_ok-outline.ensures.outline })
    c.if-not-has_line_and_title.ensures.0 c.if-not-has_line_and_title.ensures.1)
    c.body_place.ensures
