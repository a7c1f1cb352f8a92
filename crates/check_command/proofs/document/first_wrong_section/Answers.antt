use Rattle.std.proofs.Common.{◌∙◌, refl, subst, sym}
use Rattle.std.proofs.lemmas.Option.{none-some, same_Some, slice_get_read}
use Rattle.check_command.specs.CheckPlaces.{IsSectionsPlace}
use Rattle.run_plan.specs.declared.reject.RejectPart.TheVariants as part
use Rattle.check_command.specs.inside.CheckAnswers.{IsSectionAnswer}
use Rattle.right_document.specs.SettingsOf.{solve_settings_value_of}
use Rattle.check_command.proofs.IsSectionsPlace.{compared_more, compared_extra, compared_missing, compared_inside}
use Rattle.check_command.proofs.document.first_wrong_section.Goals as goal
use Rattle.check_command.proofs.document.first_wrong_section.Goals.{in-Some-get+in_ok-part-in-Some-get, in-None}

pub loop-spectrum-preserved : goal.loop-spectrum-preserved
loop-spectrum-preserved g c =
    let settings = solve_settings_value_of c.args.settings.now in
    elim c.match-get.branch [
      | in-Some-get+in_ok-part-in-Some-get w ↦
          (let found = w.in-Some-get.ensures.lookup in
          compared_more settings _ _ _ _ _ _ w.in-Some-get.section.now c.loop-spectrum.invariant c.in-Some.ensures.taken
          (slice_get_read _ _ _ _ refl found.3.0 found.1)
          (subst (IsSectionAnswer settings c.in-Some.spectrum w.in-Some-get.section.now)
          (sym w.part-is ∙ c.in_default-part.is)
          w.in_ok-part-in-Some-get.ensures))
      | in-None w ↦ absurd (none-some _ (sym c.in_default-part.is ∙ w.part-is))
    ]

pub returns-in-Some-part : goal.returns-in-Some-part
returns-in-Some-part g c =
    let settings = solve_settings_value_of c.args.settings.now in
    elim c.match-get.branch [
      | in-Some-get+in_ok-part-in-Some-get w ↦
          (let found = w.in-Some-get.ensures.lookup in
          compared_inside settings _ _ _ _ _ _ w.in-Some-get.section.now _ c.loop-spectrum.invariant
          c.in-Some.ensures.taken
          (slice_get_read _ _ _ _ refl found.3.0 found.1)
          (subst (IsSectionAnswer settings c.in-Some.spectrum w.in-Some-get.section.now)
          (sym w.part-is ∙ c.in-Some-part.is)
          w.in_ok-part-in-Some-get.ensures))
      | in-None w ↦
          subst (IsSectionsPlace settings _ _ _) (same_Some part.Missing _ (sym w.part-is ∙ c.in-Some-part.is))
          (compared_missing settings _ _ _ _ _ _ c.loop-spectrum.invariant c.in-Some.ensures.taken
          w.in-None.ensures.lookup.3)
    ]

pub returns-then-number-sections : goal.returns-then-number-sections
returns-then-number-sections g c =
    compared_extra _ _ _ _ _ c.loop-spectrum.invariant c.in_default.ensures.taken c.if-number-sections.true
