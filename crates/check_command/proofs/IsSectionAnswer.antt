-- `IsSectionAnswer`: what is answered of a section with the line and the title of its spectrum is what is answered of
-- its body.
use Rattle.std.proofs.Common.{◌≡◌, ◌∙◌, Option, Some, None}
use Rattle.mgf_reader.specs.Spectrum.{SpectrumValue}
use Rattle.tree_document.specs.declared.document.Body.{Body}
use Rattle.tree_document.specs.declared.document.Body.TheVariants as body
use Rattle.tree_document.specs.declared.document.Section.{Section}
use Rattle.tree_document.specs.Outline.{OutlineValue, listed, skipped}
use Rattle.right_document.specs.Outlined.{IsOutlined, Outlined}
use Rattle.right_document.specs.SolveSettings.{SolveSettingsValue}
use Rattle.check_command.specs.CheckPlaces.{IsBodyPlace, IsSectionPlace}
use Rattle.run_plan.specs.declared.reject.RejectPart.{RejectPart}
use Rattle.run_plan.specs.declared.reject.RejectPart.TheVariants as part
use Rattle.check_command.specs.inside.CheckAnswers.{IsBodyAnswer, IsSectionAnswer}

module _ (settings : SolveSettingsValue) where
  -- what stands of a spectrum does not differ in the spectrum
  not_in_spectrum : (outline : OutlineValue) (told : Body) → IsBodyPlace settings outline told part.Spectrum → ⊥
  not_in_spectrum (skipped reason) (body.Skipped told) is = is
  not_in_spectrum (skipped reason) (body.Solved solved) is = is
  not_in_spectrum (listed lists) (body.Skipped told) is = is
  not_in_spectrum (listed lists) (body.Solved solved) is = is

  place_in_body : (told : Outlined) (section : Section) (place : RejectPart) → section.line ≡ told.line
      → section.title ≡ told.title
      → IsBodyPlace settings told.outline section.body place → IsSectionPlace settings told section place
  place_in_body told section part.Spectrum line title is = absurd (not_in_spectrum told.outline section.body is)
  place_in_body told section other line title is = (line, title, is)

  pub section_answer : (spectrum : SpectrumValue) (section : Section) (told : Outlined)
      → IsOutlined settings.listing spectrum told
      → section.line ≡ told.line → section.title ≡ told.title → (answer : Option RejectPart)
      → IsBodyAnswer settings told.outline section.body answer → IsSectionAnswer settings spectrum section answer
  section_answer spectrum section told outlined line title None right = record {
    outline = told.outline;
    outlined = record { line = line ∙ outlined.line; title = title ∙ outlined.title; outline = outlined.outline };
    body = right;
  }
  section_answer spectrum section told outlined line title (Some place) is =
      (told, outlined, place_in_body told section place line title is)
