-- `IsSectionsPlace`: the sections that were right so far, and the first place where sections differ.
use Rattle.std.proofs.Common.{◌≡◌, ◌+◌, ◌<◌, ◌≤◌, ◌++◌, ℕ, List, [], ◌∷◌, length, take, slice_get, Option, Some, arith}
use Rattle.std.proofs.Common.{ap, sym, ◌∙◌, refl, subst, length-append, length-take-le, take_all}
use Rattle.std.proofs.lemmas.List.{take_at, take_more, get_or_at}
use Rattle.std.proofs.lemmas.Option.{get_or_from_slice_get, slice_get-get_or, slice_get_within}
use Rattle.mgf_reader.specs.Spectrum.{SpectrumValue}
use Rattle.mgf_reader.specs.declared.fault.MgfFault.{MgfFault}
use Rattle.tree_document.specs.declared.document.Body.{Body}
use Rattle.tree_document.specs.declared.document.Body.TheVariants as body
use Rattle.tree_document.specs.declared.document.Document.{Document}
use Rattle.tree_document.specs.declared.document.Section.{Section}
use Rattle.right_document.specs.OneEach.{OneEach}
use Rattle.tree_document.specs.Outline.{OutlineValue, listed, skipped}
use Rattle.right_document.specs.RightSection.{SectionIsRight}
use Rattle.right_document.specs.SolveSettings.{SolveSettingsValue}
use Rattle.check_command.specs.CheckPlaces.{IsBodyPlace, IsDocumentPlace, IsExtra, IsInSection, IsMissing}
use Rattle.check_command.specs.CheckPlaces.{IsSectionsPlace}
use Rattle.check_command.specs.inside.CheckAnswers.{IsSectionAnswer}
use Rattle.run_plan.specs.declared.reject.RejectPart.{RejectPart}
use Rattle.run_plan.specs.declared.reject.RejectPart.TheVariants as part
use Rattle.right_document.proofs.OneEach.{HandedOut, handed_none, handed_more, handed_all, length-OneEach}

-- The first sections, so many, are right for the spectra that were handed out; the others wait.
pub record Compared (settings : SolveSettingsValue) (all waiting : List SpectrumValue) (sections : List Section)
    (number : ℕ) : Type 0 where
  pub handed : HandedOut (SectionIsRight settings) all waiting (take number sections)
  pub within : number ≤ length sections

pub compared_none : (settings : SolveSettingsValue) (all : List SpectrumValue) (sections : List Section)
    → Compared settings all all sections 0
compared_none settings all sections = record {
  handed = handed_none (SectionIsRight settings) all;
  within = omega arith;
}

pub compared_more : (settings : SolveSettingsValue) (all waiting rest : List SpectrumValue) (sections : List Section)
    (number : ℕ) (spectrum : SpectrumValue) (section : Section)
    → Compared settings all waiting sections number → waiting ≡ spectrum ∷ rest
    → slice_get sections number ≡ Some section
    → SectionIsRight settings spectrum section → Compared settings all rest sections (number + 1)
compared_more settings all waiting rest sections number spectrum section so_far taken is right =
    let inside = slice_get_within sections number section is in
    let one_more : take number sections ++ section ∷ [] ≡ take (number + 1) sections =
    ap (λ (last : Section). take number sections ++ last ∷ [])
    (sym (get_or_from_slice_get sections number section section is))
    ∙ sym (take_more sections number section inside)
    in
    record {
      handed = subst (λ made. HandedOut (SectionIsRight settings) all rest made) one_more
          (handed_more (SectionIsRight settings) all waiting rest (take number sections) spectrum section so_far.handed
          taken right);
      within = omega (arith, inside);
    }

-- how many were handed out
count_out : (settings : SolveSettingsValue) (all waiting : List SpectrumValue) (sections : List Section) (number : ℕ)
    → (so_far : Compared settings all waiting sections number) → length so_far.handed.out ≡ number
count_out settings all waiting sections number so_far =
    sym (length-OneEach (SectionIsRight settings) so_far.handed.out (take number sections) so_far.handed.each)
    ∙ length-take-le number sections so_far.within

pub compared_all : (settings : SolveSettingsValue) (all waiting : List SpectrumValue) (sections : List Section)
    (number : ℕ)
    → Compared settings all waiting sections number → waiting ≡ [] → length sections ≤ number
    → OneEach (SectionIsRight settings) all sections
compared_all settings all waiting sections number so_far none past =
    subst (λ made. OneEach (SectionIsRight settings) all made) (take_all number sections past)
    (handed_all (SectionIsRight settings) all waiting (take number sections) so_far.handed none)

-- no spectrum waits, and there is a further section
pub compared_extra : (settings : SolveSettingsValue) (all waiting : List SpectrumValue) (sections : List Section)
    (number : ℕ) → Compared settings all waiting sections number → waiting ≡ [] → number < length sections
    → IsExtra settings all sections (number + 1)
compared_extra settings all waiting sections number so_far none fewer =
    let each = handed_all (SectionIsRight settings) all waiting (take number sections) so_far.handed none in
    let count : number ≡ length all =
    sym (length-take-le number sections so_far.within) ∙ length-OneEach (SectionIsRight settings) all
    (take number sections) each
    in
    record {
      before = subst (λ n. OneEach (SectionIsRight settings) all (take n sections)) count each;
      more = subst (λ n. n < length sections) count fewer;
      numbered = ap (λ n. n + 1) count;
    }

-- the spectra that were handed out are the first of all
out_is : (settings : SolveSettingsValue) (all waiting : List SpectrumValue) (sections : List Section) (number : ℕ)
    → (so_far : Compared settings all waiting sections number) → take number all ≡ so_far.handed.out
out_is settings all waiting sections number so_far =
    ap (take number) so_far.handed.whole
    ∙ take_at so_far.handed.out waiting number (count_out settings all waiting sections number so_far)

-- a spectrum waits, and there is no further section
pub compared_missing : (settings : SolveSettingsValue) (all waiting rest : List SpectrumValue) (sections : List Section)
    (number : ℕ) (spectrum : SpectrumValue)
    → Compared settings all waiting sections number → waiting ≡ spectrum ∷ rest → length sections ≤ number
    → IsMissing settings all sections (number + 1)
compared_missing settings all waiting rest sections number spectrum so_far taken past =
    let count : number ≡ length sections = omega (arith, so_far.within) in
    let right : OneEach (SectionIsRight settings) (take number all) (take number sections) =
    subst (λ first. OneEach (SectionIsRight settings) first (take number sections))
    (sym (out_is settings all waiting sections number so_far)) so_far.handed.each
    in
    record {
      before = subst (λ n. OneEach (SectionIsRight settings) (take n all) sections) count
          (subst (λ made. OneEach (SectionIsRight settings) (take number all) made)
          (take_all number sections past) right);
      fewer = omega (arith, longer);
      numbered = ap (λ n. n + 1) count;
    }
  where
    longer : number < length all
    longer =
        omega (
          arith,
          count_out settings all waiting sections number so_far,
          ap length so_far.handed.whole,
          length-append so_far.handed.out waiting,
          ap length taken,
        )

-- no part of what stands of one spectrum says that a section is missing, that there is one too many, or that the ending
-- differs
no_missing : (settings : SolveSettingsValue) (outline : OutlineValue) (told : Body)
    → IsBodyPlace settings outline told part.Missing → ⊥
no_missing settings (skipped reason) (body.Skipped told) is = is
no_missing settings (skipped reason) (body.Solved told) is = is
no_missing settings (listed lists) (body.Skipped told) is = is
no_missing settings (listed lists) (body.Solved told) is = is

no_extra : (settings : SolveSettingsValue) (outline : OutlineValue) (told : Body)
    → IsBodyPlace settings outline told part.Extra → ⊥
no_extra settings (skipped reason) (body.Skipped told) is = is
no_extra settings (skipped reason) (body.Solved told) is = is
no_extra settings (listed lists) (body.Skipped told) is = is
no_extra settings (listed lists) (body.Solved told) is = is

no_ending : (settings : SolveSettingsValue) (outline : OutlineValue) (told : Body)
    → IsBodyPlace settings outline told part.Ending → ⊥
no_ending settings (skipped reason) (body.Skipped told) is = is
no_ending settings (skipped reason) (body.Solved told) is = is
no_ending settings (listed lists) (body.Skipped told) is = is
no_ending settings (listed lists) (body.Solved told) is = is

-- the first section that differs, in its first part that differs, is where the sections differ first
in_section : (settings : SolveSettingsValue) (spectra : List SpectrumValue) (sections : List Section) (number : ℕ)
    (place : RejectPart) → IsInSection settings spectra sections number place
    → IsSectionsPlace settings spectra sections number place
in_section settings spectra sections number part.Missing is =
    absurd (no_missing settings is.told.outline is.section.body is.is_place.2)
in_section settings spectra sections number part.Extra is =
    absurd (no_extra settings is.told.outline is.section.body is.is_place.2)
in_section settings spectra sections number part.Spectrum is = is
in_section settings spectra sections number part.Skipped is = is
in_section settings spectra sections number (part.Lists list) is = is
in_section settings spectra sections number part.Candidates is = is
in_section settings spectra sections number (part.Error entry) is = is
in_section settings spectra sections number (part.Outcome entry) is = is
in_section settings spectra sections number (part.Tree entry place) is = is
in_section settings spectra sections number (part.Order entry) is = is
in_section settings spectra sections number part.Ending is = is

-- a spectrum waits, and its section differs in this part
pub compared_inside : (settings : SolveSettingsValue) (all waiting rest : List SpectrumValue) (sections : List Section)
    (number : ℕ) (spectrum : SpectrumValue) (section : Section) (place : RejectPart)
    → Compared settings all waiting sections number → waiting ≡ spectrum ∷ rest
    → slice_get sections number ≡ Some section
    → IsSectionAnswer settings spectrum section (Some place) → IsSectionsPlace settings all sections (number + 1) place
compared_inside settings all waiting rest sections number spectrum section place so_far taken is answer =
    in_section settings all sections (number + 1) place (record {
      earlier = number;
      numbered = refl;
      before = subst (λ first. OneEach (SectionIsRight settings) first (take number sections))
          (sym (out_is settings all waiting sections number so_far)) so_far.handed.each;
      spectrum = spectrum;
      section = section;
      is_spectrum = ap (λ spectra. slice_get spectra number)
          (so_far.handed.whole ∙ ap (λ later. so_far.handed.out ++ later) taken)
          ∙ slice_get-get_or (so_far.handed.out ++ spectrum ∷ rest) number spectrum within
          ∙ ap Some (get_or_at so_far.handed.out spectrum rest spectrum number count);
      is_section = is;
      told = answer.0;
      outlined = answer.1;
      is_place = answer.2;
    })
  where
    count : length so_far.handed.out ≡ number
    count = count_out settings all waiting sections number so_far

    within : number < length (so_far.handed.out ++ spectrum ∷ rest)
    within = omega (arith, count, length-append so_far.handed.out (spectrum ∷ rest))

-- where sections differ first, a document does
pub in_sections : (settings : SolveSettingsValue) (spectra : List SpectrumValue) (fault : Option MgfFault)
    (document : Document) (number : ℕ) (place : RejectPart)
    → IsSectionsPlace settings spectra document.sections number place
    → IsDocumentPlace settings spectra fault document number place
in_sections settings spectra fault document number part.Missing is = is
in_sections settings spectra fault document number part.Extra is = is
in_sections settings spectra fault document number part.Spectrum is = is
in_sections settings spectra fault document number part.Skipped is = is
in_sections settings spectra fault document number (part.Lists list) is = is
in_sections settings spectra fault document number part.Candidates is = is
in_sections settings spectra fault document number (part.Error entry) is = is
in_sections settings spectra fault document number (part.Outcome entry) is = is
in_sections settings spectra fault document number (part.Tree entry place) is = is
in_sections settings spectra fault document number (part.Order entry) is = is
in_sections settings spectra fault document number part.Ending is =
    absurd (no_ending settings is.told.outline is.section.body is.is_place.2)
