use Rattle.std.proofs.Common.{◌∙◌, ◌+◌, List, length, ap, subst, sym}
use Rattle.tree_document.specs.declared.document.Section.{Section}
use Rattle.check_command.specs.inside.CheckAnswers.{AreSectionsAnswer}
use Rattle.check_command.proofs.IsSectionsPlace.{in_sections}
use Rattle.check_command.proofs.SameEnding.{difference, no_difference}
use Rattle.check_command.proofs.document.comparison.Goals as goal

pub returns-in-Some : goal.returns-in-Some
returns-in-Some c settings text spectra reads answer = (
  spectra,
  c.args.fault,
  reads,
  in_sections settings spectra c.args.fault c.args.document.now c.in-Some.place.section c.in-Some.place.part
      (subst (AreSectionsAnswer settings spectra c.args.document.now.sections) c.in-Some.is answer),
)

pub returns-then-ne : goal.returns-then-ne
returns-then-ne c settings text spectra reads answer = (
  spectra,
  c.args.fault,
  reads,
  record {
    before = subst (AreSectionsAnswer settings spectra c.args.document.now.sections) c.in_default.is answer;
    differs = λ same. difference _ _ _ c.ne.ensures c.if-ne.true (same ∙ sym c.ending_of.ensures.ending);
    numbered = ap (λ (sections : List Section). length sections + 1) c.items-sections.ensures;
  },
)

pub returns : goal.returns
returns c settings text spectra reads answer = (
  record {
    spectra = spectra;
    reads = reads;
    sections = subst (AreSectionsAnswer settings spectra c.args.document.now.sections) c.in_default.is answer;
    ending = no_difference _ _ _ c.ne.ensures c.if-ne.false ∙ c.ending_of.ensures.ending;
  },
  ap (λ (sections : List Section). length sections) c.items-sections.ensures,
)
