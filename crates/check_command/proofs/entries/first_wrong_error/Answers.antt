use Rattle.std.proofs.Common.{◌∙◌, arith, refl, sym, subst}
use Rattle.std.proofs.lemmas.List.{take_all}
use Rattle.std.proofs.lemmas.List.Elements.{All-more, All-same}
use Rattle.std.proofs.lemmas.Option.{slice_get_read}
use Rattle.loss_graph.specs.Lists.{AreLists}
use Rattle.tree_document.specs.declared.entry.Entry.{Entry}
use Rattle.right_document.specs.Candidates.{ion_of}
use Rattle.right_document.specs.RightSection.{ErrorIsRight}
use Rattle.right_document.specs.SettingsOf.{solve_settings_value_of}
use Rattle.check_command.proofs.entries.first_wrong_error.Goals as goal

pub ion_error-requires : goal.ion_error-requires
ion_error-requires g c =
    let settings = solve_settings_value_of c.args.settings.now in
    subst (λ (entry : Entry). AreLists settings.listing.choice (ion_of settings entry.candidate) c.args.lists.now)
    (sym c.index-entries-place.is)
    (c.requires.lists c.loop-place.place c.index-entries-place.result c.loop-place-test.true)

pub returns-then-entry-ion_error : goal.returns-then-entry-ion_error
returns-then-entry-ion_error g c = record {
  place = c.loop-place.place;
  numbered = refl;
  item = c.index-entries-place.result;
  is_item = slice_get_read c.args.entries.now _ _ c.index-entries-place.result refl c.loop-place-test.true
      c.index-entries-place.is;
  wrong = λ right. c.if-entry-ion_error.true (right ∙ sym c.ion_error.ensures);
  before = c.loop-place.invariant;
}

pub loop-place-preserved : goal.loop-place-preserved
loop-place-preserved g c =
    let Right = ErrorIsRight (solve_settings_value_of c.args.settings.now) c.args.lists.now in
    All-more Right c.args.entries.now c.loop-place.place c.index-entries-place.result c.loop-place-test.true
    c.loop-place.invariant
    (subst Right c.index-entries-place.is (c.if-entry-ion_error.false ∙ c.ion_error.ensures))

pub returns : goal.returns
returns g c =
    let Right = ErrorIsRight (solve_settings_value_of c.args.settings.now) c.args.lists.now in
    All-same Right _ _ (sym (take_all c.loop-place.place c.args.entries.now (omega arith))) c.loop-place.invariant
