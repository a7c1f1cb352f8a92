use Rattle.std.proofs.Common.{◌∙◌, ◌<◌, ap, arith, length, refl, subst, sym}
use Rattle.std.specs.List.{AllPairs}
use Rattle.element_table.specs.FormulaList.{FormulaListValue}
use Rattle.loss_graph.specs.Lists.{greatest_lists, list_at}
use Rattle.right_document.specs.SettingsOf.{solve_settings_value_of}
use Rattle.check_command.proofs.CandidatesFit.{entries_few, entries_stand}
use Rattle.right_document.proofs.CandidatesOf.{IsBelow, candidates_of_read, candidates_rise}
use Rattle.check_command.proofs.entries.are_of_candidates.Goals as goal

pub are_candidates-requires : goal.are_candidates-requires
are_candidates-requires g c =
    let settings = solve_settings_value_of c.args.settings.now in
    let lists = c.args.lists.now in
    let are = c.deref.ensures.value
    ∙ candidates_of_read settings lists c.requires.own c.index-lists-0.result c.items.result.now _ c.index-lists-0.is
    (c.items.ensures.items ∙ ap (λ (list : FormulaListValue). list.formulas) c.precursor.view_is) c.in_ok-right.ensures
    in
    record {
      rising = subst (AllPairs IsBelow) (sym are)
          (candidates_rise settings (list_at lists 0).formulas (c.requires.own.each 0 _ c.requires.own.some).rising);
    }

pub returns-clause-all : goal.returns-clause-all
returns-clause-all g c =
    rw (c.deref.ensures.value
    ∙ candidates_of_read (solve_settings_value_of c.args.settings.now) c.args.lists.now c.requires.own
    c.index-lists-0.result
    c.items.result.now _ c.index-lists-0.is
    (c.items.ensures.items ∙ ap (λ (list : FormulaListValue). list.formulas) c.precursor.view_is) c.in_ok-right.ensures)
    at c.are_candidates.ensures

pub returns-clause-few : goal.returns-clause-few
returns-clause-few g c is =
    let told = rw is at (returns-clause-all g c) in
    entries_few (solve_settings_value_of c.args.settings.now) c.args.lists.now c.requires.own c.args.entries.now
    (told.0 refl)

pub returns-clause-lists : goal.returns-clause-lists
returns-clause-lists g c is =
    let told = rw is at (returns-clause-all g c) in
    let fewer : length c.args.lists.now < greatest_lists = omega (arith, c.requires.own.few, c.requires.peaks) in
    entries_stand (solve_settings_value_of c.args.settings.now) c.args.lists.now c.requires.own c.args.entries.now
    (told.0 refl) fewer
