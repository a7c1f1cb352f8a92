use Rattle.std.proofs.Common.{◌<◌, ◌≤◌, ◌∙◌, ap, arith, length, subst}
use Rattle.std.proofs.lemmas.List.Sorted.{All-permutation}
use Rattle.std.specs.List.{All}
use Rattle.element_table.specs.Formula.{IsFormula}
use Rattle.element_table.specs.FormulaList.{FormulaListValue}
use Rattle.loss_graph.specs.Lists.{greatest_lists, list_at}
use Rattle.tree_document.specs.Document.{AreGoodLines, entry_lines}
use Rattle.right_document.specs.SettingsOf.{solve_settings_value_of}
use Rattle.solve_command.proofs.GoodSections.{entries-few, solved_is_good}
use Rattle.right_document.proofs.CandidatesOf.{candidates_of_read, graphs_stand}
use Rattle.solve_command.proofs.SolvedIsRight.{solved_is_right}
use Rattle.solve_command.proofs.section.solved_of.Goals as goal

pub entries_of-requires-clause-lists : goal.entries_of-requires-clause-lists
entries_of-requires-clause-lists g c =
    let settings = solve_settings_value_of c.args.settings.now in
    let few : length c.args.lists.items < greatest_lists = omega (arith, c.requires.few) in
    rw c.deref.ensures.value
    (graphs_stand settings c.args.lists.items c.requires.own c.deref-2.result.now
    (c.deref-2.ensures.value
    ∙ candidates_of_read settings c.args.lists.items c.requires.own c.index.result.now c.items.result.now _
    c.index.ensures
    (c.items.ensures.items ∙ ap (λ (list : FormulaListValue). list.formulas) c.behind-lists.view_is)
    c.in_ok-candidates.ensures) few)

pub returns-clause-right : goal.returns-clause-right
returns-clause-right g c =
    let settings = solve_settings_value_of c.args.settings.now in
    solved_is_right settings c.args.lists.items c.requires.own c.deref-2.result.now c.in_ok-entries.entries.items
    (record { lists = c.of.result; entries = c.of-2.result }) c.ranked_entries_rise.ensures
    (c.deref-2.ensures.value
    ∙ candidates_of_read settings c.args.lists.items c.requires.own c.index.result.now c.items.result.now _
    c.index.ensures
    (c.items.ensures.items ∙ ap (λ (list : FormulaListValue). list.formulas) c.behind-lists.view_is)
    c.in_ok-candidates.ensures)
    c.in_ok-entries.ensures.candidates (rw (← c.deref.ensures.value) c.in_ok-entries.ensures.right) c.of.ensures
    (rw c.of-2.ensures c.in_ok-rank.ensures.same) (rw c.of-2.ensures c.in_ok-rank.ensures.ranked)

pub returns-clause-good : goal.returns-clause-good
returns-clause-good g c =
    let settings = solve_settings_value_of c.args.settings.now in
    let lists = c.args.lists.items in
    let right = returns-clause-right g c in
    let formulas : All (λ list. All IsFormula list.formulas) lists =
    subst (All (λ (list : FormulaListValue). All IsFormula list.formulas)) c.deref-3.ensures.value
    c.are_formulas.ensures in
    let few : length c.of-2.result ≤ 20000 =
    entries-few settings (list_at lists 0).formulas c.of-2.result right.candidates
    (c.requires.own.each 0 _ c.requires.own.some).few in
    solved_is_good settings.listing.choice (record { lists = c.of.result; entries = c.of-2.result })
    (rw c.of.ensures c.requires.own.some) (omega (arith, ap length c.of.ensures, c.requires.few))
    (rw c.of.ensures c.requires.own.each)
    (rw c.of.ensures formulas) few
    (rw c.of-2.ensures (All-permutation (λ entry. AreGoodLines (entry_lines entry)) c.in_ok-entries.entries.items _
    c.in_ok-rank.ensures.same
    c.in_ok-entries.ensures.good))
