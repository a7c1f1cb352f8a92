use Rattle.std.proofs.Common.{◌≡◌, ◌≤◌, ◌+◌, ◌-◌, ℕ, Bool, List, length, ap, arith, subst}
use Rattle.std.proofs.lemmas.List.FromFn.{length-range_with_len}
use Rattle.std.proofs.lemmas.List.Sums.{count_by-le-length, length-filter}
use Rattle.std.specs.List.{range_with_len}
use Rattle.tree_entry.specs.EntryIsRight.{EntryIsRight}
use Rattle.colour_graph.specs.Bounded.{IsBounded}
use Rattle.colour_graph.specs.EdgeSet.{all_edges}
use Rattle.colour_graph.specs.Graph.{colour_count}
use Rattle.element_table.specs.FormulaList.{FormulaListValue}
use Rattle.loss_graph.specs.Lists.{list_at}
use Rattle.loss_graph.specs.LossGraph.{IsLossGraph, LossGraphValue}
use Rattle.loss_graph.specs.Vertices.{has_part, peaks_of}
use Rattle.profile.specs.Profile.{greatest_peaks}
use Rattle.tree_certificate.specs.TableHolds.{greatest_colours}
use Rattle.tree_document.specs.Value.{TreeValue}
use Rattle.right_document.specs.Candidates.{graph_of, ion_of}
use Rattle.right_document.specs.SolveSettings.{SolveSettingsValue}
use Rattle.right_document.specs.SettingsOf.{solve_settings_value_of}
use Rattle.solve_command.proofs.GoodEntries.{peaks-few}
use Rattle.solve_command.proofs.entry.outcome_of.Goals as goal

-- each colour has a list of a peak
few_colours : (root : List ℕ) (lists : List FormulaListValue) (built : LossGraphValue)
    → built.peaks ≡ peaks_of root lists → IsLossGraph built → length lists ≤ greatest_peaks + 1
    → colour_count built.graph ≤ greatest_colours
few_colours root lists built are is few =
    let test : ℕ → Bool = λ number. has_part root (list_at lists number) in
    let numbers = range_with_len 1 (length lists - 1) in
    omega (
      arith,
      is.peaks,
      ap length are,
      length-filter test numbers,
      count_by-le-length test numbers,
      length-range_with_len 1 (length lists - 1),
    )

right_tree : (settings : SolveSettingsValue) (lists : List FormulaListValue) (candidate : List ℕ)
    (built : LossGraphValue)
    (tree : TreeValue) → built ≡ graph_of settings lists candidate
    → EntryIsRight built tree settings.budget → IsBounded built.graph (all_edges built.graph) tree.upper
    → EntryIsRight (graph_of settings lists candidate) tree settings.budget
    × IsBounded (graph_of settings lists candidate).graph (all_edges (graph_of settings lists candidate).graph)
    tree.upper
right_tree settings lists candidate built tree is entry bounded = (
  subst (λ graph. EntryIsRight graph tree settings.budget) is entry,
  subst (λ graph. IsBounded graph.graph (all_edges graph.graph) tree.upper) is bounded,
)

pub best_tree-requires-clause-peaks : goal.best_tree-requires-clause-peaks
best_tree-requires-clause-peaks g c =
    peaks-few greatest_peaks (ion_of (solve_settings_value_of c.args.settings.now) c.args.candidate.now)
    c.args.lists.now
    c.in-Ok.built.peaks
    (ap (λ built. built.peaks) c.in-Ok.ensures.exactly) c.requires.few

pub best_tree-requires-clause-colours : goal.best_tree-requires-clause-colours
best_tree-requires-clause-colours g c =
    few_colours (ion_of (solve_settings_value_of c.args.settings.now) c.args.candidate.now) c.args.lists.now
    c.in-Ok.built
    (ap (λ built. built.peaks) c.in-Ok.ensures.exactly) c.in-Ok.ensures.parts c.requires.few

pub returns-in_ok-best_tree-in-Ok-clause-right : goal.returns-in_ok-best_tree-in-Ok-clause-right
returns-in_ok-best_tree-in-Ok-clause-right g c = (
  c.in-Ok.ensures.small,
  right_tree (solve_settings_value_of c.args.settings.now) c.args.lists.now c.args.candidate.now c.in-Ok.built _
      c.in-Ok.ensures.exactly (c.in_ok-best_tree-in-Ok.ensures.entry c.args.settings.now.budget)
      c.in_ok-best_tree-in-Ok.ensures.bounded,
)
