-- `IsFinding`: what is found of an outcome over the graph of its candidate, or where that is too large.
use Rattle.std.proofs.Common.{◌≡◌, ◌≤◌, ◌<◌, ◌∙◌, ℕ, List, Result, Ok, Err, arith, refl, subst, sym}
use Rattle.std.specs.Prelude.{IfOk}
use Rattle.colour_graph.specs.Bounded.{IsBounded}
use Rattle.colour_graph.specs.EdgeSet.{all_edges}
use Rattle.colour_graph.specs.Graph.{greatest_graph}
use Rattle.element_table.specs.FormulaList.{FormulaListValue}
use Rattle.entry_checker.specs.EntryPlaces.{IsEntryPlace}
use Rattle.loss_graph.specs.LossGraph.{LossGraphValue}
use Rattle.loss_graph.specs.declared.outcome.GraphFault.{GraphFault}
use Rattle.loss_graph.specs.declared.outcome.GraphFault.TheVariants.{TooLarge, OutOfMemory}
use Rattle.tree_document.specs.declared.entry.Outcome.{Outcome}
use Rattle.tree_document.specs.declared.entry.Outcome.TheVariants as outcome
use Rattle.tree_entry.specs.EntryIsRight.{EntryIsRight}
use Rattle.right_document.specs.Candidates.{graph_of, vertex_count_of}
use Rattle.right_document.specs.SolveSettings.{SolveSettingsValue}
use Rattle.check_command.specs.declared.trees.Finding.{Finding}
use Rattle.check_command.specs.declared.trees.Finding.TheVariants as finding
use Rattle.check_command.specs.inside.CheckAnswers.{IsFinding, IsFindingOver, IsSizeFinding, IsToldFinding}

-- what follows from a fact of each value follows from it of an answer
pub if_ok : {T E : Type 0} (answer : Result T E) {P Q : T → Type 0} → ((value : T) → P value → Q value)
    → IfOk answer P → IfOk answer Q
if_ok (Ok value) then holds = then value holds
if_ok (Err fault) then holds = tt

module _ (settings : SolveSettingsValue) (lists : List FormulaListValue) (candidate : List ℕ) (error : ℕ) where
  pub found_over : (built : LossGraphValue) → built ≡ graph_of settings lists candidate
      → vertex_count_of settings lists candidate ≤ greatest_graph → (told : Outcome) (found : Finding)
      → IsFindingOver built settings.budget told found
      → IsFinding settings lists (record { candidate = candidate; error = error; outcome = told }) found
  found_over built is small (outcome.Tree tree) finding.Right right = (
    small,
    (
      subst (λ graph. EntryIsRight graph tree settings.budget) is right.0,
      subst (λ (graph : LossGraphValue). IsBounded graph.graph (all_edges graph.graph) tree.upper) is right.1,
    ),
  )
  found_over built is small (outcome.Tree tree) (finding.Tree place) wrong =
      (small, subst (λ graph. IsEntryPlace graph tree settings.budget place) is wrong)
  found_over built is small (outcome.Tree tree) finding.Size wrong = absurd wrong
  found_over built is small (outcome.TooLarge told) finding.Size wrong = λ size. omega (arith, small, size.0, size.1)
  found_over built is small (outcome.TooLarge told) finding.Right wrong = absurd wrong
  found_over built is small (outcome.TooLarge told) (finding.Tree place) wrong = absurd wrong

  told_too_large : (vertices : ℕ) → greatest_graph < vertices → vertices ≡ vertex_count_of settings lists candidate
      → (told : Outcome) (found : Finding) → IsToldFinding vertices told found
      → IsFinding settings lists (record { candidate = candidate; error = error; outcome = told }) found
  told_too_large vertices large is (outcome.TooLarge told) finding.Right same =
      ((omega (arith, same, large), sym same ∙ is), tt)
  told_too_large vertices large is (outcome.TooLarge told) finding.Size differs = λ size. differs (is ∙ sym size.1)
  told_too_large vertices large is (outcome.TooLarge told) (finding.Tree place) wrong = absurd wrong
  told_too_large vertices large is (outcome.Tree tree) finding.Size wrong = λ size. omega (arith, large, is, size)
  told_too_large vertices large is (outcome.Tree tree) finding.Right wrong = absurd wrong
  told_too_large vertices large is (outcome.Tree tree) (finding.Tree place) wrong = absurd wrong

  pub found_too_large : (fault : GraphFault)
      → ((n : ℕ) → fault ≡ TooLarge n
      → (greatest_graph < n) × (n ≡ vertex_count_of settings lists candidate))
      → (told : Outcome) (found : Finding) → IsSizeFinding fault told found
      → IsFinding settings lists (record { candidate = candidate; error = error; outcome = told }) found
  found_too_large (TooLarge vertices) large told found size =
      told_too_large vertices (large vertices refl).0 (large vertices refl).1 told found size
  found_too_large OutOfMemory large told found size = absurd size
