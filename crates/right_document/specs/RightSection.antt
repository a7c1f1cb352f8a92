-- Which section of a document is right for a spectrum.
use Rattle.std.specs.Prelude.{◌≡◌, ◌≤◌, ◌<◌, ℕ, List, map, ⊤}
use Rattle.std.specs.List.{All, AllPairs}
use Rattle.std.specs.List.Sorted.{IsPermutation}
use Rattle.std.specs.declared.cmp.Ordering.TheVariants.{Less}
use Rattle.tree_entry.specs.EntryIsRight.{EntryIsRight}
use Rattle.colour_graph.specs.Bounded.{IsBounded}
use Rattle.colour_graph.specs.EdgeSet.{all_edges}
use Rattle.colour_graph.specs.Graph.{greatest_graph}
use Rattle.element_table.specs.FormulaList.{FormulaListValue}
use Rattle.loss_graph.specs.Lists.{list_at, window_at}
use Rattle.loss_graph.specs.LossGraph.{error_of}
use Rattle.mgf_reader.specs.Spectrum.{SpectrumValue}
use Rattle.tree_entry.specs.Rank.{rank_cmp}
use Rattle.tree_document.specs.declared.document.Body.{Body}
use Rattle.tree_document.specs.declared.document.Body.TheVariants.{Skipped, Solved}
use Rattle.tree_document.specs.declared.document.Section.{Section}
use Rattle.tree_document.specs.declared.document.Solved.{Solved as SolvedRead}
use Rattle.tree_document.specs.declared.entry.Entry.{Entry}
use Rattle.tree_document.specs.declared.entry.Outcome.{Outcome}
use Rattle.tree_document.specs.declared.entry.Outcome.TheVariants.{Tree, TooLarge}
use Rattle.right_document.specs.Candidates.{candidates_of, graph_of, ion_of, vertex_count_of}
use Rattle.tree_document.specs.Outline.{OutlineValue, listed, skipped}
use Rattle.right_document.specs.Outlined.{IsOutlined}
use Rattle.right_document.specs.SolveSettings.{SolveSettingsValue}

-- how far the mass of a candidate's ion is from the centre of the precursor's window
abbrev pub ErrorIsRight : SolveSettingsValue → List FormulaListValue → Entry → Type 0
ErrorIsRight settings lists entry =
    entry.error ≡ error_of (window_at settings.listing.choice (list_at lists 0)) (ion_of settings entry.candidate)

-- a tree stands where the graph of the candidate is not too large, and else its number of vertices
abbrev pub SizeIsRight : SolveSettingsValue → List FormulaListValue → List ℕ → Outcome → Type 0
SizeIsRight settings lists candidate (Tree tree) = vertex_count_of settings lists candidate ≤ greatest_graph
SizeIsRight settings lists candidate (TooLarge vertices) =
    (greatest_graph < vertices) × (vertices ≡ vertex_count_of settings lists candidate)

-- a tree is right for the graph of the candidate, of which no colourful tree scores more than its upper bound
abbrev pub TreeIsRight : SolveSettingsValue → List FormulaListValue → List ℕ → Outcome → Type 0
TreeIsRight settings lists candidate (Tree tree) =
    EntryIsRight (graph_of settings lists candidate) tree settings.budget
    × IsBounded (graph_of settings lists candidate).graph (all_edges (graph_of settings lists candidate).graph)
    tree.upper
TreeIsRight settings lists candidate (TooLarge vertices) = ⊤

-- what is found for a candidate
abbrev pub OutcomeIsRight : SolveSettingsValue → List FormulaListValue → List ℕ → Outcome → Type 0
OutcomeIsRight settings lists candidate outcome =
    SizeIsRight settings lists candidate outcome × TreeIsRight settings lists candidate outcome

-- the entry of a candidate
pub record IsRightEntry (settings : SolveSettingsValue) (lists : List FormulaListValue) (entry : Entry) : Type 0 where
  pub error : ErrorIsRight settings lists entry
  pub outcome : OutcomeIsRight settings lists entry.candidate entry.outcome

-- the lists of a spectrum, and one right entry for each of its candidates, by rank
pub record SolvedIsRight (settings : SolveSettingsValue) (lists : List FormulaListValue) (solved : SolvedRead)
    : Type 0 where
  pub own_lists : solved.lists ≡ lists
  pub candidates : IsPermutation (candidates_of settings (list_at lists 0).formulas)
      (map (λ entry. entry.candidate) solved.entries)
  pub entries : All (IsRightEntry settings lists) solved.entries
  pub ranked : AllPairs (λ one later. rank_cmp one later ≡ Less) solved.entries

-- what stands of a spectrum with this outline
abbrev pub BodyIsRight : SolveSettingsValue → OutlineValue → Body → Type 0
BodyIsRight settings (skipped reason) (Skipped told) = told ≡ reason
BodyIsRight settings (listed lists) (Solved solved) = SolvedIsRight settings lists solved
BodyIsRight settings outline body = ⊥

-- The section is right for the spectrum: its line, its title and its outline are those that a list tells, and the body
-- is right for the outline.
pub record SectionIsRight (settings : SolveSettingsValue) (spectrum : SpectrumValue) (section : Section) : Type 0 where
  pub outline : OutlineValue
  pub outlined : IsOutlined settings.listing spectrum
      (record { line = section.line; title = section.title; outline = outline })
  pub body : BodyIsRight settings outline section.body
