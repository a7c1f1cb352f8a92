-- What is answered of the parts of a section as a document is checked.
use Rattle.std.specs.Prelude.{◌≡◌, ◌≢◌, ℕ, List, Option, Some, None, ⊤}
use Rattle.std.specs.List.{All}
use Rattle.colour_graph.specs.Bounded.{IsBounded}
use Rattle.colour_graph.specs.EdgeSet.{all_edges}
use Rattle.element_table.specs.FormulaList.{FormulaListValue}
use Rattle.entry_checker.specs.EntryPlaces.{IsEntryPlace}
use Rattle.loss_graph.specs.LossGraph.{LossGraphValue}
use Rattle.loss_graph.specs.declared.outcome.GraphFault.{GraphFault}
use Rattle.loss_graph.specs.declared.outcome.GraphFault.TheVariants.{TooLarge, OutOfMemory}
use Rattle.mgf_reader.specs.Spectrum.{SpectrumValue}
use Rattle.tree_document.specs.declared.document.Body.{Body}
use Rattle.tree_document.specs.declared.document.Section.{Section}
use Rattle.tree_document.specs.declared.document.Solved.{Solved}
use Rattle.tree_document.specs.declared.entry.Entry.{Entry}
use Rattle.tree_document.specs.declared.entry.Outcome.{Outcome}
use Rattle.tree_document.specs.declared.entry.Outcome.TheVariants as outcome
use Rattle.tree_entry.specs.EntryIsRight.{EntryIsRight}
use Rattle.right_document.specs.OneEach.{OneEach}
use Rattle.tree_document.specs.Outline.{OutlineValue}
use Rattle.right_document.specs.Outlined.{IsOutlined, Outlined}
use Rattle.right_document.specs.RightSection.{BodyIsRight, OutcomeIsRight, SectionIsRight, SizeIsRight, SolvedIsRight}
use Rattle.right_document.specs.SolveSettings.{SolveSettingsValue}
use Rattle.check_command.specs.CheckPlaces.{IsBodyPlace, IsFirstWrong, IsPlaceIn}
use Rattle.check_command.specs.CheckPlaces.{IsSectionPlace, IsSectionsPlace, IsSolvedPlace, IsTreePlace}
use Rattle.check_command.specs.declared.trees.Finding.{Finding}
use Rattle.check_command.specs.declared.trees.Finding.TheVariants as finding
use Rattle.run_plan.specs.declared.reject.RejectPart.{RejectPart}
use Rattle.run_plan.specs.declared.reject.RejectPart.TheVariants as part
use Rattle.run_plan.specs.declared.reject.RejectPlace.{RejectPlace}

-- what is found of one entry
abbrev pub IsFinding : SolveSettingsValue → List FormulaListValue → Entry → Finding → Type 0
IsFinding settings lists entry finding.Right = OutcomeIsRight settings lists entry.candidate entry.outcome
IsFinding settings lists entry finding.Size = ¬ (SizeIsRight settings lists entry.candidate entry.outcome)
IsFinding settings lists entry (finding.Tree place) = SizeIsRight settings lists entry.candidate entry.outcome
    × IsPlaceIn settings lists entry.candidate entry.outcome place

-- what is found of an outcome over a graph that is not too large
abbrev pub IsFindingOver : LossGraphValue → ℕ → Outcome → Finding → Type 0
IsFindingOver built budget (outcome.Tree tree) finding.Right =
    EntryIsRight built tree budget × IsBounded built.graph (all_edges built.graph) tree.upper
IsFindingOver built budget (outcome.Tree tree) (finding.Tree place) = IsEntryPlace built tree budget place
IsFindingOver built budget (outcome.TooLarge told) finding.Size = ⊤
IsFindingOver built budget outcome finding = ⊥

-- what is found of an outcome where a graph has so many vertices, too many for a tree
abbrev pub IsToldFinding : ℕ → Outcome → Finding → Type 0
IsToldFinding vertices (outcome.TooLarge told) finding.Right = vertices ≡ told
IsToldFinding vertices (outcome.TooLarge told) finding.Size = vertices ≢ told
IsToldFinding vertices (outcome.Tree tree) finding.Size = ⊤
IsToldFinding vertices outcome finding = ⊥

abbrev pub IsSizeFinding : GraphFault → Outcome → Finding → Type 0
IsSizeFinding (TooLarge vertices) outcome finding = IsToldFinding vertices outcome finding
IsSizeFinding OutOfMemory outcome finding = ⊥

-- what is answered of the sizes of graphs and the trees of entries
abbrev pub AreTreesAnswer : SolveSettingsValue → List FormulaListValue → List Entry → Option RejectPart → Type 0
AreTreesAnswer settings lists entries None =
    All (λ entry. OutcomeIsRight settings lists entry.candidate entry.outcome) entries
AreTreesAnswer settings lists entries (Some (part.Outcome number)) =
    IsFirstWrong (λ entry. SizeIsRight settings lists entry.candidate entry.outcome) entries number
AreTreesAnswer settings lists entries (Some (part.Tree number place)) =
    All (λ entry. SizeIsRight settings lists entry.candidate entry.outcome) entries
    × IsTreePlace settings lists entries number place
AreTreesAnswer settings lists entries other = ⊥

-- what is answered of lists and entries, of what stands of a spectrum, and of a section: the first place that differs,
-- or none where all is right
abbrev pub IsSolvedAnswer : SolveSettingsValue → List FormulaListValue → Solved → Option RejectPart → Type 0
IsSolvedAnswer settings lists solved None = SolvedIsRight settings lists solved
IsSolvedAnswer settings lists solved (Some place) = IsSolvedPlace settings lists solved place

abbrev pub IsBodyAnswer : SolveSettingsValue → OutlineValue → Body → Option RejectPart → Type 0
IsBodyAnswer settings outline told None = BodyIsRight settings outline told
IsBodyAnswer settings outline told (Some place) = IsBodyPlace settings outline told place

abbrev pub IsSectionAnswer : SolveSettingsValue → SpectrumValue → Section → Option RejectPart → Type 0
IsSectionAnswer settings spectrum section None = SectionIsRight settings spectrum section
IsSectionAnswer settings spectrum section (Some place) =
    (told : Outlined) × IsOutlined settings.listing spectrum told × IsSectionPlace settings told section place

-- what is answered of the sections of a document: the first place that differs from right ones of these spectra, the
-- ending aside
abbrev pub AreSectionsAnswer : SolveSettingsValue → List SpectrumValue → List Section → Option RejectPlace → Type 0
AreSectionsAnswer settings spectra sections None = OneEach (SectionIsRight settings) spectra sections
AreSectionsAnswer settings spectra sections (Some place) =
    IsSectionsPlace settings spectra sections place.section place.part
