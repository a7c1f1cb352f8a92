-- Where a document differs first from the right ones of a text. Each kind of place is looked at over a whole section
-- before the next kind, and one section after the other.
use Rattle.std.specs.Prelude.{◌≡◌, ◌≢◌, ◌<◌, ◌+◌, ◌⊎◌, ℕ, List, length, map, take, slice_get, Option, Some, ⊤}
use Rattle.std.specs.List.{All, AllPairs}
use Rattle.std.specs.List.Sorted.{IsPermutation}
use Rattle.std.specs.declared.cmp.Ordering.TheVariants.{Less}
use Rattle.entry_checker.specs.EntryPlaces.{IsEntryPlace}
use Rattle.tree_entry.specs.declared.place.EntryPlace.{EntryPlace}
use Rattle.element_table.specs.FormulaList.{FormulaListValue}
use Rattle.loss_graph.specs.Lists.{list_at}
use Rattle.mgf_reader.specs.Spectrum.{SpectrumValue}
use Rattle.mgf_reader.specs.declared.fault.MgfFault.{MgfFault}
use Rattle.tree_entry.specs.Rank.{rank_cmp}
use Rattle.tree_document.specs.declared.document.Body.{Body}
use Rattle.tree_document.specs.declared.document.Body.TheVariants as body
use Rattle.tree_document.specs.declared.document.Document.{Document}
use Rattle.tree_document.specs.declared.document.Section.{Section}
use Rattle.tree_document.specs.declared.document.Solved.{Solved}
use Rattle.tree_document.specs.declared.entry.Entry.{Entry}
use Rattle.tree_document.specs.declared.entry.Outcome.{Outcome}
use Rattle.tree_document.specs.declared.entry.Outcome.TheVariants as outcome
use Rattle.right_document.specs.Candidates.{candidates_of, graph_of}
use Rattle.right_document.specs.Ending.{ending_of}
use Rattle.right_document.specs.OneEach.{OneEach}
use Rattle.tree_document.specs.Outline.{OutlineValue, listed, skipped}
use Rattle.right_document.specs.Outlined.{IsOutlined, Outlined}
use Rattle.right_document.specs.RightSection.{ErrorIsRight, SectionIsRight, SizeIsRight, TreeIsRight}
use Rattle.right_document.specs.SolveSettings.{SolveSettingsValue}
use Rattle.run_plan.specs.declared.reject.RejectPart.{RejectPart}
use Rattle.run_plan.specs.declared.reject.RejectPart.TheVariants as part

-- the number, from 1, of the first item that is not right
pub record IsFirstWrong {X : Type 0} (IsRight : X → Type 0) (items : List X) (number : ℕ) : Type 0 where
  pub place : ℕ
  pub numbered : number ≡ place + 1
  pub item : X
  pub is_item : slice_get items place ≡ Some item
  pub wrong : ¬ (IsRight item)
  pub before : All IsRight (take place items)

-- the number, from 0, of the first list that differs, or that one side alone has
pub record IsListsPlace (lists own : List FormulaListValue) (number : ℕ) : Type 0 where
  pub before : take number own ≡ take number lists
  pub differs : slice_get own number ≢ slice_get lists number

-- where the tree of an entry is wrong first
abbrev pub IsPlaceIn : SolveSettingsValue → List FormulaListValue → List ℕ → Outcome → EntryPlace → Type 0
IsPlaceIn settings lists candidate (outcome.Tree tree) place =
    IsEntryPlace (graph_of settings lists candidate) tree settings.budget place
IsPlaceIn settings lists candidate (outcome.TooLarge vertices) place = ⊥

-- the number, from 1, of the first entry whose tree is wrong, and where the tree is wrong first
pub record IsTreePlace (settings : SolveSettingsValue) (lists : List FormulaListValue) (entries : List Entry)
    (number : ℕ) (where_first : EntryPlace) : Type 0 where
  pub place : ℕ
  pub numbered : number ≡ place + 1
  pub entry : Entry
  pub is_entry : slice_get entries place ≡ Some entry
  pub wrong : IsPlaceIn settings lists entry.candidate entry.outcome where_first
  pub before : All (λ earlier. TreeIsRight settings lists earlier.candidate earlier.outcome) (take place entries)

-- the number, from 1, of the first entry that may not follow the one before it
pub record IsOrderPlace (entries : List Entry) (number : ℕ) : Type 0 where
  pub place : ℕ
  pub numbered : number ≡ place + 2
  pub one : Entry
  pub next : Entry
  pub is_one : slice_get entries place ≡ Some one
  pub is_next : slice_get entries (place + 1) ≡ Some next
  pub wrong : rank_cmp one next ≢ Less
  pub before : AllPairs (λ earlier later. rank_cmp earlier later ≡ Less) (take (place + 1) entries)

-- What is looked at in turn, each with all before it: the lists and the candidates, the errors, the sizes of the
-- graphs, the trees.
pub record CandidatesFit (settings : SolveSettingsValue) (lists : List FormulaListValue)
    (solved : Solved) : Type 0 where
  pub own_lists : solved.lists ≡ lists
  pub candidates : IsPermutation (candidates_of settings (list_at lists 0).formulas)
      (map (λ entry. entry.candidate) solved.entries)

pub record ErrorsFit (settings : SolveSettingsValue) (lists : List FormulaListValue) (solved : Solved) : Type 0 where
  pub before : CandidatesFit settings lists solved
  pub errors : All (ErrorIsRight settings lists) solved.entries

pub record SizesFit (settings : SolveSettingsValue) (lists : List FormulaListValue) (solved : Solved) : Type 0 where
  pub before : ErrorsFit settings lists solved
  pub sizes : All (λ entry. SizeIsRight settings lists entry.candidate entry.outcome) solved.entries

pub record TreesFit (settings : SolveSettingsValue) (lists : List FormulaListValue) (solved : Solved) : Type 0 where
  pub before : SizesFit settings lists solved
  pub trees : All (λ entry. TreeIsRight settings lists entry.candidate entry.outcome) solved.entries

-- the first place where lists and entries differ from the right ones for these lists
abbrev pub IsSolvedPlace : SolveSettingsValue → List FormulaListValue → Solved → RejectPart → Type 0
IsSolvedPlace settings lists solved (part.Lists number) = IsListsPlace lists solved.lists number
IsSolvedPlace settings lists solved part.Candidates = (solved.lists ≡ lists)
    × ¬ (IsPermutation (candidates_of settings (list_at lists 0).formulas)
    (map (λ entry. entry.candidate) solved.entries))
IsSolvedPlace settings lists solved (part.Error number) =
    CandidatesFit settings lists solved × IsFirstWrong (ErrorIsRight settings lists) solved.entries number
IsSolvedPlace settings lists solved (part.Outcome number) = ErrorsFit settings lists solved
    × IsFirstWrong (λ entry. SizeIsRight settings lists entry.candidate entry.outcome) solved.entries number
IsSolvedPlace settings lists solved (part.Tree number place) =
    SizesFit settings lists solved × IsTreePlace settings lists solved.entries number place
IsSolvedPlace settings lists solved (part.Order number) = TreesFit settings lists solved
    × IsOrderPlace solved.entries number
IsSolvedPlace settings lists solved other = ⊥

-- the first place where what stands of a spectrum differs from the right one for this outline
abbrev pub IsBodyPlace : SolveSettingsValue → OutlineValue → Body → RejectPart → Type 0
IsBodyPlace settings (skipped reason) (body.Skipped told) part.Skipped = told ≢ reason
IsBodyPlace settings (skipped reason) (body.Solved solved) part.Skipped = ⊤
IsBodyPlace settings (listed lists) (body.Skipped told) part.Skipped = ⊤
IsBodyPlace settings (listed lists) (body.Solved solved) other = IsSolvedPlace settings lists solved other
IsBodyPlace settings outline told other = ⊥

-- the first place where a section differs from the right one for what is told of the spectrum
abbrev pub IsSectionPlace : SolveSettingsValue → Outlined → Section → RejectPart → Type 0
IsSectionPlace settings told section part.Spectrum = (section.line ≢ told.line) ⊎ (section.title ≢ told.title)
IsSectionPlace settings told section other = (section.line ≡ told.line) × (section.title ≡ told.title)
    × IsBodyPlace settings told.outline section.body other

-- the text has a further section behind right ones
pub record IsMissing (settings : SolveSettingsValue) (spectra : List SpectrumValue) (sections : List Section)
    (number : ℕ)
    : Type 0 where
  pub before : OneEach (SectionIsRight settings) (take (length sections) spectra) sections
  pub fewer : length sections < length spectra
  pub numbered : number ≡ length sections + 1

-- the document has a further section behind right ones
pub record IsExtra (settings : SolveSettingsValue) (spectra : List SpectrumValue) (sections : List Section) (number : ℕ)
    : Type 0 where
  pub before : OneEach (SectionIsRight settings) spectra (take (length spectra) sections)
  pub more : length spectra < length sections
  pub numbered : number ≡ length spectra + 1

-- all sections are right, and the ending is not that of the text
pub record IsOtherEnding (settings : SolveSettingsValue) (spectra : List SpectrumValue) (fault : Option MgfFault)
    (document : Document) (number : ℕ) : Type 0 where
  pub before : OneEach (SectionIsRight settings) spectra document.sections
  pub differs : document.ending ≢ ending_of fault
  pub numbered : number ≡ length document.sections + 1

-- a section of the document is the first that is not right for its spectrum, and differs first in this part
pub record IsInSection (settings : SolveSettingsValue) (spectra : List SpectrumValue) (sections : List Section)
    (number : ℕ) (in_section : RejectPart) : Type 0 where
  pub earlier : ℕ
  pub numbered : number ≡ earlier + 1
  pub before : OneEach (SectionIsRight settings) (take earlier spectra) (take earlier sections)
  pub spectrum : SpectrumValue
  pub section : Section
  pub is_spectrum : slice_get spectra earlier ≡ Some spectrum
  pub is_section : slice_get sections earlier ≡ Some section
  pub told : Outlined
  pub outlined : IsOutlined settings.listing spectrum told
  pub is_place : IsSectionPlace settings told section in_section

-- the first place where sections differ from the right ones of some spectra: the number of the section, from 1, and the
-- part
abbrev pub IsSectionsPlace : SolveSettingsValue → List SpectrumValue → List Section → ℕ → RejectPart → Type 0
IsSectionsPlace settings spectra sections number part.Missing = IsMissing settings spectra sections number
IsSectionsPlace settings spectra sections number part.Extra = IsExtra settings spectra sections number
IsSectionsPlace settings spectra sections number other = IsInSection settings spectra sections number other

-- The first place where a document differs from the right ones of a text with these spectra and this fault: in its
-- sections, or else in the ending.
abbrev pub IsDocumentPlace : SolveSettingsValue → List SpectrumValue → Option MgfFault → Document → ℕ → RejectPart
    → Type 0
IsDocumentPlace settings spectra fault document number part.Ending =
    IsOtherEnding settings spectra fault document number
IsDocumentPlace settings spectra fault document number other =
    IsSectionsPlace settings spectra document.sections number other
