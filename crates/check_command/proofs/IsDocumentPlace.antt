-- `IsDocumentPlace`: a document that differs somewhere from the right ones of a text is none of them.
use Rattle.std.proofs.Common.{◌≡◌, ◌+◌, ◌<◌, ◌⊎◌, inl, inr, ℕ, List, length, All, AllPairs, slice_get, get_or, Option}
use Rattle.std.proofs.Common.{Some, [], ◌∷◌, zero, suc, ap, arith, subst, sym, ◌∙◌}
use Rattle.std.specs.declared.cmp.Ordering.TheVariants.{Less}
use Rattle.std.proofs.lemmas.Option.{get_or_from_slice_get, none-some, same_Some, slice_get_within}
use Rattle.tree_entry.specs.EntryIsRight.{EntryIsRight}
use Rattle.entry_checker.specs.EntryPlaces.{IsEntryPlace}
use Rattle.tree_entry.specs.declared.place.EntryPlace.{EntryPlace}
use Rattle.element_table.specs.FormulaList.{FormulaListValue}
use Rattle.loss_graph.specs.LossGraph.{LossGraphValue}
use Rattle.mgf_reader.specs.Grammar.{Reads}
use Rattle.mgf_reader.specs.Spectrum.{SpectrumValue}
use Rattle.mgf_reader.specs.declared.fault.MgfFault.{MgfFault}
use Rattle.tree_entry.specs.Rank.{rank_cmp}
use Rattle.tree_document.specs.Value.{TreeValue}
use Rattle.tree_document.specs.declared.document.Body.{Body}
use Rattle.tree_document.specs.declared.document.Body.TheVariants as body
use Rattle.tree_document.specs.declared.document.Document.{Document}
use Rattle.tree_document.specs.declared.document.Section.{Section}
use Rattle.tree_document.specs.declared.document.Solved.{Solved}
use Rattle.tree_document.specs.declared.entry.Entry.{Entry}
use Rattle.tree_document.specs.declared.entry.Outcome.{Outcome}
use Rattle.tree_document.specs.declared.entry.Outcome.TheVariants as outcome
use Rattle.right_document.specs.Ending.{ending_of}
use Rattle.right_document.specs.OneEach.{OneEach}
use Rattle.tree_document.specs.Outline.{OutlineValue, listed, skipped}
use Rattle.right_document.specs.Outlined.{IsOutlined, Outlined}
use Rattle.right_document.specs.RightDocument.{DocumentIsRight}
use Rattle.right_document.specs.RightSection.{BodyIsRight, ErrorIsRight, IsRightEntry, SectionIsRight, SizeIsRight}
use Rattle.right_document.specs.RightSection.{SolvedIsRight, TreeIsRight}
use Rattle.right_document.specs.RunSettings.{RunSettingsValue}
use Rattle.right_document.specs.SolveSettings.{SolveSettingsValue}
use Rattle.check_command.specs.CheckPlaces.{IsBodyPlace, IsDocumentPlace, IsFirstWrong, IsInSection, IsOrderPlace}
use Rattle.check_command.specs.CheckPlaces.{IsPlaceIn, IsSectionPlace, IsSolvedPlace}
use Rattle.run_plan.specs.declared.reject.RejectPart.{RejectPart}
use Rattle.run_plan.specs.declared.reject.RejectPart.TheVariants as part
use Rattle.right_document.proofs.OneEach.{length-OneEach}

-- the one at a place is right for the item at that place
OneEach-at : {X Y : Type 0} (IsRight : X → Y → Type 0) (items : List X) (others : List Y) (place : ℕ) (item : X)
    (other : Y)
    → OneEach IsRight items others → slice_get items place ≡ Some item → slice_get others place ≡ Some other
    → IsRight item other
OneEach-at IsRight [] others place item other each is also = absurd (none-some item is)
OneEach-at IsRight (first ∷ items) [] place item other each is also = absurd each
OneEach-at IsRight (first ∷ items) (one ∷ others) zero item other each is also =
    subst (IsRight item) (same_Some one other also)
    (subst (λ taken. IsRight taken one) (same_Some first item is) each.0)
OneEach-at IsRight (first ∷ items) (one ∷ others) (suc place) item other each is also =
    OneEach-at IsRight items others place item other each.1 is also

-- a tree that is wrong somewhere is not right
abbrev pub NoWrongTree : Type 0
NoWrongTree = (built : LossGraphValue) (tree : TreeValue) (budget : ℕ) (place : EntryPlace)
    → IsEntryPlace built tree budget place → EntryIsRight built tree budget → ⊥

-- what holds of all items holds of the one at a place
all_at : {X : Type 0} (P : X → Type 0) (items : List X) (place : ℕ) (item : X) → All P items
    → slice_get items place ≡ Some item
    → P item
all_at P items place item all is =
    subst P (get_or_from_slice_get items place item item is) (all place item (slice_get_within items place item is))

first_wrong : (P : Entry → Type 0) (entries : List Entry) (number : ℕ) → IsFirstWrong P entries number → All P entries
    → ⊥
first_wrong P entries number is all = is.wrong (all_at P entries is.place is.item all is.is_item)

no_tree_place : NoWrongTree → (settings : SolveSettingsValue) (lists : List FormulaListValue) (candidate : List ℕ)
    (found : Outcome)
    (place : EntryPlace) → IsPlaceIn settings lists candidate found place → TreeIsRight settings lists candidate found
    → ⊥
no_tree_place wrong settings lists candidate (outcome.Tree tree) place is right =
    wrong _ tree settings.budget place is right.0
no_tree_place wrong settings lists candidate (outcome.TooLarge vertices) place is right = is

no_order_place : (entries : List Entry) (number : ℕ) → IsOrderPlace entries number
    → AllPairs (λ one later. rank_cmp one later ≡ Less) entries → ⊥
no_order_place entries number is ranked =
    is.wrong (subst (λ later. rank_cmp is.one later ≡ Less)
    (get_or_from_slice_get entries (is.place + 1) is.next is.one is.is_next)
    (subst (λ one. rank_cmp one (get_or entries (is.place + 1) is.one) ≡ Less)
    (get_or_from_slice_get entries is.place is.one is.one is.is_one)
    (ranked is.place (is.place + 1) is.one (omega arith) (slice_get_within entries (is.place + 1) is.next is.is_next))))

no_solved_place : NoWrongTree → (settings : SolveSettingsValue) (lists : List FormulaListValue) (solved : Solved)
    (place : RejectPart)
    → IsSolvedPlace settings lists solved place → SolvedIsRight settings lists solved → ⊥
no_solved_place wrong settings lists solved part.Missing is right = is
no_solved_place wrong settings lists solved part.Extra is right = is
no_solved_place wrong settings lists solved part.Spectrum is right = is
no_solved_place wrong settings lists solved part.Skipped is right = is
no_solved_place wrong settings lists solved (part.Lists number) is right =
    is.differs (ap (λ (own : List FormulaListValue). slice_get own number) right.own_lists)
no_solved_place wrong settings lists solved part.Candidates is right = is.1 right.candidates
no_solved_place wrong settings lists solved (part.Error number) is right =
    first_wrong (ErrorIsRight settings lists) solved.entries number is.1
    (λ k d within. (right.entries k d within).error)
no_solved_place wrong settings lists solved (part.Outcome number) is right =
    first_wrong (λ entry. SizeIsRight settings lists entry.candidate entry.outcome) solved.entries number is.1
    (λ k d within. (right.entries k d within).outcome.0)
no_solved_place wrong settings lists solved (part.Tree number place) is right =
    let entry = is.1.entry in
    no_tree_place wrong settings lists entry.candidate entry.outcome place is.1.wrong
    (all_at (IsRightEntry settings lists) solved.entries is.1.place entry right.entries is.1.is_entry).outcome.1
no_solved_place wrong settings lists solved (part.Order number) is right =
    no_order_place solved.entries number is.1 right.ranked
no_solved_place wrong settings lists solved part.Ending is right = is

no_body_place : NoWrongTree
    → (settings : SolveSettingsValue) (outline : OutlineValue) (told : Body) (place : RejectPart)
    → IsBodyPlace settings outline told place → BodyIsRight settings outline told → ⊥
no_body_place wrong settings (skipped reason) (body.Skipped told) part.Missing is right = is
no_body_place wrong settings (skipped reason) (body.Skipped told) part.Extra is right = is
no_body_place wrong settings (skipped reason) (body.Skipped told) part.Spectrum is right = is
no_body_place wrong settings (skipped reason) (body.Skipped told) part.Skipped is right = is right
no_body_place wrong settings (skipped reason) (body.Skipped told) (part.Lists number) is right = is
no_body_place wrong settings (skipped reason) (body.Skipped told) part.Candidates is right = is
no_body_place wrong settings (skipped reason) (body.Skipped told) (part.Error number) is right = is
no_body_place wrong settings (skipped reason) (body.Skipped told) (part.Outcome number) is right = is
no_body_place wrong settings (skipped reason) (body.Skipped told) (part.Tree number place) is right = is
no_body_place wrong settings (skipped reason) (body.Skipped told) (part.Order number) is right = is
no_body_place wrong settings (skipped reason) (body.Skipped told) part.Ending is right = is
no_body_place wrong settings (skipped reason) (body.Solved solved) place is right = right
no_body_place wrong settings (listed lists) (body.Skipped told) place is right = right
no_body_place wrong settings (listed lists) (body.Solved solved) place is right =
    no_solved_place wrong settings lists solved place is right

-- a spectrum has one outline, and a text one reading
abbrev pub OneOutline : Type 0
OneOutline = (settings : RunSettingsValue) (spectrum : SpectrumValue) (one other : Outlined)
    → IsOutlined settings spectrum one → IsOutlined settings spectrum other → one ≡ other

abbrev pub OneReading : Type 0
OneReading = (text : List ℕ) (spectra other : List SpectrumValue) (fault another : Option MgfFault)
    → Reads text spectra fault → Reads text other another → (spectra ≡ other) × (fault ≡ another)

-- where what stands of a spectrum differs, under the one outline
no_inner_place : NoWrongTree
    → (settings : SolveSettingsValue) (told : Outlined) (section : Section) (outline : OutlineValue)
    (place : RejectPart) → record { line = section.line; title = section.title; outline = outline } ≡ told
    → IsBodyPlace settings told.outline section.body place → BodyIsRight settings outline section.body → ⊥
no_inner_place wrong settings told section outline place same is right =
    no_body_place wrong settings outline section.body place
    (subst (λ (it : Outlined). IsBodyPlace settings it.outline section.body place) (sym same) is) right

no_section_place : NoWrongTree
    → (settings : SolveSettingsValue) (told : Outlined) (section : Section) (outline : OutlineValue)
    (place : RejectPart) → record { line = section.line; title = section.title; outline = outline } ≡ told
    → IsSectionPlace settings told section place → BodyIsRight settings outline section.body → ⊥
no_section_place wrong settings told section outline part.Spectrum same (inl line) right =
    line (ap (λ (it : Outlined). it.line) same)
no_section_place wrong settings told section outline part.Spectrum same (inr title) right =
    title (ap (λ (it : Outlined). it.title) same)
no_section_place wrong settings told section outline part.Missing same is right =
    no_inner_place wrong settings told section outline part.Missing same is.2 right
no_section_place wrong settings told section outline part.Extra same is right =
    no_inner_place wrong settings told section outline part.Extra same is.2 right
no_section_place wrong settings told section outline part.Skipped same is right =
    no_inner_place wrong settings told section outline part.Skipped same is.2 right
no_section_place wrong settings told section outline (part.Lists number) same is right =
    no_inner_place wrong settings told section outline (part.Lists number) same is.2 right
no_section_place wrong settings told section outline part.Candidates same is right =
    no_inner_place wrong settings told section outline part.Candidates same is.2 right
no_section_place wrong settings told section outline (part.Error number) same is right =
    no_inner_place wrong settings told section outline (part.Error number) same is.2 right
no_section_place wrong settings told section outline (part.Outcome number) same is right =
    no_inner_place wrong settings told section outline (part.Outcome number) same is.2 right
no_section_place wrong settings told section outline (part.Tree number place) same is right =
    no_inner_place wrong settings told section outline (part.Tree number place) same is.2 right
no_section_place wrong settings told section outline (part.Order number) same is right =
    no_inner_place wrong settings told section outline (part.Order number) same is.2 right
no_section_place wrong settings told section outline part.Ending same is right =
    no_inner_place wrong settings told section outline part.Ending same is.2 right

no_place_inside : NoWrongTree → OneOutline → (settings : SolveSettingsValue) (spectra : List SpectrumValue)
    (sections : List Section) (number : ℕ) (place : RejectPart) → IsInSection settings spectra sections number place
    → OneEach (SectionIsRight settings) spectra sections → ⊥
no_place_inside wrong outlines settings spectra sections number place is each =
    no_section_place wrong settings is.told is.section right.outline place
    (outlines settings.listing is.spectrum
    (record { line = is.section.line; title = is.section.title; outline = right.outline }) is.told right.outlined
    is.outlined)
    is.is_place right.body
  where
    right : SectionIsRight settings is.spectrum is.section
    right = OneEach-at (SectionIsRight settings) spectra sections is.earlier is.spectrum is.section each is.is_spectrum
        is.is_section

-- one more or one less is not as many
no_other_count : (settings : SolveSettingsValue) (spectra : List SpectrumValue) (sections : List Section)
    → OneEach (SectionIsRight settings) spectra sections
    → (length sections < length spectra) ⊎ (length spectra < length sections) → ⊥
no_other_count settings spectra sections each differ =
    apart (length sections) (length spectra) (length-OneEach (SectionIsRight settings) spectra sections each) differ
  where
    apart : (many other : ℕ) → many ≡ other → (many < other) ⊎ (other < many) → ⊥
    apart many other same (inl fewer) = omega arith
    apart many other same (inr more) = omega arith

no_place : NoWrongTree → OneOutline
    → (settings : SolveSettingsValue) (spectra : List SpectrumValue) (fault : Option MgfFault)
    (document : Document) (number : ℕ) (place : RejectPart)
    → IsDocumentPlace settings spectra fault document number place
    → OneEach (SectionIsRight settings) spectra document.sections → document.ending ≡ ending_of fault → ⊥
no_place wrong outlines settings spectra fault document number part.Missing is each ending =
    no_other_count settings spectra document.sections each (inl is.fewer)
no_place wrong outlines settings spectra fault document number part.Extra is each ending =
    no_other_count settings spectra document.sections each (inr is.more)
no_place wrong outlines settings spectra fault document number part.Spectrum is each ending =
    no_place_inside wrong outlines settings spectra document.sections number part.Spectrum is each
no_place wrong outlines settings spectra fault document number part.Skipped is each ending =
    no_place_inside wrong outlines settings spectra document.sections number part.Skipped is each
no_place wrong outlines settings spectra fault document number (part.Lists list) is each ending =
    no_place_inside wrong outlines settings spectra document.sections number (part.Lists list) is each
no_place wrong outlines settings spectra fault document number part.Candidates is each ending =
    no_place_inside wrong outlines settings spectra document.sections number part.Candidates is each
no_place wrong outlines settings spectra fault document number (part.Error entry) is each ending =
    no_place_inside wrong outlines settings spectra document.sections number (part.Error entry) is each
no_place wrong outlines settings spectra fault document number (part.Outcome entry) is each ending =
    no_place_inside wrong outlines settings spectra document.sections number (part.Outcome entry) is each
no_place wrong outlines settings spectra fault document number (part.Tree entry place) is each ending =
    no_place_inside wrong outlines settings spectra document.sections number (part.Tree entry place) is each
no_place wrong outlines settings spectra fault document number (part.Order entry) is each ending =
    no_place_inside wrong outlines settings spectra document.sections number (part.Order entry) is each
no_place wrong outlines settings spectra fault document number part.Ending is each ending = is.differs ending

pub not_right : NoWrongTree → OneOutline → OneReading → (settings : SolveSettingsValue) (text : List ℕ)
    (spectra : List SpectrumValue) (fault another : Option MgfFault) (document : Document) (number : ℕ)
    (place : RejectPart)
    → Reads text spectra fault → IsDocumentPlace settings spectra fault document number place
    → DocumentIsRight settings text another document → ⊥
not_right wrong outlines readings settings text spectra fault another document number place reads is right =
    let same = readings text right.spectra spectra another fault right.reads reads in
    no_place wrong outlines settings spectra fault document number place is
    (subst (λ (read : List SpectrumValue). OneEach (SectionIsRight settings) read document.sections) same.0
    right.sections)
    (right.ending ∙ ap ending_of same.1)
