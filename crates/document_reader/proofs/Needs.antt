-- What the needs take, from the first to the last line, is the lines of a document, and every document's lines are
-- taken so.
use Rattle.std.proofs.Common.{◌≡◌, ◌+◌, ◌==◌, ◌∙◌, ℕ, Bool, true, false, cond, zero, suc, ℤ, List, [], ◌∷◌, ◌++◌}
use Rattle.std.proofs.Common.{length, map, Option, Some, None, refl, sym, ap, subst}
use Rattle.std.specs.Prelude.{replicate}
use Rattle.std.specs.List.{flat_map}
use Rattle.std.proofs.lemmas.Bool.{eq-eqb, eqb-true}
use Rattle.std.proofs.lemmas.List.{append-nil, append_assoc}
use Rattle.element_table.specs.FormulaList.{FormulaListValue}
use Rattle.tree_document.specs.declared.document.Body.{Body}
use Rattle.tree_document.specs.declared.document.Body.TheVariants.{Skipped, Solved}
use Rattle.tree_document.specs.declared.document.Section.{Section}
use Rattle.tree_document.specs.declared.document.Ending.{Ending}
use Rattle.tree_document.specs.declared.document.Ending.TheVariants.{Clean, Refused}
use Rattle.tree_document.specs.declared.document.Document.{Document}
use Rattle.tree_document.specs.declared.entry.Outcome.{Outcome}
use Rattle.tree_document.specs.declared.entry.Outcome.TheVariants.{Tree, TooLarge}
use Rattle.tree_document.specs.declared.entry.Entry.{Entry}
use Rattle.tree_document.specs.declared.entry.TreeRow.{TreeRow}
use Rattle.tree_certificate.specs.BoundValue.{BoundValue, priced, split}
use Rattle.tree_certificate.specs.Value.{CertValue, a_bound, a_table}
use Rattle.tree_document.specs.Line.{Line, header_line, clean_line, refused_line, spectrum_line, skip_line, lists_line}
use Rattle.tree_document.specs.Line.{list_line, formula_line, entries_line, too_large_line, tree_line, row_line}
use Rattle.tree_document.specs.Line.{table_line, table_row_line, split_line, prices_line, potentials_line, done_line}
use Rattle.tree_document.specs.Document.{body_lines, bound_lines, cert_lines, ending_line, entry_lines, lines_of}
use Rattle.tree_document.specs.Document.{list_lines, outcome_lines, section_lines}
use Rattle.line_fields.specs.Need.{Need, need_document, need_sections, need_body, need_list, need_formula}
use Rattle.line_fields.specs.Need.{need_entries, need_entry, need_row, need_cert, need_table_row, need_bound}
use Rattle.line_fields.specs.Need.{need_potentials, need_done, follow}

-- lines that lead from some needs to others
abbrev pub Leads : List Line → List Need → List Need → Type 0
Leads [] needs left = needs ≡ left
Leads (line ∷ lines) [] left = ⊥
Leads (line ∷ lines) (need ∷ needs) left =
    (more : List Need) × (follow need line ≡ Some more) × Leads lines (more ++ needs) left

-- what a need stands for
abbrev pub Value : Need → Type 0
Value need_document = Document
Value need_sections = List Section × Ending
Value need_body = Body
Value need_list = FormulaListValue
Value need_formula = List ℕ
Value need_entries = List Entry
Value need_entry = Entry
Value need_row = TreeRow
Value need_cert = CertValue
Value need_table_row = List ℤ
Value (need_bound under) = BoundValue
Value need_potentials = List ℤ
Value need_done = Unit {0}

abbrev pub value_lines : (need : Need) → Value need → List Line
value_lines need_document it = lines_of it
value_lines need_sections it = flat_map section_lines it.0 ++ ending_line it.1 ∷ []
value_lines need_body it = body_lines it
value_lines need_list it = list_lines it
value_lines need_formula it = formula_line it ∷ []
value_lines need_entries it = entries_line (length it) ∷ flat_map entry_lines it
value_lines need_entry it = entry_lines it
value_lines need_row it = row_line it ∷ []
value_lines need_cert it = cert_lines it
value_lines need_table_row it = table_row_line it ∷ []
value_lines (need_bound under) it = bound_lines under it
value_lines need_potentials it = potentials_line it ∷ []
value_lines need_done it = done_line ∷ []

abbrev pub All : List Need → Type 0
All [] = Unit {0}
All (need ∷ needs) = Value need × All needs

abbrev pub all_lines : (needs : List Need) → All needs → List Line
all_lines [] values = []
all_lines (need ∷ needs) values = value_lines need values.0 ++ all_lines needs values.1

-- the values of some needs and those of others
abbrev Split : (needs others : List Need) → All (needs ++ others) → Type 0
Split needs others values =
    (first : All needs) × (later : All others) × (all_lines (needs ++ others) values ≡ all_lines needs first
    ++ all_lines others later)

split_all : (needs others : List Need) (values : All (needs ++ others)) → Split needs others values
split_all [] others values = (tt, values, refl)
split_all (need ∷ needs) others values =
    let behind = split_all needs others values.1 in (
      (values.0, behind.0),
      behind.1,
      ap (λ t. value_lines need values.0 ++ t) behind.2
          ∙ sym (append_assoc (value_lines need values.0) (all_lines needs behind.0) (all_lines others behind.1)),
    )

-- the values of one need many times
several : (need : Need) (count : ℕ) (others : List Need) (values : All (replicate count need ++ others))
    → (items : List (Value need)) × (length items ≡ count) × (later : All others)
    × (all_lines (replicate count need ++ others) values ≡ flat_map (value_lines need) items
    ++ all_lines others later)
several need zero others values = ([], refl, values, refl)
several need (suc count) others values =
    let behind = several need count others values.1 in (
      values.0 ∷ behind.0,
      ap suc behind.1,
      behind.2,
      ap (λ t. value_lines need values.0 ++ t) behind.3
          ∙ sym (append_assoc (value_lines need values.0) (flat_map (value_lines need) behind.0)
          (all_lines others behind.2)),
    )

alone : (need : Need) (count : ℕ) (values : All (replicate count need))
    → (items : List (Value need)) × (length items ≡ count) ×
    (all_lines (replicate count need) values ≡ flat_map (value_lines need) items)
alone need zero values = ([], refl, refl)
alone need (suc count) values =
    let behind = alone need count values.1 in
    (values.0 ∷ behind.0, ap suc behind.1, ap (λ t. value_lines need values.0 ++ t) behind.2)

singles : {X : Type 0} (f : X → Line) (items : List X) → flat_map (λ x. f x ∷ []) items ≡ map f items
singles f [] = refl
singles f (x ∷ items) = ap (λ t. f x ∷ t) (singles f items)

-- a line that stands where something is needed begins what is needed, once the further needs are met
abbrev Builds : (need : Need) → Line → Option (List Need) → Type 0
Builds need line None = Unit {0}
Builds need line (Some more) =
    (values : All more) → (value : Value need) × (value_lines need value ≡ line ∷ all_lines more values)

-- a split under as many splits as are told begins a bound, once those of its sides are there
build_split : (above under : ℕ) (colour : ℕ) (part : List ℕ) (b : Bool) → (above == under) ≡ b
    → Builds (need_bound under) (split_line above colour part)
    (cond b (Some (need_bound (under + 1) ∷ need_bound (under + 1) ∷ [])) None)
build_split above under colour part false is = tt
build_split above under colour part true is = λ values.
    let same : under ≡ above = sym (eqb-true above under is) in (
      split colour part values.0 values.1.0,
      (λ i. split_line (same i) colour part ∷ (bound_lines (under + 1) values.0
          ++ sym (append-nil (bound_lines (under + 1) values.1.0)) i)),
    )

build : (need : Need) (line : Line) → Builds need line (follow need line)
build need_document header_line = λ values. (
  record { sections = values.0.0; ending = values.0.1 },
  ap
      (λ t. header_line ∷ t) (sym (append-nil (flat_map section_lines values.0.0 ++ ending_line values.0.1 ∷ []))),
)
build need_sections (spectrum_line line title) = λ values. (
  (record { line = line; title = title; body = values.0 } ∷ values.1.1.0.0, values.1.1.0.1),
  ap (λ t. spectrum_line line title ∷ t)
      (append_assoc (body_lines values.0 ++ done_line ∷ []) (flat_map section_lines values.1.1.0.0)
      (ending_line values.1.1.0.1 ∷ [])
      ∙ append_assoc (body_lines values.0) (done_line ∷ []) (flat_map section_lines values.1.1.0.0
      ++ ending_line values.1.1.0.1 ∷ [])
      ∙ ap (λ t. body_lines values.0 ++ (done_line ∷ t)) (sym
      (append-nil (flat_map section_lines values.1.1.0.0 ++ ending_line values.1.1.0.1 ∷ [])))),
)
build need_sections clean_line = λ values. (([], Clean), refl)
build need_sections (refused_line line kind) = λ values. (([], Refused (record { line = line; kind = kind })), refl)
build need_body (skip_line reason) = λ values. (Skipped reason, refl)
build need_body (lists_line count) = λ values.
    let parts = several need_list count (need_entries ∷ []) values in (
      Solved (record { lists = parts.0; entries = parts.2.0 }),
      (λ i. lists_line (parts.1 i) ∷ (flat_map list_lines parts.0
          ++ entries_line (length parts.2.0) ∷ flat_map entry_lines parts.2.0))
          ∙ ap (λ t. lists_line count ∷ t) (ap (λ t. flat_map list_lines parts.0 ++ t)
          (sym (append-nil (entries_line (length parts.2.0) ∷ flat_map entry_lines parts.2.0))) ∙ sym parts.3),
    )
build need_list (list_line mz intensity count) = λ values.
    let parts = alone need_formula count values in (
      record { mz = mz; intensity = intensity; formulas = parts.0 },
      (λ i. list_line mz intensity (parts.1 i) ∷ map formula_line parts.0)
          ∙ ap (λ t. list_line mz intensity count ∷ t) (sym (singles formula_line parts.0) ∙ sym parts.2),
    )
build need_formula (formula_line counts) = λ values. (counts, refl)
build need_entries (entries_line count) = λ values.
    let parts = alone need_entry count values in (
      parts.0,
      (λ i. entries_line (parts.1 i) ∷ flat_map entry_lines parts.0)
          ∙ ap (λ t. entries_line count ∷ t) (sym parts.2),
    )
build need_entry (too_large_line candidate error vertices) =
    λ values. (record { candidate = candidate; error = error; outcome = TooLarge vertices }, refl)
build need_entry (tree_line candidate error score upper mark count) = λ values.
    let parts = several need_row count (need_cert ∷ []) values in (
      record {
        candidate = candidate;
        error = error;
        outcome =
            Tree (record { score = score; upper = upper; mark = mark; rows = parts.0; cert = parts.2.0 });
      },
      (λ i. tree_line candidate error score upper mark (parts.1 i) ∷ (map row_line parts.0 ++ cert_lines parts.2.0))
          ∙ ap (λ t. tree_line candidate error score upper mark count ∷ t)
          ((λ i. sym (singles row_line parts.0) i ++ sym (append-nil (cert_lines parts.2.0)) i) ∙ sym parts.3),
    )
build need_row (row_line it) = λ values. (it, refl)
build need_cert (table_line count) = λ values.
    let parts = alone need_table_row count values in (
      a_table parts.0,
      (λ i. table_line (parts.1 i) ∷ map table_row_line parts.0)
          ∙ ap (λ t. table_line count ∷ t) (sym (singles table_row_line parts.0) ∙ sym parts.2),
    )
build need_cert (prices_line numbers) = λ values. (
  a_bound (priced
      (record { prices = numbers; potentials = values.0 })),
  refl,
)
build need_cert (split_line above colour part) = as_cert _ (build_split above 0 colour part (above == 0) refl)
  where
    as_cert : (more : Option (List Need)) → Builds (need_bound 0) (split_line above colour part) more
        → Builds need_cert (split_line above colour part) more
    as_cert None builds = tt
    as_cert (Some more) builds = λ values. let built = builds values in (a_bound built.0, built.1)
build (need_bound under) (prices_line numbers) = λ values. (
  priced (record { prices = numbers; potentials = values.0 }),
  refl,
)
build (need_bound under) (split_line above colour part) = build_split above under colour part (above == under) refl
build need_potentials (potentials_line numbers) = λ values. (numbers, refl)
build need_table_row (table_row_line items) = λ values. (items, refl)
build need_done done_line = λ values. (tt, refl)
build need line = tt

build_more : (need : Need) (line : Line) (more : List Need) → follow need line ≡ Some more
    → Builds need line (Some more)
build_more need line more may = subst (Builds need line) may (build need line)

-- lines that meet all needs are the lines of what they stand for
pub accepted : (lines : List Line) (needs : List Need) → Leads lines needs []
    → (values : All needs) × (all_lines needs values ≡ lines)
accepted [] [] leads = (tt, refl)
accepted [] (need ∷ needs) leads = (cc)
accepted (line ∷ lines) [] leads = absurd leads
accepted (line ∷ lines) (need ∷ needs) leads =
    let behind = accepted lines (leads.0 ++ needs) leads.2 in
    let parts = split_all leads.0 needs behind.0 in
    let built = build_more need line leads.0 leads.1 parts.0 in
    ((built.0, parts.1), ap (λ t. t ++ all_lines needs parts.1) built.1 ∙ ap (λ t. line ∷ t) (sym parts.2 ∙ behind.1))

-- the other way: what a value stands for is taken for its need
abbrev Takes : (need : Need) → Value need → Type 0
Takes need value = (others left : List Need) (rest : List Line) → Leads rest others left
    → Leads (value_lines need value ++ rest) (need ∷ others) left

many : (need : Need) → ((value : Value need) → Takes need value)
    → (items : List (Value need)) (others left : List Need) (rest : List Line) → Leads rest others left
    → Leads (flat_map (value_lines need) items ++ rest) (replicate (length items) need ++ others) left
many need each [] others left rest leads = leads
many need each (item ∷ items) others left rest leads =
    subst (λ lines. Leads lines (replicate (length (item ∷ items)) need ++ others) left)
    (sym (append_assoc (value_lines need item) (flat_map (value_lines need) items) rest))
    (each item (replicate (length items) need ++ others) left (flat_map (value_lines need) items ++ rest)
    (many need each items others left rest leads))

moved : (lines same : List Line) (needs left : List Need) → lines ≡ same → Leads same needs left
    → Leads lines needs left
moved lines same needs left is leads = subst (λ l. Leads l needs left) (sym is) leads

takes_formula : (value : Value need_formula) → Takes need_formula value
takes_formula value others left rest leads = ([], refl, leads)

takes_row : (value : Value need_row) → Takes need_row value
takes_row value others left rest leads = ([], refl, leads)

takes_table_row : (value : Value need_table_row) → Takes need_table_row value
takes_table_row value others left rest leads = ([], refl, leads)

takes_bound : (under : ℕ) (value : BoundValue) → Takes (need_bound under) value
takes_bound under (priced cert) others left rest leads = (need_potentials ∷ [], refl, ([], refl, leads))
takes_bound under (split colour part first second) others left rest leads = (
  need_bound (under + 1) ∷ need_bound (under + 1) ∷ [],
  ap (λ b. cond b (Some (need_bound (under + 1) ∷ need_bound (under + 1) ∷ [])) None) (eq-eqb under under refl),
  moved ((bound_lines (under + 1) first ++ bound_lines (under + 1) second) ++ rest)
      (bound_lines (under + 1) first ++ (bound_lines (under + 1) second ++ rest)) _ left
      (append_assoc (bound_lines (under + 1) first) (bound_lines (under + 1) second) rest)
      (takes_bound (under + 1) first (need_bound (under + 1) ∷ others) left (bound_lines (under + 1) second ++ rest)
      (takes_bound (under + 1) second others left rest leads)),
)

-- a certificate begins as a bound under no split does
as_cert : (value : BoundValue) (others left : List Need) (rest : List Line)
    → Leads (bound_lines 0 value ++ rest) (need_bound 0 ∷ others) left
    → Leads (bound_lines 0 value ++ rest) (need_cert ∷ others) left
as_cert (priced cert) others left rest leads = leads
as_cert (split colour part first second) others left rest leads = leads

takes_cert : (value : Value need_cert) → Takes need_cert value
takes_cert (a_table rows) others left rest leads = (
  replicate (length rows) need_table_row,
  refl,
  moved (map table_row_line rows ++ rest) _ _ left (ap (λ t. t ++ rest) (sym (singles table_row_line rows)))
      (many need_table_row takes_table_row rows others left rest leads),
)
takes_cert (a_bound bound) others left rest leads =
    as_cert bound others left rest (takes_bound 0 bound others left rest leads)

takes_list : (value : Value need_list) → Takes need_list value
takes_list value others left rest leads = (
  replicate (length value.formulas) need_formula,
  refl,
  moved (map formula_line value.formulas ++ rest) _ _ left (ap (λ t. t ++ rest)
      (sym (singles formula_line value.formulas))) (many need_formula takes_formula value.formulas others left rest
      leads),
)

takes_tree : (candidate : List ℕ) (error : ℕ) (outcome : Outcome) (others left : List Need) (rest : List Line)
    → Leads rest others left → Leads (outcome_lines candidate error outcome ++ rest) (need_entry ∷ others) left
takes_tree candidate error (TooLarge vertices) others left rest leads = ([], refl, leads)
takes_tree candidate error (Tree it) others left rest leads = (
  replicate (length it.rows) need_row ++ need_cert ∷ [],
  refl,
  subst (λ needs. Leads ((map row_line it.rows ++ cert_lines it.cert) ++ rest) needs left)
      (sym (append_assoc (replicate (length it.rows) need_row) (need_cert ∷ []) others))
      (moved ((map row_line it.rows ++ cert_lines it.cert) ++ rest)
      (flat_map (value_lines need_row) it.rows ++ (cert_lines it.cert ++ rest)) _ left
      (append_assoc (map row_line it.rows) (cert_lines it.cert) rest
      ∙ ap (λ t. t ++ (cert_lines it.cert ++ rest)) (sym (singles row_line it.rows)))
      (many need_row takes_row it.rows (need_cert ∷ others) left (cert_lines it.cert ++ rest)
      (takes_cert it.cert others left rest leads))),
)

takes_entry : (value : Value need_entry) → Takes need_entry value
takes_entry value others left rest leads = takes_tree value.candidate value.error value.outcome others left rest leads

takes_entries : (value : Value need_entries) → Takes need_entries value
takes_entries value others left rest leads = (
  replicate (length value) need_entry,
  refl,
  many need_entry takes_entry
      value others left rest leads,
)

takes_body : (value : Value need_body) → Takes need_body value
takes_body (Skipped reason) others left rest leads = ([], refl, leads)
takes_body (Solved it) others left rest leads = (
  replicate (length it.lists) need_list ++ need_entries ∷ [],
  refl,
  subst (λ needs. Leads ((flat_map list_lines it.lists ++ value_lines need_entries it.entries) ++ rest) needs left)
      (sym (append_assoc (replicate (length it.lists) need_list) (need_entries ∷ []) others))
      (moved ((flat_map list_lines it.lists ++ value_lines need_entries it.entries) ++ rest)
      (flat_map list_lines it.lists ++ (value_lines need_entries it.entries ++ rest)) _ left
      (append_assoc (flat_map list_lines it.lists) (value_lines need_entries it.entries) rest)
      (many need_list takes_list it.lists (need_entries ∷ others) left (value_lines need_entries it.entries ++ rest)
      (takes_entries it.entries others left rest leads))),
)

takes_ending : (ending : Ending) (others left : List Need) (rest : List Line) → Leads rest others left
    → Leads (ending_line ending ∷ rest) (need_sections ∷ others) left
takes_ending Clean others left rest leads = ([], refl, leads)
takes_ending (Refused fault) others left rest leads = ([], refl, leads)

takes_sections : (sections : List Section) (ending : Ending) (others left : List Need) (rest : List Line)
    → Leads rest others left
    → Leads (flat_map section_lines sections ++ (ending_line ending ∷ rest)) (need_sections ∷ others) left
takes_sections [] ending others left rest leads = takes_ending ending others left rest leads
takes_sections (section ∷ sections) ending others left rest leads =
    let tail : List Line = flat_map section_lines sections ++ (ending_line ending ∷ rest) in (
      need_body ∷ need_done ∷ need_sections ∷ [],
      refl,
      moved (((body_lines section.body ++ done_line ∷ []) ++ flat_map section_lines sections)
          ++ (ending_line ending ∷ rest)) (body_lines section.body ++ (done_line ∷ tail))
          (need_body ∷ need_done ∷ need_sections ∷ others) left
          (append_assoc (body_lines section.body ++ done_line ∷ []) (flat_map section_lines sections)
          (ending_line ending ∷ rest) ∙ append_assoc (body_lines section.body) (done_line ∷ []) tail)
          (takes_body section.body (need_done ∷ need_sections ∷ others) left (done_line ∷ tail)
          ([], refl, takes_sections sections ending others left rest leads)),
    )

-- every document's lines meet the need of a document
pub document_leads : (document : Document) → Leads (lines_of document) (need_document ∷ []) []
document_leads document = (need_sections ∷ [], refl, takes_sections document.sections document.ending [] [] [] refl)

takes_value : (need : Need) (value : Value need) → Takes need value
takes_value need_document value others left rest leads = (
  need_sections ∷ [],
  refl,
  moved ((flat_map section_lines value.sections ++ ending_line value.ending ∷ []) ++ rest)
      (flat_map section_lines value.sections ++ (ending_line value.ending ∷ rest)) _ left
      (append_assoc (flat_map section_lines value.sections) (ending_line value.ending ∷ []) rest)
      (takes_sections value.sections value.ending others left rest leads),
)
takes_value need_sections value others left rest leads =
    moved ((flat_map section_lines value.0 ++ ending_line value.1 ∷ []) ++ rest)
    (flat_map section_lines value.0 ++ (ending_line value.1 ∷ rest)) _ left
    (append_assoc (flat_map section_lines value.0) (ending_line value.1 ∷ []) rest)
    (takes_sections value.0 value.1 others left rest leads)
takes_value need_body value others left rest leads = takes_body value others left rest leads
takes_value need_list value others left rest leads = takes_list value others left rest leads
takes_value need_formula value others left rest leads = takes_formula value others left rest leads
takes_value need_entries value others left rest leads = takes_entries value others left rest leads
takes_value need_entry value others left rest leads = takes_entry value others left rest leads
takes_value need_row value others left rest leads = takes_row value others left rest leads
takes_value need_cert value others left rest leads = takes_cert value others left rest leads
takes_value need_table_row value others left rest leads = takes_table_row value others left rest leads
takes_value (need_bound under) value others left rest leads = takes_bound under value others left rest leads
takes_value need_potentials value others left rest leads = ([], refl, leads)
takes_value need_done value others left rest leads = ([], refl, leads)

-- the lines of all values are taken for their needs
pub all_lead : (needs : List Need) (values : All needs) → Leads (all_lines needs values) needs []
all_lead [] values = refl
all_lead (need ∷ needs) values = takes_value need values.0 needs [] (all_lines needs values.1) (all_lead needs values.1)

pub leads_on : (front later : List Line) (needs left end : List Need) → Leads front needs left → Leads later left end
    → Leads (front ++ later) needs end
leads_on [] later needs left end leads on = subst (λ n. Leads later n end) (sym leads) on
leads_on (line ∷ front) later [] left end leads on = absurd leads
leads_on (line ∷ front) later (need ∷ needs) left end leads on =
    (leads.0, leads.1, leads_on front later (leads.0 ++ needs) left end leads.2 on)
