-- The report of a document as JSON: one compact object on each line, its keys in the order of their bytes, numbers in
-- units. A title is spelled as in a document, and that spelling is what the JSON text holds.
use Rattle.std.specs.Prelude.{◌++◌, ℕ, List, [], ◌∷◌, length, map, codes, decimal}
use Rattle.std.specs.Fmt.{signed_decimal}
use Rattle.std.specs.List.{concat, flat_map}
use Rattle.element_table.specs.FormulaList.{FormulaListValue}
use Rattle.element_table.specs.FormulaText.{formula_text}
use Rattle.json.specs.Print.{quoted}
use Rattle.mgf_reader.specs.Fault.{kind_of_number}
use Rattle.tree_document.specs.Line.{mark_text, word_of}
use Rattle.tree_document.specs.Title.{escaped}
use Rattle.tree_document.specs.declared.document.Body.{Body}
use Rattle.tree_document.specs.declared.document.Body.TheVariants.{Skipped, Solved}
use Rattle.tree_document.specs.declared.document.Document.{Document}
use Rattle.tree_document.specs.declared.document.Ending.{Ending}
use Rattle.tree_document.specs.declared.document.Ending.TheVariants.{Clean, Refused}
use Rattle.tree_document.specs.declared.document.Section.{Section}
use Rattle.tree_document.specs.declared.document.Skip.{Skip}
use Rattle.tree_document.specs.declared.document.Skip.TheVariants.{NoPrecursor, Charge, Range, TooMany}
use Rattle.tree_document.specs.declared.entry.Entry.{Entry}
use Rattle.tree_document.specs.declared.entry.Outcome.{Outcome}
use Rattle.tree_document.specs.declared.entry.Outcome.TheVariants.{Tree, TooLarge}
use Rattle.tree_document.specs.declared.entry.TreeRow.{TreeRow}

-- texts with a comma between them
abbrev pub with_commas : List (List ℕ) → List ℕ
with_commas [] = []
with_commas (text ∷ []) = text
with_commas (text ∷ next ∷ texts) = text ++ (codes "," ++ with_commas (next ∷ texts))

abbrev pub array_json : List (List ℕ) → List ℕ
array_json texts = codes "[" ++ (with_commas texts ++ codes "]")

-- why a spectrum was skipped, in the words of a document
abbrev pub skip_word : Skip → List ℕ
skip_word NoPrecursor = codes "no-precursor"
skip_word Charge = codes "charge"
skip_word (Range mz) = codes "range " ++ decimal mz
skip_word (TooMany mz) = codes "too-many " ++ decimal mz

-- a list
abbrev pub peak_json : FormulaListValue → List ℕ
peak_json list = concat
    (codes "{\"formulas\":" ∷ decimal (length list.formulas) ∷ codes ",\"mz\":" ∷ decimal list.mz ∷ codes "}" ∷ [])

-- a row of a tree
abbrev pub row_json : TreeRow → List ℕ
row_json row = concat
    (codes "{\"formula\":" ∷ quoted (formula_text row.formula) ∷ codes ",\"loss\":" ∷ quoted (formula_text row.loss)
    ∷ codes ",\"parent\":" ∷ decimal row.parent ∷ codes ",\"peak\":" ∷ decimal row.peak
    ∷ codes ",\"weight\":" ∷ signed_decimal row.weight ∷ codes "}" ∷ [])

-- what was found for a candidate: the parts of an entry's text behind its error
abbrev pub outcome_parts : Outcome → List (List ℕ)
outcome_parts (TooLarge vertices) = codes ",\"vertices\":" ∷ decimal vertices ∷ codes "}" ∷ []
outcome_parts (Tree tree) =
    codes ",\"mark\":" ∷ quoted (mark_text tree.mark) ∷ codes ",\"rows\":" ∷ array_json (map row_json tree.rows)
    ∷ codes ",\"score\":" ∷ signed_decimal tree.score ∷ codes ",\"upper\":" ∷ signed_decimal tree.upper ∷ codes "}" ∷ []

abbrev pub entry_json : Entry → List ℕ
entry_json entry = concat
    (codes "{\"candidate\":" ∷ quoted (formula_text entry.candidate) ∷ codes ",\"error\":" ∷ decimal entry.error
    ∷ outcome_parts entry.outcome)

-- the object of a spectrum with this line and title
abbrev pub body_json : ℕ → List ℕ → Body → List ℕ
body_json line title (Skipped reason) = concat
    (codes "{\"line\":" ∷ decimal line ∷ codes ",\"skip\":" ∷ quoted (skip_word reason)
    ∷ codes ",\"title\":" ∷ quoted (escaped title) ∷ codes "}" ∷ [])
body_json line title (Solved it) = concat
    (codes "{\"entries\":" ∷ array_json (map entry_json it.entries) ∷ codes ",\"line\":" ∷ decimal line
    ∷ codes ",\"peaks\":" ∷ array_json (map peak_json it.lists)
    ∷ codes ",\"title\":" ∷ quoted (escaped title) ∷ codes "}" ∷ [])

abbrev pub section_json_of : Section → List ℕ
section_json_of section = body_json section.line section.title section.body ++ codes "\n"

abbrev pub ending_json_of : Ending → List ℕ
ending_json_of Clean = codes "{\"end\":\"clean\"}\n"
ending_json_of (Refused fault) = concat
    (codes "{\"end\":\"refused\",\"kind\":" ∷ quoted (word_of (kind_of_number fault.kind))
    ∷ codes ",\"line\":" ∷ decimal fault.line ∷ codes "}" ∷ []) ++ codes "\n"

-- The report of a document as JSON.
abbrev pub report_json_of : Document → List ℕ
report_json_of document = flat_map section_json_of document.sections ++ ending_json_of document.ending
