-- The report of a list: for each spectrum its lists of formulas or why it was skipped, and an ending, in the lines of a
-- document.
use Rattle.std.specs.Prelude.{◌++◌, ℕ, List, [], ◌∷◌, length}
use Rattle.std.specs.List.{flat_map}
use Rattle.tree_document.specs.declared.document.Ending.{Ending}
use Rattle.tree_document.specs.Document.{ending_line, list_lines, text_of}
use Rattle.tree_document.specs.Line.{Line, done_line, lists_line, skip_line, spectrum_line}
use Rattle.tree_document.specs.Outline.{OutlineValue, skipped, listed}

-- the lines of a document's section, without its entries
abbrev pub outline_lines : OutlineValue → List Line
outline_lines (skipped reason) = skip_line reason ∷ []
outline_lines (listed lists) = lists_line (length lists) ∷ flat_map list_lines lists

-- the section of a spectrum with this line, title and outline
abbrev pub list_section_text : ℕ → List ℕ → OutlineValue → List ℕ
list_section_text line title outline =
    text_of (spectrum_line line title ∷ []) ++ text_of (outline_lines outline) ++ text_of (done_line ∷ [])

abbrev pub list_ending_text : Ending → List ℕ
list_ending_text ending = text_of (ending_line ending ∷ [])
