-- `IsReading`: a document that was read has at most as many sections as bytes.
use Rattle.std.proofs.Common.{◌≡◌, ◌≤◌, ◌++◌, ℕ, List, [], ◌∷◌, length, codes, ap, arith, length-append}
use Rattle.std.specs.List.{flat_map}
use Rattle.tree_document.specs.Document.{ending_line, lines_of, section_lines, spelling_of}
use Rattle.tree_document.specs.Line.{Line, line_text}
use Rattle.tree_document.specs.declared.document.Document.{Document}
use Rattle.tree_document.specs.declared.document.Section.{Section}

-- what is told of each item is not empty, so as much is told as there are items at least
at_least-one : {X Y : Type 0} (told : X → List Y) (items : List X) → ((item : X) → 1 ≤ length (told item))
    → length items ≤ length (flat_map told items)
at_least-one told [] some = omega arith
at_least-one told (item ∷ items) some =
    omega (arith, some item, at_least-one told items some, length-append (told item) (flat_map told items))

some_bytes : (line : Line) → 1 ≤ length (line_text line ++ codes "\n")
some_bytes line = omega (arith, length-append (line_text line) (codes "\n"))

some_lines : (section : Section) → 1 ≤ length (section_lines section)
some_lines section = omega arith

pub few_sections : (document : Document) (bytes : List ℕ) (most : ℕ) → bytes ≡ spelling_of document
    → length bytes ≤ most
    → length document.sections ≤ most
few_sections document bytes most spelled short =
    omega (
      arith,
      at_least-one section_lines document.sections some_lines,
      at_least-one (λ (line : Line). line_text line ++ codes "\n") (lines_of document) some_bytes,
      ap length spelled,
      length-append (flat_map section_lines document.sections) (ending_line document.ending ∷ []),
    )
