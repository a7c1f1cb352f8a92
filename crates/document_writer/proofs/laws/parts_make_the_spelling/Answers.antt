use Rattle.std.proofs.Common.{◌∙◌, ◌++◌, [], ◌∷◌, ap}
use Rattle.std.specs.List.{flat_map}
use Rattle.tree_document.specs.Document.{ending_line, section_lines, text_of}
use Rattle.tree_document.specs.Line.{header_line}
use Rattle.document_writer.proofs.TextOf.{text_of-append, text_of_flat}
use Rattle.document_writer.proofs.laws.parts_make_the_spelling.Goals as goal

pub returns : goal.returns
returns c = λ document.
    let end = text_of (ending_line document.ending ∷ []) in
    ap (λ t. text_of (header_line ∷ []) ++ t)
    (text_of-append (flat_map section_lines document.sections) (ending_line document.ending ∷ [])
    ∙ ap (λ t. t ++ end) (text_of_flat section_lines document.sections))
