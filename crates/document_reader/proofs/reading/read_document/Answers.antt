use Rattle.std.proofs.Common.{[], ◌∷◌, inl, subst, sym}
use Rattle.mgf_reader.specs.Text.{ended_lines}
use Rattle.tree_document.specs.Document.{lines_of}
use Rattle.line_fields.specs.Need.{need_document}
use Rattle.line_reader.specs.Taking.{StopsAs}
use Rattle.document_reader.proofs.SmallCerts.{small_read}
use Rattle.document_reader.proofs.Whole.{refused, within}
use Rattle.document_reader.proofs.reading.read_document.Goals as goal

pub returns-in-Err-Bad-clause-answer : goal.returns-in-Err-Bad-clause-answer
returns-in-Err-Bad-clause-answer c = inl (c.lines_stop_as_documents_say.ensures.bad (ended_lines c.args.bytes.now)
    (ended_lines c.in-Err-Bad.left.now) c.line_of.result (subst (StopsAs (need_document ∷ []) c.args.bytes.now)
    c.in-Err-Bad.field-0-is c.in-Err-Bad.ensures []) c.line_of.ensures)

pub returns-in-Err-Big-clause-answer : goal.returns-in-Err-Big-clause-answer
returns-in-Err-Big-clause-answer c =
    c.lines_stop_as_documents_say.ensures.big (ended_lines c.args.bytes.now) (ended_lines c.in-Err-Big.left.now)
    c.line_of-in-Err-Big.result (subst (StopsAs (need_document ∷ []) c.args.bytes.now) c.in-Err-Big.field-0-is
    c.in-Err-Big.ensures []) c.line_of-in-Err-Big.ensures

pub returns-in-Err-Deep-clause-answer : goal.returns-in-Err-Deep-clause-answer
returns-in-Err-Deep-clause-answer c =
    c.lines_stop_as_documents_say.ensures.deep (ended_lines c.args.bytes.now) (ended_lines c.in-Err-Deep.left.now)
    c.line_of-in-Err-Deep.result (subst (StopsAs (need_document ∷ []) c.args.bytes.now) c.in-Err-Deep.field-0-is
    c.in-Err-Deep.ensures []) c.line_of-in-Err-Deep.ensures

pub returns-clause-answer : goal.returns-clause-answer
returns-clause-answer c =
    refused c.lines_stop_as_documents_say.ensures.bad c.lines_stop_as_documents_say.ensures.past_end
    (lines_of c.in-Ok.both.0) c.args.bytes.now c.in-Ok.both.1.now c.line_of-2.result c.in-Ok.ensures
    (sym c.if-is_empty.ensures) c.line_of-2.ensures

pub returns-then-is_empty-clause-small : goal.returns-then-is_empty-clause-small
returns-then-is_empty-clause-small c =
    small_read c.in-Ok.both.0 (need_document ∷ []) [] c.args.bytes.now c.in-Ok.both.1.now c.in-Ok.ensures c.requires

pub line_of-requires-clause-last : goal.line_of-requires-clause-last
line_of-requires-clause-last c =
    c.lines_stop_as_documents_say.ensures.bad_within (ended_lines c.args.bytes.now) (ended_lines c.in-Err-Bad.left.now)
    (subst (StopsAs (need_document ∷ []) c.args.bytes.now) c.in-Err-Bad.field-0-is c.in-Err-Bad.ensures [])

pub line_of-requires-in-Err-Big-clause-last : goal.line_of-requires-in-Err-Big-clause-last
line_of-requires-in-Err-Big-clause-last c =
    c.lines_stop_as_documents_say.ensures.big_within (ended_lines c.args.bytes.now) (ended_lines c.in-Err-Big.left.now)
    (subst (StopsAs (need_document ∷ []) c.args.bytes.now) c.in-Err-Big.field-0-is c.in-Err-Big.ensures [])

pub line_of-requires-in-Err-Deep-clause-last : goal.line_of-requires-in-Err-Deep-clause-last
line_of-requires-in-Err-Deep-clause-last c =
    c.lines_stop_as_documents_say.ensures.deep_within (ended_lines c.args.bytes.now)
    (ended_lines c.in-Err-Deep.left.now) (subst (StopsAs (need_document ∷ []) c.args.bytes.now) c.in-Err-Deep.field-0-is
    c.in-Err-Deep.ensures [])

pub line_of-requires-2-clause-last : goal.line_of-requires-2-clause-last
line_of-requires-2-clause-last c =
    within c.lines_stop_as_documents_say.ensures.bad_within (lines_of c.in-Ok.both.0) c.args.bytes.now
    c.in-Ok.both.1.now c.in-Ok.ensures
