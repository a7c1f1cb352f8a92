use Rattle.std.proofs.Common.{None, refl, ap}
use Rattle.tree_document.specs.Line as spec
use Rattle.line_fields.specs.Need.{need_document, or_else}
use Rattle.line_reader.proofs.FirstLines.{head_bad, head_end, head_took}
use Rattle.line_reader.proofs.heads.document_head.Goals as goal

pub returns-in_default : goal.returns-in_default
returns-in_default c = head_end need_document c.args.bytes.now c.in_default.ensures

pub returns-in_default-header : goal.returns-in_default-header
returns-in_default-header c =
    head_bad need_document c.args.bytes.now c.in-Some.line.now c.in-Some.rest.now c.in-Some.ensures
    (ap (λ o. or_else o None) c.in_default-header.ensures)

pub returns : goal.returns
returns c = head_took c.a_line_has_one_spelling.ensures need_document c.args.bytes.now c.in-Some.line.now
    c.in-Some.rest.now (spec.header_line) c.in-Some.ensures (ap (λ o. or_else o None) c.in-Some-header.ensures) refl
