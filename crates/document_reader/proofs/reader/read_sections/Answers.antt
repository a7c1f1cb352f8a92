use Rattle.std.proofs.Common.{◌≡◌, ◌∙◌, ◌++◌, List, [], ◌∷◌, subst, sym}
use Rattle.std.specs.List.{flat_map}
use Rattle.std.proofs.lemmas.List.{append_assoc}
use Rattle.tree_document.specs.Line.{Line, done_line, refused_line, spectrum_line}
use Rattle.tree_document.specs.Document.{body_lines, ending_line, section_lines}
use Rattle.line_reader.specs.Head.{section_head_line}
use Rattle.line_fields.specs.Need.{follow, need_body, need_done, need_sections}
use Rattle.line_reader.specs.Verdict.{Took, next_needs}
use Rattle.document_reader.proofs.Sequence.{flat_took, last_took, then_took}
use Rattle.document_reader.proofs.reader.read_sections.Goals as goal

pub sections-preserved : goal.sections-preserved
sections-preserved c =
    let before : List Line = flat_map section_lines c.sections.sections.items in
    let first : Line = spectrum_line c.in-Spectrum.line c.in-Spectrum.title in
    let behind : List Line = body_lines c.in-Ok-read_section.both.0.body ++ done_line ∷ [] in
    let head = subst (λ h. Took (need_sections ∷ []) (next_needs (follow need_sections (section_head_line h)))
    (section_head_line h ∷ []) c.sections.rest.now c.in-Ok.both.1.now) c.in-Spectrum.is c.in-Ok.ensures.taken in
    let one : Took (need_sections ∷ []) (need_body ∷ need_done ∷ need_sections ∷ []) (before ++ first ∷ [])
    c.args.bytes.now c.in-Ok.both.1.now =
    then_took (need_sections ∷ []) (need_sections ∷ []) [] (need_body ∷ need_done ∷ need_sections ∷ []) before
    (first ∷ []) c.args.bytes.now c.sections.rest.now c.in-Ok.both.1.now c.sections.invariant head in
    let two : Took (need_sections ∷ []) (need_sections ∷ []) ((before ++ first ∷ []) ++ behind) c.args.bytes.now
    c.in-Ok-read_section.both.1.now =
    then_took (need_sections ∷ []) (need_body ∷ need_done ∷ []) (need_sections ∷ []) [] (before ++ first ∷ []) behind
    c.args.bytes.now c.in-Ok.both.1.now c.in-Ok-read_section.both.1.now one c.in-Ok-read_section.ensures.taken in
    let line : c.in-Spectrum.line ≡ c.in-Ok-read_section.both.0.line = sym c.in-Ok-read_section.ensures.line in
    let title : c.in-Spectrum.title ≡ c.in-Ok-read_section.both.0.title = sym c.in-Ok-read_section.ensures.title in
    let same : (before ++ first ∷ []) ++ behind ≡ before ++ section_lines c.in-Ok-read_section.both.0 =
    append_assoc before (first ∷ []) behind ∙ (λ i. before ++ (spectrum_line (line i) (title i) ∷ behind)) in
    let pushed : c.push.new.self.items ≡ c.sections.sections.items ++ c.in-Ok-read_section.both.0 ∷ [] =
    c.in_ok-push-in-Spectrum.ensures.items in
    flat_took section_lines (need_sections ∷ []) (need_sections ∷ []) c.sections.sections.items c.push.new.self.items
    c.in-Ok-read_section.both.0 c.args.bytes.now c.in-Ok-read_section.both.1.now pushed
    (subst (λ (l : List Line). Took (need_sections ∷ []) (need_sections ∷ []) l c.args.bytes.now
    c.in-Ok-read_section.both.1.now) same two)

pub returns-in-Refused : goal.returns-in-Refused
returns-in-Refused c =
    let head = subst (λ h. Took (need_sections ∷ []) (next_needs (follow need_sections (section_head_line h)))
    (section_head_line h ∷ []) c.sections.rest.now c.in-Ok.both.1.now) c.in-Refused.is c.in-Ok.ensures.taken in
    let whole : Took (need_sections ∷ []) [] (flat_map section_lines c.sections.sections.items
    ++ refused_line c.in-Refused.line c.in-Refused.kind ∷ []) c.args.bytes.now c.in-Ok.both.1.now =
    last_took (need_sections ∷ []) (need_sections ∷ []) (flat_map section_lines c.sections.sections.items)
    (refused_line c.in-Refused.line c.in-Refused.kind ∷ []) c.args.bytes.now c.sections.rest.now c.in-Ok.both.1.now
    c.sections.invariant head in
    let sections = sym c.document_of-in-Refused.ensures.sections in
    let ending = sym c.document_of-in-Refused.ensures.ending in
    subst (λ (l : List Line). Took (need_sections ∷ []) [] l c.args.bytes.now c.in-Ok.both.1.now)
    (λ i. flat_map section_lines (sections i) ++ ending_line (ending i) ∷ []) whole
