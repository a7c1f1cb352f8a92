use Rattle.std.proofs.Common.{◌≡◌, subst, sym}
use Rattle.tree_document.specs.Line.{Line, Spells}
use Rattle.line_fields.proofs.FieldKinds.{Known}
use Rattle.line_fields.proofs.Shapes.{line_sound}
use Rattle.line_fields.proofs.laws.a_line_has_one_spelling.Goals as goal

pub returns : goal.returns
returns c = λ need text line read near shallow.
    let known : Known = record {
      undone = c.reading_undoes_printing.ensures;
      read = c.a_read_formula_is_one.ensures;
      visible = c.a_spelling_is_one_word.ensures.visible;
      numbered = c.a_kind_has_one_number_and_one_word.ensures.numbered;
      number = c.a_kind_has_one_number_and_one_word.ensures.number;
      text = c.a_kind_has_one_number_and_one_word.ensures.text;
      spelled = c.a_kind_has_one_number_and_one_word.ensures.spelled;
    } in
    let reads = line_sound known need text line read in
    let same : line ≡ reads.whole = reads.same near in (
      reads.text_is near,
      record {
        in_range = near;
        shallow = shallow;
        spelled =
            subst (Spells line) (reads.text_is near) (subst (λ (l : Line). Spells l text) (sym same) reads.spelled);
      },
    )
