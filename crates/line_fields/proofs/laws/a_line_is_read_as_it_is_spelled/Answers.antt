use Rattle.line_fields.proofs.FieldKinds.{Known}
use Rattle.line_fields.proofs.Shapes.{line_complete, line_sound}
use Rattle.line_fields.proofs.laws.a_line_is_read_as_it_is_spelled.Goals as goal

pub returns : goal.returns
returns c =
    let known : Known = record {
      undone = c.reading_undoes_printing.ensures;
      read = c.a_read_formula_is_one.ensures;
      visible = c.a_spelling_is_one_word.ensures.visible;
      numbered = c.a_kind_has_one_number_and_one_word.ensures.numbered;
      number = c.a_kind_has_one_number_and_one_word.ensures.number;
      text = c.a_kind_has_one_number_and_one_word.ensures.text;
      spelled = c.a_kind_has_one_number_and_one_word.ensures.spelled;
    } in
    record { sound = line_sound known; complete = line_complete known }
