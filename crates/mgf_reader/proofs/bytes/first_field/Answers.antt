use Rattle.std.proofs.Common.{◌∙◌, sym}
use Rattle.std.proofs.lemmas.List.{take_rest}
use Rattle.mgf_reader.specs.inside.ByteClass.{is_of}
use Rattle.mgf_reader.proofs.FieldsBy.{no_field, first_field_is, rest_is_shorter, is_empty_true, is_empty_false}
use Rattle.mgf_reader.proofs.bytes.first_field.Goals as goal

pub returns-then-is_empty-clause-fields : goal.returns-then-is_empty-clause-fields
returns-then-is_empty-clause-fields c = no_field (is_of c.args.class) c.args.bytes.now (sym c.trim_front-left.ensures
    ∙ is_empty_true c.trim_front-left.result.now cc)

pub returns-clause-fields : goal.returns-clause-fields
returns-clause-fields c =
    let left = c.trim_front-left.result.now in
    let fields = first_field_is (is_of c.args.class) c.args.bytes.now left c.trim_front-left.ensures
    (is_empty_false left cc) in
    let place = c.first_place-end.ensures.place in
    rw take_rest (rw place fields)

pub returns-clause-shorter : goal.returns-clause-shorter
returns-clause-shorter c =
    let left = c.trim_front-left.result.now in
    rw take_rest (rest_is_shorter (is_of c.args.class) c.args.bytes.now left c.first_place-end.result
    c.trim_front-left.ensures (is_empty_false left cc) c.first_place-end.ensures.place)
