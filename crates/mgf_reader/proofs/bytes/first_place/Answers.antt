use Rattle.std.proofs.Common.{◌≡◌, ◌∙◌, ap, length, rules, tests}
use Rattle.std.specs.Prelude.{position, unwrap_or}
use Rattle.std.proofs.lemmas.Iterator.{YieldsList-from_slice}
use Rattle.std.proofs.lemmas.Iterator.Search.{position_from_yields_List}
use Rattle.mgf_reader.specs.inside.ByteClass.{is_of}
use Rattle.mgf_reader.proofs.FieldsBy.{place_is}
use Rattle.mgf_reader.proofs.bytes.first_place.Goals as goal

pub returns-clause-place : goal.returns-clause-place
returns-clause-place c =
    let bytes = c.args.bytes.now in
    let p = is_of c.args.class in
    let found : c.position.result ≡ position p bytes =
    position_from_yields_List p _ _ c.position.result c.position.ensures.ran (YieldsList-from_slice bytes cc)
    (λ x b q k. search (rules, tests)) in
    c.unwrap_or.ensures ∙ ap (λ place. unwrap_or place (length bytes)) found ∙ place_is p bytes
