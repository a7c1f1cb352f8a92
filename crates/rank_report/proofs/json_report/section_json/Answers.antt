use Rattle.std.proofs.Common.{◌++◌, ap, codes}
use Rattle.std.proofs.lemmas.Result.{IfOk-weaker}
use Rattle.rank_report.specs.inside.JsonData.{body_data}
use Rattle.rank_report.proofs.JsonObjects.{body_has_no_float, body_text}
use Rattle.rank_report.proofs.JsonTexts.{line_made}
use Rattle.rank_report.proofs.json_report.section_json.Goals as goal

pub returns : goal.returns
returns c =
    let it = c.args.section.now in
    IfOk-weaker c.line_of.result _ _
    (λ text made. line_made _ (body_data it.line it.title it.body) text.items _ made c.in_ok-value.ensures
    (body_has_no_float it.line it.title it.body) (ap (λ t. t ++ codes "\n") (body_text it.line it.title it.body)))
    c.line_of.ensures
