use Rattle.std.proofs.Common.{refl}
use Rattle.std.proofs.lemmas.Result.{IfOk-weaker}
use Rattle.rank_report.specs.inside.JsonData.{refused_data}
use Rattle.rank_report.proofs.JsonObjects.{refused_text}
use Rattle.rank_report.proofs.JsonTexts.{line_made}
use Rattle.rank_report.proofs.json_report.refused_json.Goals as goal

pub returns : goal.returns
returns c =
    IfOk-weaker c.line_of.result _ _
    (λ text made. line_made _ (refused_data c.args.fault) text.items _ made c.in_ok-value.ensures refl
    (refused_text c.args.fault))
    c.line_of.ensures
