use Rattle.std.proofs.Common.{◌≡◌, codes, refl, rules}
use Rattle.std.proofs.lemmas.Result.{IfOk-weaker}
use Rattle.serde_json.proofs.OnLiterals.{serde_json_on_literals}
use Rattle.serde_json.specs.Data.{object, string, member, no_members}
use Rattle.serde_json.specs.View.{view}
use Rattle.serde_json.specs.declared.value.Value.{the_lemmas}
use Rattle.rank_report.proofs.JsonTexts.{line_made}
use Rattle.rank_report.proofs.json_report.clean_json.Goals as goal

pub returns : goal.returns
unfolding serde_json_on_literals
returns c =
    let built : view c.in_ok-value.value ≡ object (member (codes "end") (string (codes "clean")) no_members) =
    search (rules, the_lemmas) in
    IfOk-weaker c.line_of.result _ _ (λ text made. line_made _ _ text.items _ made built refl refl) c.line_of.ensures
