use Rattle.std.proofs.Common.{◌∙◌, sym, refl, codes, ap, Option}
use Rattle.std.specs.Prelude.{unwrap_or}
use Rattle.toml.specs.Data.{no_members, Members}
use Rattle.toml.specs.View.{table_view}
use Rattle.profile.specs.Form.{coefficients, rule}
use Rattle.profile.specs.Table.{element_numbers}
use Rattle.profile.proofs.FineLaws.{fine_table}
use Rattle.profile.proofs.RuleLaws.{element_numbers-none}
use Rattle.profile.proofs.values.coefficients_in.Goals as goal

pub coefficients_of-requires : goal.coefficients_of-requires
coefficients_of-requires c = (fine_table rule coefficients (table_view c.args.rule.now) (codes "coefficients")
    (table_view c.in-Some.elements.now) c.requires (λ known. refl) refl (sym c.in-Some.ensures)).1

pub returns-in-None : goal.returns-in-None
returns-in-None c = sym element_numbers-none
    ∙ ap (λ (found : Option Members). element_numbers (unwrap_or found no_members)) c.in-None.ensures
