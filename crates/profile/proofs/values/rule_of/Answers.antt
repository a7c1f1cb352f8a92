use Rattle.std.proofs.Common.{◌∙◌, pos, negsuc, sym, subst, refl, codes, arith, rules}
use Rattle.element_table.specs.Rule.{IsRule}
use Rattle.valence_filter.specs.Parity.{parity_of}
use Rattle.toml.specs.View.{table_view}
use Rattle.profile.specs.Form as form
use Rattle.profile.specs.Values.{rule_of}
use Rattle.profile.proofs.ElementCast.{fits_narrow, fits_narrowed, narrowed}
use Rattle.profile.proofs.FineLaws.{number_in_range}
use Rattle.profile.proofs.RuleLaws.{rule_of_is_rule, same_rule}
use Rattle.profile.proofs.values.rule_of.Goals as goal

pub overflow_cast-result : goal.overflow_cast-result
overflow_cast-result c =
    let (low, high) = rw (← c.number_at.ensures) at
    (number_in_range form.rule (table_view c.args.rule.now) (codes "constant") (negsuc 999999) (pos 1000000)
    (pos 0) c.requires (λ known is. refl) (omega arith) (omega arith)) in
    fits_narrowed c.number_at.result (search rules) (fits_narrow c.number_at.result low high)

pub invariant_of-result : goal.invariant_of-result
invariant_of-result c =
    let entries = table_view c.args.rule.now in
    let (low, high) = rw (← c.number_at.ensures) at
    (number_in_range form.rule entries (codes "constant") (negsuc 999999) (pos 1000000) (pos 0) c.requires
    (λ known is. refl) (omega arith) (omega arith)) in
    let constant = narrowed c.number_at.result (search rules) (fits_narrow c.number_at.result low high) in
    subst IsRule (sym (same_rule (rule_of entries) c.coefficients_in.result _
    (parity_of c.parity_in.result) c.coefficients_in.ensures (constant ∙ c.number_at.ensures) c.parity_in.ensures))
    (rule_of_is_rule entries c.requires)

pub returns : goal.returns
returns c =
    let entries = table_view c.args.rule.now in
    let (low, high) = rw (← c.number_at.ensures) at
    (number_in_range form.rule entries (codes "constant") (negsuc 999999) (pos 1000000) (pos 0) c.requires
    (λ known is. refl) (omega arith) (omega arith)) in
    let constant = narrowed c.number_at.result (search rules) (fits_narrow c.number_at.result low high) in
    same_rule (rule_of entries) c.coefficients_in.result _ (parity_of c.parity_in.result) c.coefficients_in.ensures
    (constant ∙ c.number_at.ensures) c.parity_in.ensures
