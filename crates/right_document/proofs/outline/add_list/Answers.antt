use Rattle.std.proofs.Common.{◌≡◌, ◌∙◌, ◌≤◌, ◌++◌, ◌∷◌, [], false, not, List, ℕ, length, nat_lt, ap, sym, subst, arith}
use Rattle.std.proofs.lemmas.Bool.Decides.{nat_tests}
use Rattle.element_table.specs.Listed.{listed_of}
use Rattle.element_table.specs.FormulaList.{greatest_list}
use Rattle.right_document.specs.RunSettings.{formulas_at}
use Rattle.right_document.specs.SettingsOf.{settings_value_of}
use Rattle.right_document.proofs.outline.add_list.Goals as goal

pub returns-in_ok-push-in-Ok-clause-told : goal.returns-in_ok-push-in-Ok-clause-told
returns-in_ok-push-in-Ok-clause-told g c =
    let settings = settings_value_of c.args.settings.now in
    let list : c.in-Ok.formulas.items ≡ formulas_at settings c.args.mz =
    c.in-Ok.ensures.filter ∙ ap (λ window. listed_of window settings.limits settings.rules) c.window.ensures
    in
    let few : length (formulas_at settings c.args.mz) ≤ greatest_list =
    subst (λ (formulas : List (List ℕ)). length formulas ≤ greatest_list) list c.in-Ok.ensures.few in
    let not_more : nat_lt greatest_list (length (formulas_at settings c.args.mz)) ≡ false = grind (arith, nat_tests) in
    sym (ap not not_more)

pub returns-in_ok-push-in-Ok-clause-lists : goal.returns-in_ok-push-in-Ok-clause-lists
returns-in_ok-push-in-Ok-clause-lists g c is =
    let settings = settings_value_of c.args.settings.now in
    let list : c.in-Ok.formulas.items ≡ formulas_at settings c.args.mz =
    c.in-Ok.ensures.filter ∙ ap (λ window. listed_of window settings.limits settings.rules) c.window.ensures
    in
    c.in_ok-push-in-Ok.ensures.items
    ∙ ap (λ (formulas : List (List ℕ)). c.args.lists.now.items
    ++ (record { mz = c.args.mz; intensity = c.args.intensity; formulas = formulas }) ∷ []) (c.of.ensures ∙ list)
