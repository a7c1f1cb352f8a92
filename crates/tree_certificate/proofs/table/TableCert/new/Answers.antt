use Rattle.std.proofs.Common.{◌∙◌, sym, refl, ap}
use Rattle.std.proofs.lemmas.Bool.{false≢true}
use Rattle.tree_certificate.specs.Number.{greatest_number, is_near}
use Rattle.std.specs.List.{list_all}
use Rattle.std.proofs.lemmas.List.Folds.{list_all-map}
use Rattle.tree_certificate.proofs.table.TableCert.new.Goals as goal

pub invariant_of-result : goal.invariant_of-result
invariant_of-result c =
    list_all-map (list_all (is_near greatest_number)) (λ row. row.items) c.args.rows.items
    ∙ ap (list_all (λ row. list_all (is_near greatest_number) row.items)) (sym c.deref.ensures.value)
    ∙ sym c.if-are_numbers.ensures

pub returns-then-are_numbers-clause-some : goal.returns-then-are_numbers-clause-some
returns-then-are_numbers-clause-some c = (
  λ _. list_all-map (list_all (is_near greatest_number)) (λ row. row.items) c.args.rows.items
      ∙ ap (list_all (λ row. list_all (is_near greatest_number) row.items)) (sym c.deref.ensures.value)
      ∙ sym c.if-are_numbers.ensures,
  λ _. refl,
)

pub returns-else-are_numbers-clause-some : goal.returns-else-are_numbers-clause-some
returns-else-are_numbers-clause-some c = (
  λ no. absurd (false≢true no),
  λ all. absurd (false≢true (c.if-are_numbers.ensures ∙ ap (list_all
      (λ row. list_all (is_near greatest_number) row.items)) c.deref.ensures.value
      ∙ sym (list_all-map (list_all (is_near greatest_number)) (λ row. row.items) c.args.rows.items) ∙ all)),
)
