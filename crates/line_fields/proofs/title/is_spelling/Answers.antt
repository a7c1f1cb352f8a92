use Rattle.std.proofs.Common.{◌≡◌, ◌&&◌, ◌++◌, ◌∙◌, ap, arith, sym, true}
use Rattle.std.specs.Str.{bytes_eq}
use Rattle.tree_document.specs.Title.{are_bytes, escaped}
use Rattle.line_fields.proofs.Titles.{fit_bytes}
use Rattle.line_fields.proofs.title.is_spelling.Goals as goal

pub returns : goal.returns
returns c =
    let bytes : are_bytes c.args.title.now ≡ true =
    fit_bytes c.args.title.now (λ place. omega (arith, c.type_inv.title place)) in
    let again : c.as_slice.result.now ≡ escaped c.args.title.now =
    c.as_slice.ensures.value ∙ c.in_ok-push_spelling.ensures
    ∙ ap (λ t. t ++ escaped c.args.title.now) c.new-again.ensures.items in
    c.eq.ensures ∙ ap (λ t. bytes_eq t c.args.spelled.now) again
    ∙ ap (λ b. b && bytes_eq (escaped c.args.title.now) c.args.spelled.now) (sym bytes)
