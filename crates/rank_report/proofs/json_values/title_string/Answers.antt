use Rattle.std.proofs.Common.{◌++◌, ◌∙◌, ap, arith, subst, sym}
use Rattle.std.specs.Str.{IsUtf8}
use Rattle.tree_document.specs.Title.{escaped}
use Rattle.rank_report.proofs.Ascii.{escaped_utf8}
use Rattle.rank_report.proofs.json_values.title_string.Goals as goal

pub unwrap-requires : goal.unwrap-requires
unwrap-requires c =
    c.from_utf8.ensures.succeeds
    (subst IsUtf8
    (sym (c.in_ok-push_spelling.ensures ∙ ap (λ t. t ++ escaped c.args.title.now) c.new-spelling.ensures.items))
    (escaped_utf8 c.args.title.now (λ place. omega (arith, c.type_inv.title place))))
