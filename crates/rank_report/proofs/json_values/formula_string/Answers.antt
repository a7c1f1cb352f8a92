use Rattle.std.proofs.Common.{◌∙◌, rules, subst, sym}
use Rattle.std.specs.Str.{IsUtf8}
use Rattle.rank_report.proofs.Ascii.{formula_utf8}
use Rattle.rank_report.proofs.json_values.formula_string.Goals as goal

pub unwrap-requires : goal.unwrap-requires
unwrap-requires c =
    let text : IsUtf8 c.items.result.now =
    subst IsUtf8 (sym (c.items.ensures.bytes ∙ c.print_formula-spelling.ensures))
    (formula_utf8 c.args.formula.now
    (c.a_spelling_is_one_word.ensures.visible c.args.formula.now c.is_formula.ensures)) in
    search rules
