use Rattle.std.proofs.Common.{◌∙◌, sym, ap, length, arith}
use Rattle.mgf_reader.proofs.FormWithin.{blank_by_length, peak_by_first, comment_by_first, no_form_by_first}
use Rattle.mgf_reader.proofs.line.form_by_first.Goals as goal

pub returns-in_default : goal.returns-in_default
returns-in_default c = blank_by_length c.args.line.now (omega arith)

pub returns-then-is_peak_start : goal.returns-then-is_peak_start
returns-then-is_peak_start c = peak_by_first c.args.line.now (sym c.is_peak_start.ensures ∙ c.if-is_peak_start.true)

pub returns-then-is_comment_mark : goal.returns-then-is_comment_mark
returns-then-is_comment_mark c = comment_by_first c.args.line.now (sym c.is_comment_mark.ensures
    ∙ c.if-is_comment_mark.true)

pub returns-else-is_comment_mark : goal.returns-else-is_comment_mark
returns-else-is_comment_mark c = no_form_by_first c.args.line.now (λ same. omega (arith, ap length same))
    (sym c.is_peak_start.ensures ∙ c.if-is_peak_start.false) (sym c.is_name_byte.ensures ∙ c.if-is_name_byte.false)
    (sym c.is_comment_mark.ensures ∙ c.if-is_comment_mark.false) c.requires
