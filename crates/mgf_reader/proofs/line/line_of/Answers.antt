use Rattle.std.proofs.Common.{get_or, ap, ◌∙◌}
use Rattle.mgf_reader.specs.Bytes.{is_blank}
use Rattle.mgf_reader.proofs.Trimmed.{trimmed-no_blank}
use Rattle.mgf_reader.proofs.line.line_of.Goals as goal

pub form_by_first-requires : goal.form_by_first-requires
form_by_first-requires c = ap (λ line. is_blank (get_or line 0 0)) c.trim.ensures ∙ trimmed-no_blank c.args.bytes.now
