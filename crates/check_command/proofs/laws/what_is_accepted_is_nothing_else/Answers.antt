use Rattle.check_command.proofs.OneOutcome.{same_outcome}
use Rattle.check_command.proofs.laws.what_is_accepted_is_nothing_else.Goals as goal

pub returns : goal.returns
returns c settings text bytes count fault other is also =
    same_outcome c.bytes_read_one_way.ensures.one c.a_text_is_read_one_way.ensures.whole
    c.a_rejected_document_is_not_right.ensures settings text bytes count fault other is also
