use Rattle.check_command.proofs.IsReading.{few_sections}
use Rattle.check_command.proofs.document.check_text.Goals as goal

pub compare-requires-clause-few : goal.compare-requires-clause-few
compare-requires-clause-few g c = few_sections c.in-Ok.document _ _ c.in-Ok.ensures.answer.1 c.requires.document
