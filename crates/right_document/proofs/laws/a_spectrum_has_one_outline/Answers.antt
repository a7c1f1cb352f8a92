use Rattle.right_document.proofs.OneOutline.{same_outlined}
use Rattle.right_document.proofs.laws.a_spectrum_has_one_outline.Goals as goal

pub returns : goal.returns
returns c settings spectrum one other first second =
    same_outlined c.there_is_one_selection.ensures settings spectrum one other first second
