use Rattle.adducts.proofs.Standing.{one_selection}
use Rattle.adducts.proofs.laws.there_is_one_selection.Goals as goal

pub returns : goal.returns
returns c = one_selection
