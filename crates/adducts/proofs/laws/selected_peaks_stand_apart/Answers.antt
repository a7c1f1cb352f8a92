use Rattle.adducts.proofs.Standing.{stand_apart}
use Rattle.adducts.proofs.laws.selected_peaks_stand_apart.Goals as goal

pub returns : goal.returns
returns c = stand_apart
