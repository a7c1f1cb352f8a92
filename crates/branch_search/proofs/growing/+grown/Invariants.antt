use Rattle.branch_search.specs.inside.Growing.{grown_of, splits_in}
use Rattle.branch_search.proofs.growing.+grown.Given as goal

abbrev pub decreases-grown : goal.decreases-grown
decreases-grown g l = splits_in (grown_of l.node)
