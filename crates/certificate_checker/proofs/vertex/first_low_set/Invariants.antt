use Rattle.std.proofs.Common.{◌<◌, ◌*◌, ◌+◌, Bool, List}
use Rattle.tree_certificate.specs.ColourSet.{place_of}
use Rattle.tree_certificate.specs.Enough.{IsEnough}
use Rattle.tree_certificate.specs.Number.{number_in}
use Rattle.certificate_checker.proofs.vertex.first_low_set.Given as goal

abbrev pub invariant-loop-set : goal.invariant-loop-set
invariant-loop-set l = (set : List Bool) → place_of set < l.set
    → IsEnough l.own l.gains set (number_in l.row (l.step * (1 + 2 * place_of set)))
