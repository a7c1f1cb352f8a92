use Rattle.std.proofs.Common.{◌<◌, ◌*◌, ◌+◌, ℤ, Bool, List, length}
use Rattle.tree_certificate.specs.ColourSet.{place_of}
use Rattle.tree_certificate.specs.Enough.{IsEnough}
use Rattle.tree_certificate.specs.Number.{number_in}
use Rattle.certificate_checker.specs.inside.Enough.{AreNoGains}
use Rattle.certificate_checker.proofs.vertex.first_below.Given as goal

abbrev pub invariant-loop-set : goal.invariant-loop-set
invariant-loop-set l = (gains : List ℤ) → AreNoGains gains (length l.own) → (set : List Bool) → place_of set < l.set
    → IsEnough l.own gains set (number_in l.row (l.step * (1 + 2 * place_of set)))
