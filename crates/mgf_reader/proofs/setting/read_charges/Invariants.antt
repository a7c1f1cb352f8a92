use Rattle.std.proofs.Common.{◌≡◌, ◌++◌, length}
use Rattle.std.specs.Option.{option_map}
use Rattle.mgf_reader.specs.Parameter.{charges_of}
use Rattle.mgf_reader.proofs.setting.read_charges.Given as goal

abbrev pub invariant-loop-item : goal.invariant-loop-item
invariant-loop-item l = charges_of l.value ≡ option_map (λ more. l.charges.items ++ more) (charges_of l.left)

abbrev pub decreases-loop-item : goal.decreases-loop-item
decreases-loop-item l = length l.left
