use Rattle.std.proofs.Common.{◌≡◌, drop}
use Rattle.std.specs.List.{find}
use Rattle.std.specs.Str.{bytes_eq}
use Rattle.adducts.specs.declared.adduct.TheConstants.{ADDUCTS}
use Rattle.adducts.proofs.adduct.by_name.Given as goal

abbrev pub invariant-loop-known : goal.invariant-loop-known
invariant-loop-known l =
    find (λ row. bytes_eq row.0.now l.name) (drop l.known-index ADDUCTS)
    ≡ find (λ row. bytes_eq row.0.now l.name) ADDUCTS
