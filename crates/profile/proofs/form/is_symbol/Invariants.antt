use Rattle.std.proofs.Common.{◌≡◌, drop, map, bytes_eq}
use Rattle.std.specs.List.{list_any}
use Rattle.profile.proofs.form.is_symbol.Given as goal

abbrev pub invariant-loop-symbol : goal.invariant-loop-symbol
invariant-loop-symbol l = list_any (bytes_eq l.key) (map (λ element. element.0.now) (drop l.symbol-index l.elements))
    ≡ list_any (bytes_eq l.key) (map (λ element. element.0.now) l.elements)
