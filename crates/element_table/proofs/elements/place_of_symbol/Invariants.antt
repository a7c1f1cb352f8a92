use Rattle.std.proofs.Common.{◌≡◌, ◌<◌, ℕ, [], false, get_or}
use Rattle.std.specs.Str.{bytes_eq}
use Rattle.element_table.specs.Elements.{symbols}
use Rattle.element_table.proofs.elements.place_of_symbol.Given as goal

-- no element so far has the symbol
abbrev pub invariant-loop-place : goal.invariant-loop-place
invariant-loop-place l = (place : ℕ) → place < l.place → bytes_eq (get_or symbols place []) l.symbol ≡ false
