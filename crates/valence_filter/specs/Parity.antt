-- The parities of this crate's rules, as the definitions of rules see them.
use Rattle.std.specs.Prelude.{◌≡◌, refl}
use Rattle.element_table.specs.Rule as rule
use Rattle.valence_filter.specs.declared.rule.Parity.{Parity}
use Rattle.valence_filter.specs.declared.rule.Parity.TheVariants.{Any, Even, Odd}

abbrev pub parity_of : Parity → rule.Parity
parity_of Any = rule.any
parity_of Even = rule.even
parity_of Odd = rule.odd

-- and back
abbrev pub seen_as : rule.Parity → Parity
seen_as rule.any = Any
seen_as rule.even = Even
seen_as rule.odd = Odd

pub seen_as-parity_of : (parity : Parity) → seen_as (parity_of parity) ≡ parity
seen_as-parity_of Any = refl
seen_as-parity_of Even = refl
seen_as-parity_of Odd = refl
