-- The rules that a formula may have to pass.
use Rattle.std.specs.Prelude.{◌≡◌, ◌≢◌, ◌-◌, ◌++◌, ◌+◌, ◌*◌, ℕ, ℤ, pos, ◌+ℤ◌, ◌-ℤ◌, ◌*ℤ◌, ◌≤ℤ◌, neg_ℤ, int_rem, List}
use Rattle.std.specs.Prelude.{◌∷◌, length, map, replicate, slice_index_or, ⊤}
use Rattle.std.specs.List.{AllByRecursion}
use Rattle.element_table.specs.Elements.{element_count, formula_places, greatest_count, valences}

pub data Parity : Type 0 where
  any : Parity
  even : Parity
  odd : Parity

-- a number made of a formula's counts, which has to be at least 0 and of some parity
pub record Rule : Type 0 where
  pub coefficients : List ℤ
  pub constant : ℤ
  pub parity : Parity

-- the sum of each coefficient times the count at its place
abbrev pub linear_sum : List ℤ → List ℕ → ℤ
linear_sum (coefficient ∷ coefficients) (count ∷ counts) = (coefficient *ℤ pos count) +ℤ linear_sum coefficients counts
linear_sum coefficients counts = pos 0

abbrev pub value_of : Rule → List ℕ → ℤ
value_of rule counts = rule.constant +ℤ linear_sum rule.coefficients counts

abbrev pub HasParity : Parity → ℤ → Type 0
HasParity any n = ⊤
HasParity even n = int_rem n (pos 2) ≡ pos 0
HasParity odd n = int_rem n (pos 2) ≢ pos 0

-- a rule holds for a formula: its number is at least 0 and has the parity
pub record Holds (rule : Rule) (counts : List ℕ) : Type 0 where
  pub not_negative : pos 0 ≤ℤ value_of rule counts
  pub parity : HasParity rule.parity (value_of rule counts)

-- a formula passes the rules: each of them holds for it
abbrev pub Passes : List Rule → List ℕ → Type 0
Passes rules counts = AllByRecursion (λ rule. Holds rule counts) rules

-- what an atom adds to twice the number of rings and double bonds, by places; a place without an element adds nothing
abbrev pub bond_coefficients : List ℤ
bond_coefficients = map (λ valence. pos valence -ℤ pos 2) valences ++ replicate (formula_places - element_count) (pos 0)

-- twice the ring and double bond equivalent, which is the number of rings and double bonds
abbrev pub rdbe2_of : List ℕ → ℤ
rdbe2_of counts = pos 2 +ℤ linear_sum bond_coefficients counts

-- twice the ring and double bond equivalent of a formula is no farther from 0
abbrev pub greatest_rdbe2 : ℕ
greatest_rdbe2 = 2 + element_count * (greatest_count * 2)

-- the rule that says rdbe2_of counts ≥ bound
abbrev pub fragment_rule_of : ℤ → Rule
fragment_rule_of bound = record { coefficients = bond_coefficients; constant = pos 2 -ℤ bound; parity = any }

-- the rule that says that rdbe2_of counts is even and at least 0
abbrev pub neutral_rule_of : Rule
neutral_rule_of = record { coefficients = bond_coefficients; constant = pos 2; parity = even }

-- a number is at most so far from 0
abbrev pub IsNearZero : ℕ → ℤ → Type 0
IsNearZero most z = (neg_ℤ (pos most) ≤ℤ z) × (z ≤ℤ pos most)

-- what every rule is that a program holds: a coefficient for each place and a constant, none of them too far from 0
pub record IsRule (rule : Rule) : Type 0 where
  pub places : length rule.coefficients ≡ formula_places
  pub coefficients : (place : ℕ) → IsNearZero 1000 (slice_index_or rule.coefficients place (pos 0))
  pub constant : IsNearZero 1000000 rule.constant
