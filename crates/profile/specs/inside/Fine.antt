-- Tables and arrays of which nothing is refused, and the numbers in them.
use Rattle.std.specs.Prelude.{◌≡◌, ◌≤ℤ◌, ℕ, ℤ, pos, List, None, unwrap_or, ⊤}
use Rattle.toml.specs.Data.{Data, as_integer, Items, no_items, item, Members, no_members, member}
use Rattle.element_table.specs.Elements.{symbols}
use Rattle.element_table.specs.Rule.{IsNearZero}
use Rattle.score_tables.specs.Tables.{greatest_score, greatest_share}
use Rattle.profile.specs.Form.{Form, Known, pair_bound, pair_score}
use Rattle.profile.specs.Places.{places_of_keys, places_of_items, places_of_losses}
use Rattle.profile.specs.Refusal.{refusal_of}

-- what is known of a table that names these losses
abbrev pub known_with : List (List ℕ) → Known
known_with named = record { symbols = symbols; named = named }

-- a table of this form of which nothing is refused, wherever it stands
pub record IsFine (form : Form) (members : Members) : Type 0 where
  pub before : List ℕ
  pub named : List (List ℕ)
  pub nothing : refusal_of (places_of_keys (known_with named) form before members) ≡ None

-- items of an array of this form of which nothing is refused, wherever they stand
pub record AreFine (form : Form) (items : Items) : Type 0 where
  pub before : List ℕ
  pub number : ℕ
  pub named : List (List ℕ)
  pub nothing : refusal_of (places_of_items (known_with named) form before number items) ≡ None

-- losses of which nothing is refused, wherever they stand, where these are taken
pub record AreFineLosses (taken : List (List ℕ)) (members : Members) : Type 0 where
  pub before : List ℕ
  pub nothing : refusal_of (places_of_losses taken before members) ≡ None

-- a pair whose numbers are in their ranges
pub record IsShareItem (value : Data) : Type 0 where
  pub not_negative : pos 0 ≤ℤ pair_bound value
  pub within : pair_bound value ≤ℤ pos greatest_share
  pub near : IsNearZero greatest_score (pair_score value)

abbrev pub AreShareItems : Items → Type 0
AreShareItems no_items = ⊤
AreShareItems (item value items) = IsShareItem value × AreShareItems items

-- scores that are near 0
abbrev pub AreNearScores : Members → Type 0
AreNearScores no_members = ⊤
AreNearScores (member key value members) =
    IsNearZero greatest_score (unwrap_or (as_integer value) (pos 0)) × AreNearScores members

-- one item
abbrev pub alone : Data → Items
alone value = item value no_items

-- an integer that a number of a profile may be
pub record IsSmallCount (z : ℤ) : Type 0 where
  pub not_negative : pos 0 ≤ℤ z
  pub small : z ≤ℤ pos 2000000
