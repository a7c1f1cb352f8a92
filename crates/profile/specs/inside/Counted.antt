-- How many items or keys a value has, where they are too many.
use Rattle.std.specs.Prelude.{ℕ, ℤ, Option, None}
use Rattle.toml.specs.Data.{Data, array, table}
use Rattle.profile.specs.Form.{items_len, members_len, too_many}

abbrev pub items_excess : ℕ → Data → Option ℤ
items_excess greatest (array values) = too_many greatest (items_len values)
items_excess greatest value = None

abbrev pub keys_excess : ℕ → Data → Option ℤ
keys_excess greatest (table entries) = too_many greatest (members_len entries)
keys_excess greatest value = None
