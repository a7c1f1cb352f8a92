-- What a table says at a key.
use Rattle.std.specs.Prelude.{ℕ, ◌-◌, ℤ, pos, Bool, false, List, ◌++◌, length, map, replicate, option_and_then}
use Rattle.std.specs.Prelude.{unwrap_or, bytes_eq}
use Rattle.std.specs.Option.{option_map_or}
use Rattle.element_table.specs.Elements.{symbols, formula_places}
use Rattle.toml.specs.Data.{Data, as_integer, as_str, as_array, as_table, get_member, Items, no_items, Members}
use Rattle.toml.specs.Data.{no_members}

-- the integer at a key, or else another
abbrev pub number_at : Members → List ℕ → ℤ → ℤ
number_at members key other = unwrap_or (option_and_then as_integer (get_member key members)) other

abbrev pub is_word : Data → List ℕ → Bool
is_word value word = option_map_or (λ text. bytes_eq text word) (as_str value) false

-- whether the string at a key is this word
abbrev pub says : Members → List ℕ → List ℕ → Bool
says members key word = option_map_or (λ value. is_word value word) (get_member key members) false

abbrev pub table_at : Members → List ℕ → Members
table_at members key = unwrap_or (option_and_then as_table (get_member key members)) no_members

abbrev pub items_at : Members → List ℕ → Items
items_at members key = unwrap_or (option_and_then as_array (get_member key members)) no_items

-- the integer at each element's symbol, by places, and 0 where there is none
unfoldable pub element_numbers : Members → List ℤ
element_numbers members =
    map (λ symbol. number_at members symbol (pos 0)) symbols ++ replicate (formula_places - length symbols) (pos 0)
