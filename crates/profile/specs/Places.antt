-- The places of a profile text in the order of the walk: a table's keys in byte order and an array's items by place,
-- each followed by all that stands under it. The walk goes under a value only where its form has something to look for.
use Rattle.std.specs.Prelude.{ℕ, ◌+◌, List, [], ◌∷◌, ◌++◌, Option, Some, None, codes, decimal, if◌then◌else◌}
use Rattle.element_table.specs.Elements.{symbols}
use Rattle.toml.specs.Data.{Data, array, table, Items, no_items, item, Members, no_members, member}
use Rattle.profile.specs.Form.{Form, Known, whole, loss, form_at, has_keys, has_items, item_form, taken_at}
use Rattle.profile.specs.Losses.{is_free, key_formula, taken_by, taken_with}
use Rattle.profile.specs.Table.{table_at}

-- a value, what it may be, and its name: the keys and the numbers of items that lead to it, joined by points
pub record Place : Type 0 where
  pub name : List ℕ
  pub form : Form
  pub value : Data

-- what stands before the names of what is under a place
abbrev pub point_after : List ℕ → List ℕ
point_after name = name ++ codes "."

-- the places of a table whose keys are losses: each key is to give a loss, and none that is taken or that a key before
-- it gives
abbrev pub places_of_losses : List (List ℕ) → List ℕ → Members → List Place
places_of_losses taken before no_members = []
places_of_losses taken before (member key value members) =
    record { name = before ++ key; form = loss (is_free taken (key_formula key)); value = value }
    ∷ places_of_losses (taken_with taken (key_formula key)) before members

-- the same, where there is such a table
abbrev pub places_where_taken : Option (List (List ℕ)) → List ℕ → Members → List Place
places_where_taken None before entries = []
places_where_taken (Some taken) before entries = places_of_losses taken before entries

abbrev mutual
  -- what stands under a value, whose names all begin so
  pub places_under : Known → Form → List ℕ → Data → List Place
  places_under known form before (table members) =
      if has_keys form then places_of_keys known form before members
      else places_where_taken (taken_at known form) before members
  places_under known form before (array items) =
      if has_items form then places_of_items known form before 0 items else []
  places_under known form before value = []

  pub places_of_keys : Known → Form → List ℕ → Members → List Place
  places_of_keys known form before no_members = []
  places_of_keys known form before (member key value members) =
      record { name = before ++ key; form = form_at known form key; value = value }
      ∷ (places_under known (form_at known form key) (point_after (before ++ key)) value
      ++ places_of_keys known form before members)

  pub places_of_items : Known → Form → List ℕ → ℕ → Items → List Place
  places_of_items known form before number no_items = []
  places_of_items known form before number (item value items) =
      record { name = before ++ decimal number; form = item_form form number; value = value }
      ∷ (places_under known (item_form form number) (point_after (before ++ decimal number)) value
      ++ places_of_items known form before (number + 1) items)

-- a place, and then all that stands under it
abbrev pub place_with : Known → Form → List ℕ → Data → List Place
place_with known form name value =
    record { name = name; form = form; value = value } ∷ places_under known form (point_after name) value

-- what is known of a whole table
abbrev pub known_of : Members → Known
known_of members =
    record { symbols = symbols; named = taken_by [] (table_at (table_at members (codes "scores")) (codes "named")) }

-- the places of a whole table
abbrev pub places_of : Members → List Place
places_of members = places_of_keys (known_of members) whole [] members
