use Rattle.std.proofs.Common.{◌≡◌, ◌++◌, drop}
use Rattle.toml.specs.View.{items_view, members_view}
use Rattle.profile.specs.Places.{places_of_keys, places_of_items}
use Rattle.profile.specs.inside.Searched.{known_seen, places_seen}
use Rattle.profile.specs.inside.Seen.{form_seen}
use Rattle.profile.proofs.places.+walk.Given as goal

abbrev pub invariant-add_items-items : goal.invariant-add_items-items
invariant-add_items-items l =
    places_seen l.places.items ++ places_of_items (known_seen l.fn.walk)
    (form_seen l.fn.form) l.fn.before l.number (items_view (drop l.number l.item-items))
    ≡ places_seen l.fn.places.items ++ places_of_items (known_seen l.fn.walk) (form_seen l.fn.form) l.fn.before 0
    (items_view l.item-items)

abbrev pub invariant-add_keys-keys : goal.invariant-add_keys-keys
invariant-add_keys-keys l =
    places_seen l.places.items ++ places_of_keys (known_seen l.fn.walk) (form_seen l.fn.form) l.fn.before
    (members_view l.key-iterator)
    ≡ places_seen l.fn.places.items ++ places_of_keys (known_seen l.fn.walk) (form_seen l.fn.form) l.fn.before
    (members_view l.fn.table.entries)
