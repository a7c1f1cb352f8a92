use Rattle.std.proofs.Common.{◌∙◌, ◌++◌, refl, sym, ap, string_bytes}
use Rattle.toml.specs.View.{members_view, view}
use Rattle.profile.specs.Form.{form_at}
use Rattle.profile.specs.Places.{places_of_keys}
use Rattle.profile.specs.inside.Searched.{known_seen, places_seen}
use Rattle.profile.specs.inside.Seen.{form_seen}
use Rattle.profile.proofs.WalkLaws.{item_more, key_more}
use Rattle.profile.proofs.places.+walk.Goals as goal

pub add_keys-keys-preserved : goal.add_keys-keys-preserved
add_keys-keys-preserved t c =
    let known = known_seen c.args.walk.now in
    let form = form_seen c.args.form in
    let before = c.args.before.now in
    let places = places_seen c.keys.places.items in
    let key = string_bytes c.in-Some.key.now in
    let at_key = c.at-own.ensures known refl ∙ ap (form_at known form) c.as_str.ensures.value in
    let named = ap (λ bytes. before ++ bytes) c.as_bytes.ensures.value in
    key_more known form before key (view c.in-Some.value.now) (members_view c.next.new.self) places
    (places_seen c.add_place.new.places.items) (places_seen c.add_under.new.places.items) (form_seen c.at-own.result)
    (before ++ c.as_bytes.result.now) c.deref.result.now c.in_ok-under.ensures.added c.in_ok-add_under.ensures
    (c.deref.ensures.value ∙ c.in_ok-under.ensures.under) at_key named
    ∙ ap (λ members. places ++ places_of_keys known form before (members_view members)) (sym c.in-Some.ensures.steps)
    ∙ c.keys.invariant

pub add_items-items-preserved : goal.add_items-items-preserved
add_items-items-preserved t c =
    item_more (known_seen c.args.walk.now) (form_seen c.args.form) c.args.before.now c.deref-item-items.result.now
    c.items.number c.item-item.result (places_seen c.items.places.items)
    (places_seen c.add_numbered.new.places.items) (places_seen c.add_under.new.places.items)
    (form_seen c.of_item-own.result) c.deref.result.now c.items-test.true c.item-item.is c.in_ok-under.ensures.added
    c.in_ok-add_under.ensures (c.deref.ensures.value ∙ c.in_ok-under.ensures.under) c.of_item-own.ensures
    ∙ c.items.invariant
