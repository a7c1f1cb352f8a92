use Rattle.std.proofs.Common.{◌∙◌, ◌++◌, sym, ap, string_bytes}
use Rattle.toml.specs.View.{members_view, view}
use Rattle.profile.specs.Form.{loss}
use Rattle.profile.specs.Losses.{is_free, key_formula, taken_with}
use Rattle.profile.specs.Places.{places_of_losses}
use Rattle.profile.specs.inside.Searched.{one_place, places_seen}
use Rattle.profile.proofs.WalkLaws.{loss_more}
use Rattle.profile.proofs.places.add_losses.Goals as goal

pub loop-key-preserved : goal.loop-key-preserved
loop-key-preserved c =
    let before = c.args.before.now in
    let taken = c.loop-key.taken.keys in
    let places = places_seen c.loop-key.places.items in
    let value = view c.in-Some.value.now in
    let added = c.in_ok-add_loss.ensures.added
    ∙ ap (λ k. places ++ one_place (before ++ k) (loss (is_free taken (key_formula k))) value) c.as_str.ensures.value in
    let takes = c.in_ok-add_loss.ensures.taken ∙ ap (λ k. taken_with taken (key_formula k)) c.as_str.ensures.value in
    loss_more taken c.add_loss.new.taken.keys before (string_bytes c.in-Some.key.now) value
    (members_view c.next.new.self) places (places_seen c.add_loss.new.places.items) added takes
    ∙ ap (λ members. places ++ places_of_losses taken before (members_view members)) (sym c.in-Some.ensures.steps)
    ∙ c.loop-key.invariant
