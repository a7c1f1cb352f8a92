use Rattle.std.proofs.Common.{◌≡◌, ◌++◌}
use Rattle.toml.specs.View.{members_view}
use Rattle.profile.specs.Places.{places_of_losses}
use Rattle.profile.specs.inside.Searched.{places_seen}
use Rattle.profile.proofs.places.add_losses.Given as goal

abbrev pub invariant-loop-key : goal.invariant-loop-key
invariant-loop-key l =
    places_seen l.places.items ++ places_of_losses l.taken.keys l.fn.before (members_view l.key-iterator)
    ≡ places_seen l.fn.places.items ++ places_of_losses l.fn.taken.keys l.fn.before (members_view l.fn.table.entries)
