use Rattle.std.proofs.Common.{◌≡◌}
use Rattle.toml.specs.View.{members_view}
use Rattle.profile.specs.Losses.{taken_by}
use Rattle.profile.proofs.places.take_all.Given as goal

abbrev pub invariant-loop-key : goal.invariant-loop-key
invariant-loop-key l = taken_by l.taken.keys (members_view l.key-iterator)
    ≡ taken_by l.fn.taken.keys (members_view l.fn.table.entries)
