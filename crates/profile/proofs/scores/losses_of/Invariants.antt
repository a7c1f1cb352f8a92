use Rattle.std.proofs.Common.{◌≡◌, ◌++◌}
use Rattle.toml.specs.View.{members_view}
use Rattle.profile.specs.inside.Fine.{AreNearScores}
use Rattle.profile.specs.Values.{losses_said}
use Rattle.profile.proofs.scores.losses_of.Given as goal

abbrev pub invariant-loop-key : goal.invariant-loop-key
invariant-loop-key l = record {
  near : AreNearScores (members_view l.key-iterator);
  so_far : l.losses.items ++ losses_said (members_view l.key-iterator) ≡ losses_said (members_view l.fn.table.entries);
}
