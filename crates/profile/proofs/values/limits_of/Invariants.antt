use Rattle.std.proofs.Common.{◌≡◌, ◌++◌, ◌-◌, take, replicate}
use Rattle.toml.specs.View.{table_view}
use Rattle.profile.specs.Values.{limits_of}
use Rattle.profile.proofs.values.limits_of.Given as goal

-- the places so far, and noughts
abbrev pub invariant-loop-place : goal.invariant-loop-place
invariant-loop-place l = l.counts ≡ take l.place (limits_of (table_view l.elements)) ++ replicate (16 - l.place) 0
