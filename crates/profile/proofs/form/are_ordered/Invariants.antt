use Rattle.std.proofs.Common.{◌≡◌}
use Rattle.score_tables.specs.Tables.{are_ordered}
use Rattle.profile.specs.inside.Ordered.{comes}
use Rattle.profile.proofs.KindLaws.{bounds_from}
use Rattle.profile.proofs.form.are_ordered.Given as goal

abbrev pub invariant-loop-place : goal.invariant-loop-place
invariant-loop-place l = are_ordered (comes l.rises) l.last (bounds_from l.items.items l.place)
    ≡ are_ordered (comes l.rises) l.last (bounds_from l.items.items 0)
