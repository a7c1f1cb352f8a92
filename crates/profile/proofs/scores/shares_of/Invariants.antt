use Rattle.std.proofs.Common.{◌≡◌, ◌++◌, drop}
use Rattle.toml.specs.View.{items_view}
use Rattle.profile.specs.inside.Fine.{AreShareItems}
use Rattle.profile.specs.Values.{shares_said}
use Rattle.profile.proofs.scores.shares_of.Given as goal

abbrev pub invariant-loop-item : goal.invariant-loop-item
invariant-loop-item l = record {
  right : AreShareItems (items_view (drop l.item-index l.item-items));
  so_far : l.pairs.items ++ shares_said (items_view (drop l.item-index l.item-items))
      ≡ shares_said (items_view l.item-items);
}
