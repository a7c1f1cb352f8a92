use Rattle.std.proofs.Common.{◌≡◌, ◌++◌, drop}
use Rattle.toml.specs.View.{items_view}
use Rattle.profile.specs.inside.Fine.{AreFine}
use Rattle.profile.specs.Form.{rules}
use Rattle.profile.specs.Values.{rules_said}
use Rattle.profile.proofs.values.rules_said.Given as goal

abbrev pub invariant-loop-item : goal.invariant-loop-item
invariant-loop-item l = record {
  fine : AreFine rules (items_view (drop l.item-index l.item-items));
  so_far : l.rules.items ++ rules_said l.neutral (items_view (drop l.item-index l.item-items))
      ≡ rules_said l.neutral (items_view l.item-items);
}
