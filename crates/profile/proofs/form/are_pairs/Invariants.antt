use Rattle.std.proofs.Common.{◌≡◌, drop}
use Rattle.toml.specs.View.{items_view}
use Rattle.profile.specs.Form.{are_pairs}
use Rattle.profile.proofs.form.are_pairs.Given as goal

abbrev pub invariant-loop-item : goal.invariant-loop-item
invariant-loop-item l = are_pairs (items_view (drop l.item-index l.item-items)) ≡ are_pairs (items_view l.item-items)
