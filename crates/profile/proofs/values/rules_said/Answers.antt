use Rattle.std.proofs.Common.{◌≡◌, ◌+◌, get_or, drop, arith, append_assoc}
use Rattle.std.proofs.lemmas.Grind.{common_steps}
use Rattle.toml.specs.View.{view, items_view}
use Rattle.toml.proofs.Views.{items_view-drop}
use Rattle.profile.specs.Form.{rules}
use Rattle.profile.proofs.FineLaws.{fine_alone, fine_others}
use Rattle.profile.proofs.RuleLaws.{rules_said-first}
use Rattle.profile.proofs.values.rules_said.Goals as goal

pub add_rule-requires : goal.add_rule-requires
add_rule-requires c =
    let values = c.deref-item-items.result.now in
    let i = c.loop-item.item-index in
    let item = c.item-item.result in
    let at : get_or values i item ≡ item = grind (arith, common_steps) in
    let fine = rw (items_view-drop values i item c.loop-item-test.true, at) at c.loop-item.invariant.fine in
    fine_alone (view item) (items_view (drop (i + 1) values)) fine

pub loop-item-preserved : goal.loop-item-preserved
loop-item-preserved c =
    let values = c.deref-item-items.result.now in
    let i = c.loop-item.item-index in
    let item = c.item-item.result in
    let at : get_or values i item ≡ item = grind (arith, common_steps) in
    let step = items_view-drop values i item c.loop-item-test.true in
    let fine = rw (step, at) at c.loop-item.invariant.fine in
    let so_far = rw (step, at, rules_said-first c.args.neutral (view item) (items_view (drop (i + 1) values))) at
    c.loop-item.invariant.so_far in
    record {
      fine = fine_others rules (view item) (items_view (drop (i + 1) values)) fine;
      so_far = rw (c.in_ok-add_rule.ensures, append_assoc) so_far;
    }
