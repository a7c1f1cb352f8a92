use Rattle.std.proofs.Common.{◌≡◌, ◌∙◌, Ok, true, ap, arith, rules}
use Rattle.std.proofs.lemmas.Grind.{common_steps}
use Rattle.std.proofs.lemmas.List.{take_all}
use Rattle.std.proofs.lemmas.List.Elements.{All-push, All-same}
use Rattle.loss_graph.specs.Lists.{IsList}
use Rattle.right_document.specs.Outline.{lists_of}
use Rattle.right_document.specs.SettingsOf.{settings_value_of}
use Rattle.right_document.proofs.AreOwnLists.{own_lists}
use Rattle.right_document.proofs.GoodReasons.{too_many_is_good}
use Rattle.right_document.proofs.outline.explain.Goals as goal

pub loop-peak-preserved : goal.loop-peak-preserved
loop-peak-preserved g c =
    let added : c.add_list-in-loop-peak.result ≡ Ok true = search rules in
    record {
      told = grind (arith, common_steps);
      own = grind (arith, common_steps);
      each = All-same (IsList c.args.settings.now.choice) _ _ (c.add_list-in-loop-peak.ensures.lists added)
          (All-push (IsList c.args.settings.now.choice) _ _ c.loop-peak.invariant.each
          (c.add_list-in-loop-peak.ensures.list added));
    }

pub returns-clause-lists : goal.returns-clause-lists
returns-clause-lists g c =
    own_lists (settings_value_of c.args.settings.now) c.args.precursor c.requires.apart.0 c.args.selected.now
    c.loop-peak.lists.items
    (c.loop-peak.invariant.own
    ∙ ap (lists_of (settings_value_of c.args.settings.now) c.args.precursor)
    (take_all c.loop-peak.peak-index c.args.selected.now (omega arith)))
    c.loop-peak.invariant.each c.requires.apart.1

pub returns-then-not-branch-clause-reason : goal.returns-then-not-branch-clause-reason
returns-then-not-branch-clause-reason g c = too_many_is_good c.args.precursor c.requires.measured

pub returns-then-not-branch-2-clause-explained : goal.returns-then-not-branch-2-clause-explained
returns-then-not-branch-2-clause-explained g c = grind (arith, common_steps)

pub returns-then-not-branch-2-clause-reason : goal.returns-then-not-branch-2-clause-reason
returns-then-not-branch-2-clause-reason g c = too_many_is_good c.peak.inside.mz c.peak.invariant.0
