use Rattle.std.proofs.Common.{◌∙◌, ap}
use Rattle.tree_entry.specs.Rows.{AreRows}
use Rattle.entry_checker.specs.declared.verdict.EntryVerdict.TheVariants.{Wrong}
use Rattle.entry_checker.proofs.IsEntryVerdict.{exactly_entry, exactly_entry_from}
use Rattle.entry_checker.proofs.entry.check_entry.Goals as goal

pub wrong_edges-requires-clause-rows : goal.wrong_edges-requires-clause-rows
wrong_edges-requires-clause-rows c =
    let right : AreRows c.args.built.now c.items.result.now = c.in_default.ensures in
    rw (c.items.ensures ∙ ap (λ tree. tree.rows) c.tree.view_is) at right

pub returns-in-Some-wrong_edges-clause-exactly : goal.returns-in-Some-wrong_edges-clause-exactly
returns-in-Some-wrong_edges-clause-exactly c =
    exactly_entry c.args.built.now c.args.tree.now c.args.budget (Wrong c.in-Some-wrong_edges.place)
    (c.in-Some-wrong_edges.ensures c.args.budget)

pub returns-in-Some-2-clause-verdict : goal.returns-in-Some-2-clause-verdict
returns-in-Some-2-clause-verdict c = (rw c.in-Some-2.is at c.in_ok-place.ensures) c.args.budget

pub returns-in-Some-2-clause-exactly : goal.returns-in-Some-2-clause-exactly
returns-in-Some-2-clause-exactly c = exactly_entry c.args.built.now c.args.tree.now c.args.budget
    (Wrong c.in-Some-2.place)
    ((rw c.in-Some-2.is at c.in_ok-place.ensures) c.args.budget)

pub returns-clause-exactly : goal.returns-clause-exactly
returns-clause-exactly c = exactly_entry_from c.args.built.now c.args.tree.now c.args.budget c.check_last.result
    c.check_last.ensures
