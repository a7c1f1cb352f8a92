use Rattle.std.proofs.Common.{arith}
use Rattle.rank_report.specs.Report as spec
use Rattle.rank_report.proofs.Numbered.{numbered_step}
use Rattle.rank_report.proofs.lines.push_entries.Goals as goal

pub loop-place-preserved : goal.loop-place-preserved
loop-place-preserved c =
    numbered_step spec.entry_text 1 c.args.text.now.items c.args.entries.now c.loop-place.place _
    c.index-entries-place.result _ _
    (omega arith) c.index-entries-place.is (omega arith) c.loop-place.invariant c.in_ok-push_entry.ensures
