use Rattle.std.proofs.Common.{arith}
use Rattle.rank_report.specs.Report as spec
use Rattle.rank_report.proofs.Numbered.{numbered_step}
use Rattle.rank_report.proofs.lines.push_peaks.Goals as goal

pub loop-place-preserved : goal.loop-place-preserved
loop-place-preserved c =
    numbered_step spec.peak_line 0 c.args.text.now.items c.args.lists.now c.loop-place.place _
    c.index-lists-place.result _ _
    (omega arith) c.index-lists-place.is (omega arith) c.loop-place.invariant c.in_ok-push_peak.ensures
