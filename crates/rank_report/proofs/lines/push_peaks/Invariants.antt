use Rattle.std.proofs.Common.{◌≡◌, ◌++◌, take}
use Rattle.std.specs.List.{enumerate_from, flat_map}
use Rattle.rank_report.specs.Report as spec
use Rattle.rank_report.proofs.lines.push_peaks.Given as goal

abbrev pub invariant-loop-place : goal.invariant-loop-place
invariant-loop-place l =
    l.text.items ≡ l.initial.text.items ++ flat_map spec.peak_line (enumerate_from 0 (take l.place l.lists))
