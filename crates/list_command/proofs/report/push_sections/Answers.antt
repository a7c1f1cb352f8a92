use Rattle.std.proofs.Common.{ap, length, arith}
use Rattle.list_command.proofs.IsReport.{pushed_none, pushed_more, pushed_all}
use Rattle.list_command.proofs.report.push_sections.Goals as goal

pub loop-spectrum-init : goal.loop-spectrum-init
loop-spectrum-init g c = pushed_none _ _ _

pub loop-spectrum-preserved : goal.loop-spectrum-preserved
loop-spectrum-preserved g c =
    let pushed = c.in_ok-push_section.ensures in
    pushed_more _ _ _ _ _ _ _ _ pushed.0 c.loop-spectrum.invariant c.in-Some.ensures.taken pushed.1 pushed.2

pub loop-spectrum-smaller : goal.loop-spectrum-smaller
loop-spectrum-smaller g c = omega (arith, ap length c.in-Some.ensures.taken)

pub returns : goal.returns
returns g c = pushed_all _ _ _ _ _ c.loop-spectrum.invariant c.in_default.ensures.taken
