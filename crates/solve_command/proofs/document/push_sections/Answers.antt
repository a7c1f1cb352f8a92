use Rattle.std.proofs.Common.{ap, length, arith}
use Rattle.solve_command.proofs.MadeSections.{made_none, made_more, made_all}
use Rattle.solve_command.proofs.document.push_sections.Goals as goal

pub loop-spectrum-init : goal.loop-spectrum-init
loop-spectrum-init g c = made_none _ _ _ _

pub loop-spectrum-preserved : goal.loop-spectrum-preserved
loop-spectrum-preserved g c =
    let pushed = c.in_ok-push_spectrum.ensures in
    made_more _ _ _ _ _ _ _ _ _ _ _ _ c.loop-spectrum.invariant c.in-Some.ensures.taken pushed.1 pushed.2 pushed.3

pub loop-spectrum-smaller : goal.loop-spectrum-smaller
loop-spectrum-smaller g c = omega (arith, ap length c.in-Some.ensures.taken)

pub returns : goal.returns
returns g c = made_all _ _ _ _ _ _ _ c.loop-spectrum.invariant c.in_default.ensures.taken
