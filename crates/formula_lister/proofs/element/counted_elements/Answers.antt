use Rattle.std.proofs.Common.{inl, inr, arith}
use Rattle.std.proofs.lemmas.Bool.{cases_lt}
use Rattle.formula_lister.proofs.Counted.{AreCounted-with, AreCounted-without}
use Rattle.formula_lister.proofs.element.counted_elements.Goals as goal
use Rattle.formula_lister.proofs.element.counted_elements.Goals.{then-limit-gt0+in_ok-insert, else-limit-gt0}

pub loop-place-preserved : goal.loop-place-preserved
loop-place-preserved c =
    let limits = c.args.limits.now in
    let place = c.loop-place.place in
    elim c.if-limit-gt0.branch [
      | then-limit-gt0+in_ok-insert w ↦
          rw (w.after-is, w.elements-is, w.in_ok-insert.ensures.items)
          (AreCounted-with limits _ c.loop-place.elements.items c.at.ensures.limits (omega arith)
          w.mass_at-mass.ensures.mass w.mass_at-mass.ensures.heavy w.mass_at-mass.ensures.light
          (omega (arith, c.at.ensures.count)) w.of.ensures
          (rw (w.first_mass.ensures, w.as_slice.ensures.value) at w.of-levels.ensures)
          c.loop-place.invariant)
      | else-limit-gt0 w ↦
          rw (w.after-is, w.elements-is)
          (AreCounted-without limits place c.loop-place.after c.loop-place.elements.items c.at.ensures.limits
          (omega (arith, c.at.ensures.count)) c.loop-place.invariant)
    ]

pub returns-clause-others : goal.returns-clause-others
returns-clause-others c = λ k uncounted. elim (cases_lt k 11) [
  | inl below ↦ c.loop-place.invariant.others k (omega arith) uncounted
  | inr from ↦ (c.loop-place.invariant.formula (omega arith)).elements k from
]
