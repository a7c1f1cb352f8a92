use Rattle.std.proofs.Common.{◌*◌, ◌-◌, ap, arith}
use Rattle.formula_lister.proofs.Leveled.{first_level-by_last, first_level-by_next, first_level-enough}
use Rattle.formula_lister.proofs.levels.first_level.Goals as goal

pub returns-then-least-next-clause-none : goal.returns-then-least-next-clause-none
returns-then-least-next-clause-none c = λ count atoms within reached.
    let next = c.args.next.now in
    let last = c.args.last.now in
    let pair = c.requires.pair in
    first_level-by_last next.levels.per next.mass last.mass next.levels.defect.number c.args.least c.rounded_up.result
    count atoms pair.paired.whole
    (omega (
      arith,
      c.rounded_up.ensures.not_more,
      pair.last_known.divided,
      ap (λ n. c.rounded_up.result * n) pair.last_known.divided,
    )) reached

pub returns-else-least-next-clause-enough : goal.returns-else-least-next-clause-enough
returns-else-least-next-clause-enough c =
    let next = c.args.next.now in
    let last = c.args.last.now in
    let pair = c.requires.pair in
    let further = c.rounded_up-else-least-next.result in
    omega (
      arith,
      pair.reach,
      c.if-least-next.false,
      first_level-enough next.levels.per next.mass last.mass next.levels.defect.number last.limit
          (c.args.least - next.after) further pair.paired.whole pair.paired.several
          (omega (arith, c.rounded_up-else-least-next.ensures.not_less, ap (λ n. further * n) pair.known.divided)),
    )

pub returns-else-least-next-clause-none : goal.returns-else-least-next-clause-none
returns-else-least-next-clause-none c = λ count atoms within reached.
    let next = c.args.next.now in
    let last = c.args.last.now in
    let pair = c.requires.pair in
    let further = c.rounded_up-else-least-next.result in
    first_level-by_next next.levels.per next.mass last.mass next.levels.defect.number last.limit
    (c.args.least - next.after) further count atoms pair.paired.whole
    (omega (
      arith,
      c.rounded_up-else-least-next.ensures.not_more,
      pair.known.divided,
      ap (λ n. further * n) pair.known.divided,
    )) within
    (omega (arith, pair.reach, c.if-least-next.false, reached))
