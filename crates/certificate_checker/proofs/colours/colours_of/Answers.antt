use Rattle.std.proofs.Common.{◌≡◌, ◌*◌, ◌%◌, ◌<◌, ℕ, ℤ, Bool, List, length, subst, arith}
use Rattle.std.specs.Int.{IsPowerOfTwo}
use Rattle.std.proofs.lemmas.Nat.{pow_pos}
use Rattle.certificate_checker.specs.inside.Enough.{AddsNothing}
use Rattle.certificate_checker.proofs.HasColour.{whole_blocks}
use Rattle.certificate_checker.proofs.IdleColours.{PartTells, cut-tells, telling-last, whole-tells}
use Rattle.certificate_checker.proofs.MarkedColours.{AreMarked, marked-cut, marked-more, marked-none}
use Rattle.certificate_checker.proofs.UsefulColours.{PartIsEnough, cut-is-enough, useful-last, whole-is-enough}
use Rattle.certificate_checker.proofs.colours.colours_of.Goals as goal
use Rattle.certificate_checker.proofs.colours.colours_of.Goals.{then-not-adds_nothing}
use Rattle.certificate_checker.proofs.colours.colours_of.Goals.{else-not-adds_nothing+then-not-raises_nothing}
use Rattle.certificate_checker.proofs.colours.colours_of.Goals.{else-not-adds_nothing+else-not-raises_nothing}

-- a colour that is looked at next
blocks : (own : List ℤ) (Holds : List Bool → List Bool → Type 0) (colour useful : ℕ) → IsPowerOfTwo (length own)
    → colour < length own
    → AreMarked Holds (length own) colour useful → (0 < colour) × (length own % (2 * colour) ≡ 0)
blocks own Holds colour useful sets within are = (
  rw (← are.looked_at) (pow_pos (length are.marks)),
  subst (λ n. length own % (2 * n) ≡ 0) are.looked_at
      (whole_blocks (length own) (length are.marks) sets (rw are.looked_at within)),
)

pub loop-colour-init : goal.loop-colour-init
loop-colour-init c =
    let own = c.args.own.now in
    let gains = c.args.gains.now in
    record {
      useful_below = omega arith;
      telling_below = omega arith;
      useful = marked-none (PartIsEnough own gains) (length own) (whole-is-enough own gains);
      telling = marked-none (PartTells own gains) (length own) (whole-tells own gains);
    }

pub loop-colour-preserved : goal.loop-colour-preserved
loop-colour-preserved c =
    let own = c.args.own.now in
    let gains = c.args.gains.now in
    let colour = c.loop-colour.colour in
    let known = c.loop-colour.invariant in
    let useful_more = marked-more (PartIsEnough own gains) (length own) colour c.loop-colour.useful known.useful in
    let telling_more = marked-more (PartTells own gains) (length own) colour c.loop-colour.telling known.telling in
    let useful_less = λ (adds : AddsNothing own gains (length own) colour). marked-cut (PartIsEnough own gains)
    (length own) colour c.loop-colour.useful (cut-is-enough own gains colour adds) known.useful in
    elim c.if-not-adds_nothing.branch [
      | then-not-adds_nothing w ↦ rw (w.useful-is, w.telling-is) (record {
        useful_below = omega (arith, known.useful_below);
        telling_below = omega (arith, known.telling_below);
        useful = useful_more;
        telling = telling_more;
      })
      | else-not-adds_nothing+then-not-raises_nothing w ↦ rw (w.useful-is, w.telling-is) (record {
        useful_below = omega (arith, known.useful_below);
        telling_below = omega (arith, known.telling_below);
        useful = useful_less (c.adds_nothing.ensures w.if-not-adds_nothing.false);
        telling = telling_more;
      })
      | else-not-adds_nothing+else-not-raises_nothing w ↦
          let adds = c.adds_nothing.ensures w.if-not-adds_nothing.false in
          rw (w.useful-is, w.telling-is) (record {
            useful_below = omega (arith, known.useful_below);
            telling_below = omega (arith, known.telling_below);
            useful = useful_less adds;
            telling = marked-cut (PartTells own gains) (length own) colour c.loop-colour.telling
                (cut-tells own gains colour (λ place within has. (adds place within has).0)
                (w.raises_nothing.ensures w.if-not-raises_nothing.false)) known.telling;
          })
    ]

pub adds_nothing-requires-clause-blocks : goal.adds_nothing-requires-clause-blocks
adds_nothing-requires-clause-blocks c =
    let own = c.args.own.now in
    let Holds = PartIsEnough own c.args.gains.now in
    blocks own Holds c.loop-colour.colour c.loop-colour.useful c.requires.sets c.loop-colour-test.true
    c.loop-colour.invariant.useful

pub raises_nothing-requires-clause-blocks : goal.raises_nothing-requires-clause-blocks
raises_nothing-requires-clause-blocks c =
    let own = c.args.own.now in
    let Holds = PartIsEnough own c.args.gains.now in
    blocks own Holds c.loop-colour.colour c.loop-colour.useful c.requires.sets c.loop-colour-test.true
    c.loop-colour.invariant.useful

pub returns-clause-useful : goal.returns-clause-useful
returns-clause-useful c = useful-last c.args.own.now c.args.gains.now c.loop-colour.colour c.loop-colour.useful
    c.loop-colour.invariant.useful (omega arith)

pub returns-clause-telling : goal.returns-clause-telling
returns-clause-telling c = telling-last c.args.own.now c.args.gains.now c.loop-colour.colour c.loop-colour.telling
    c.loop-colour.invariant.telling (omega arith)
