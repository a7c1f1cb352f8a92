use Rattle.std.proofs.Common.{◌<◌, ◌-◌, length}
use Rattle.certificate_checker.proofs.IdleColours.{PartTells}
use Rattle.certificate_checker.proofs.MarkedColours.{AreMarked}
use Rattle.certificate_checker.proofs.UsefulColours.{PartIsEnough}
use Rattle.certificate_checker.proofs.colours.colours_of.Given as goal

abbrev pub invariant-loop-colour : goal.invariant-loop-colour
invariant-loop-colour l = record {
  useful_below : l.useful < l.colour;
  telling_below : l.telling < l.colour;
  useful : AreMarked (PartIsEnough l.own l.gains) (length l.own) l.colour l.useful;
  telling : AreMarked (PartTells l.own l.gains) (length l.own) l.colour l.telling;
}

abbrev pub decreases-loop-colour : goal.decreases-loop-colour
decreases-loop-colour l = length l.own - l.colour
