use Rattle.std.proofs.Common.{◌+◌, length, refl, ap, arith, length-drop}
use Rattle.std.proofs.lemmas.Result.{err_from_is_err_and}
use Rattle.mgf_reader.proofs.SoFar.{first_part-same, first_part-then}
use Rattle.mgf_reader.proofs.TakesIn.{taken-none, taken-more, taken-stops, taken-last}
use Rattle.mgf_reader.proofs.EndedLines.{feed-none, feed-found, rest-from}
use Rattle.mgf_reader.proofs.cutter.Cutter.take.Goals as goal

pub loop-at-init : goal.loop-at-init
loop-at-init c = record {
  size = omega arith;
  waits = first_part-same c.args.self.now.lines.waiting c.args.self.now.lines.waiting refl;
  taken = taken-none c.args.self.now c.args.piece.now;
}

pub take_line-requires-clause-part : goal.take_line-requires-clause-part
take_line-requires-clause-part c = (feed-found c.loop-at.rest.now c.in-Some.at c.in-Some.ensures).0

pub returns-in_err-take_line-clause-takes : goal.returns-in_err-take_line-clause-takes
returns-in_err-take_line-clause-takes c =
    let p = err_from_is_err_and c.from_residual.result c.from_residual.ensures.1 in
    rw (p.1, p.2) (taken-stops c.args.self.now c.loop-at.self c.take_line.new.self c.args.piece.now c.loop-at.rest.now
    c.in-Some.at c.in_err-take_line.field-0.0 c.loop-at.invariant.taken c.in-Some.ensures
    c.in_err-take_line.ensures.takes)

pub loop-at-preserved : goal.loop-at-preserved
loop-at-preserved c = record {
  size = omega (
    arith,
    ap length (rest-from c.loop-at.rest.now (c.in-Some.at + 1)),
    length-drop (c.in-Some.at + 1) c.loop-at.rest.now,
    c.in-Some.ensures.0.high,
    c.in_ok-take_line.ensures.size,
  );
  waits = first_part-then c.args.self.now.lines.waiting c.loop-at.self.lines.waiting _ c.loop-at.invariant.waits
      c.in_ok-take_line.ensures.waits;
  taken = taken-more c.args.self.now c.loop-at.self c.take_line.new.self c.args.piece.now c.loop-at.rest.now _
      c.in-Some.at c.loop-at.invariant.taken c.in-Some.ensures
      (rest-from c.loop-at.rest.now (c.in-Some.at + 1)) c.in_ok-take_line.ensures.takes;
}

pub returns-in_err-take_line-clause-waits : goal.returns-in_err-take_line-clause-waits
returns-in_err-take_line-clause-waits c =
    first_part-then c.args.self.now.lines.waiting c.loop-at.self.lines.waiting _ c.loop-at.invariant.waits
    c.in_err-take_line.ensures.waits

pub returns-clause-waits : goal.returns-clause-waits
returns-clause-waits c =
    first_part-then c.args.self.now.lines.waiting c.loop-at.self.lines.waiting _ c.loop-at.invariant.waits
    (first_part-same c.loop-at.self.lines.waiting _ c.keep.ensures.waits)

pub keep-requires-clause-part : goal.keep-requires-clause-part
keep-requires-clause-part c = feed-none c.loop-at.rest.now c.in_default.ensures

pub returns-clause-takes : goal.returns-clause-takes
returns-clause-takes c = taken-last c.args.self.now c.loop-at.self c.keep.new.self c.args.piece.now c.loop-at.rest.now
    c.keep.result c.loop-at.invariant.taken c.keep.ensures.takes
