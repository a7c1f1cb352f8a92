use Rattle.std.proofs.Common.{Some, None}
use Rattle.frag_io.proofs.BytesUnder.{stands_first}
use Rattle.frag_io.proofs.stage.source_of.Goals as goal

pub returns-in_err-place : goal.returns-in_err-place
returns-in_err-place c = rw c.from_residual.ensures
    (stands_first c.args.files.now c.args.name.now None c.in_err-place.ensures)

pub returns : goal.returns
returns c = stands_first c.args.files.now c.args.name.now (Some c.in_ok-place.place) c.in_ok-place.ensures
