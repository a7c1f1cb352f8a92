use Rattle.frag_io.proofs.Appended.{writes_some}
use Rattle.frag_io.proofs.memory.MemoryDeskDesk.write.Goals as goal

pub returns-in-Ok-clause-some : goal.returns-in-Ok-clause-some
returns-in-Ok-clause-some c =
    let piece = c.is_due.new.self.piece in
    writes_some c.args.bytes.now c.min-n.result piece c.min-n.ensures c.is_due.new.self.has_piece
