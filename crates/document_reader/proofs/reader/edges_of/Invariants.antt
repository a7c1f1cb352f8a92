use Rattle.std.proofs.Common.{◌≡◌, take}
use Rattle.document_reader.proofs.reader.edges_of.Given as goal

abbrev pub invariant-loop-edge : goal.invariant-loop-edge
invariant-loop-edge l = l.kept.items ≡ take l.edge-index l.edge-items
