use Rattle.std.proofs.Common.{◌≡◌, length}
use Rattle.mgf_reader.specs.Bytes.{trimmed_front}
use Rattle.mgf_reader.specs.inside.ByteClass.{is_of}
use Rattle.mgf_reader.proofs.bytes.trim_front.Given as goal

abbrev pub invariant-loop-left : goal.invariant-loop-left
invariant-loop-left l = trimmed_front (is_of l.class) l.left ≡ trimmed_front (is_of l.class) l.bytes

abbrev pub decreases-loop-left : goal.decreases-loop-left
decreases-loop-left l = length l.left
