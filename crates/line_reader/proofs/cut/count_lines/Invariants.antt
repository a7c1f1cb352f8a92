use Rattle.std.proofs.Common.{◌≡◌, ◌≤◌, ◌+◌, length}
use Rattle.mgf_reader.specs.Text.{ended_lines}
use Rattle.tree_document.specs.Reading.{greatest_document}
use Rattle.line_reader.proofs.cut.count_lines.Given as goal

abbrev pub invariant-loop-later : goal.invariant-loop-later
invariant-loop-later l = record {
  all : l.count + length (ended_lines l.rest) ≡ length (ended_lines l.fn.bytes);
  few : length (ended_lines l.fn.bytes) ≤ greatest_document;
}

abbrev pub decreases-loop-later : goal.decreases-loop-later
decreases-loop-later l = length l.rest
