use Rattle.std.proofs.Common.{◌≡◌, ◌++◌, take}
use Rattle.element_table.proofs.text.append.Given as goal

abbrev pub invariant-loop-byte : goal.invariant-loop-byte
invariant-loop-byte l = l.bytes.items ≡ l.initial.bytes.items ++ take l.byte-index l.part
