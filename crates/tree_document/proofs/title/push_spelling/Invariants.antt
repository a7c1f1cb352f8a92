use Rattle.std.proofs.Common.{◌≡◌, ◌++◌, take}
use Rattle.tree_document.specs.Title.{escaped}
use Rattle.tree_document.proofs.title.push_spelling.Given as goal

abbrev pub invariant-loop-byte : goal.invariant-loop-byte
invariant-loop-byte l = l.text.items ≡ l.initial.text.items ++ escaped (take l.byte-index l.title)
