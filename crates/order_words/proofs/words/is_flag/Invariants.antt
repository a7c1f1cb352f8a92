use Rattle.std.proofs.Common.{◌≡◌, drop}
use Rattle.order_words.specs.Words.{is_flag}
use Rattle.order_words.specs.inside.Words.{known_in}
use Rattle.order_words.proofs.words.is_flag.Given as goal

-- the rows that are left decide what all rows do
abbrev pub invariant-loop-known : goal.invariant-loop-known
invariant-loop-known l = is_flag (known_in (drop l.known-index l.table)) l.word ≡ is_flag (known_in l.table) l.word
