use Rattle.std.proofs.Common.{◌≡◌, drop}
use Rattle.std.specs.List.{list_any}
use Rattle.std.specs.Str.{bytes_eq}
use Rattle.order_words.specs.inside.Words.{known_in}
use Rattle.order_words.proofs.words.is_name_in.Given as goal

-- the rows that are left decide what all rows do
abbrev pub invariant-loop-known : goal.invariant-loop-known
invariant-loop-known l =
    list_any (λ known. bytes_eq known.name l.name) (known_in (drop l.known-index l.table)) ≡ list_any
    (λ known. bytes_eq known.name l.name) (known_in l.table)
