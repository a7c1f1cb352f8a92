use Rattle.std.proofs.Common.{◌≡◌, drop, List, Some}
use Rattle.std.specs.List.{list_all}
use Rattle.order_words.specs.Words.{Given, meets, options_of, texts_of, values_of}
use Rattle.order_words.specs.inside.Words.{known_in}
use Rattle.order_words.proofs.words.are_met.Given as goal

-- the rows that are left decide what all rows do
abbrev pub invariant-loop-known : goal.invariant-loop-known
invariant-loop-known l =
    (options : List Given) → options_of (known_in l.table) (texts_of l.words) ≡ Some options
    → list_all (λ known. meets known.need (values_of known.name options)) (known_in (drop l.known-index l.table))
    ≡ list_all (λ known. meets known.need (values_of known.name options)) (known_in l.table)
