use Rattle.std.proofs.Common.{◌≡◌, length, true}
use Rattle.std.specs.List.{list_all}
use Rattle.order_words.specs.Words.{is_in_table, options_of, texts_of}
use Rattle.order_words.specs.inside.Words.{known_in}
use Rattle.order_words.proofs.OptionsOf.{Scanned}
use Rattle.order_words.proofs.words.are_known.Given as goal

-- all options so far are known
abbrev pub invariant-loop-rest : goal.invariant-loop-rest
invariant-loop-rest l =
    Scanned (options_of (known_in l.table) (texts_of l.rest)) (options_of (known_in l.table) (texts_of l.words))
    (λ done. list_all (is_in_table (known_in l.table)) done ≡ true)

abbrev pub decreases-loop-rest : goal.decreases-loop-rest
decreases-loop-rest l = length l.rest
