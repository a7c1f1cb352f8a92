use Rattle.std.proofs.Common.{length}
use Rattle.order_words.specs.Words.{options_of, texts_of, values_of}
use Rattle.order_words.specs.inside.Words.{IsFound, known_in}
use Rattle.order_words.proofs.OptionsOf.{Scanned}
use Rattle.order_words.proofs.words.find_option.Given as goal

-- what was found of the options so far
abbrev pub invariant-loop-rest : goal.invariant-loop-rest
invariant-loop-rest l =
    Scanned (options_of (known_in l.table) (texts_of l.rest)) (options_of (known_in l.table) (texts_of l.words))
    (λ done. IsFound l.found (values_of l.name done))

abbrev pub decreases-loop-rest : goal.decreases-loop-rest
decreases-loop-rest l = length l.rest
