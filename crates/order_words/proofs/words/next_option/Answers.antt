use Rattle.order_words.specs.Words.{texts_of}
use Rattle.order_words.specs.inside.Words.{known_in}
use Rattle.order_words.proofs.OptionsOf.{options-joined}
use Rattle.order_words.proofs.words.next_option.Goals as goal

pub returns-in-Some-clause-options : goal.returns-in-Some-clause-options
returns-in-Some-clause-options c = options-joined (known_in c.args.table.now) c.args.word.now
    (texts_of c.args.later.now) _ c.in-Some.ensures.0 c.in-Some.ensures.1
