use Rattle.std.proofs.lemmas.Option.{MatchOption-at_some}
use Rattle.order_words.specs.Words.{values_of}
use Rattle.order_words.proofs.words.is_need_met.Goals as goal

pub returns : goal.returns
returns c = λ options told. c.is_met.ensures (values_of c.args.name.now options)
    (MatchOption-at_some _ _ options told c.find_option.ensures)
