use Rattle.std.proofs.Common.{lit<}
use Rattle.order_words.proofs.OptionsOf.{split-parts}
use Rattle.order_words.proofs.words.split_at_sign.Goals as goal

pub returns : goal.returns
returns c = split-parts c.args.word.now c.split_once.result (c.split_once.ensures.byte (lit< tt) (λ w o finds. finds))
