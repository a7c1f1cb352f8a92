use Rattle.std.proofs.Common.{◌∙◌, ap, sym}
use Rattle.std.specs.Option.{option_and_then}
use Rattle.order_words.specs.Orders.{document_names_in, document_options}
use Rattle.order_words.specs.Words.{formed_options, texts_of}
use Rattle.order_words.proofs.OrderOf.{formless}
use Rattle.order_words.proofs.orders.document_names.Goals as goal

pub returns-then-not-is_of_form : goal.returns-then-not-is_of_form
returns-then-not-is_of_form c =
    ap (option_and_then document_names_in) (formless (formed_options document_options (texts_of c.args.words.now))
    (sym c.is_of_form.ensures ∙ c.if-not-is_of_form.true))
