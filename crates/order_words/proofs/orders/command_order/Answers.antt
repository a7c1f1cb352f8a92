use Rattle.std.proofs.Common.{◌∙◌, None, ap, rules}
use Rattle.std.specs.Option.{option_map}
use Rattle.order_words.specs.Orders.{document_options}
use Rattle.order_words.specs.Words.{formed_options, texts_of}
use Rattle.order_words.specs.NamesOf.{document_names_of}
use Rattle.order_words.proofs.OrderOf.{check_order-by}
use Rattle.order_words.proofs.orders.command_order.Goals as goal

pub returns-in-None-document_names : goal.returns-in-None-document_names
returns-in-None-document_names c =
    let none = check_order-by (formed_options document_options (texts_of c.args.words.now)) None
    (c.document_names.ensures ∙ ap (option_map document_names_of) c.in-None-document_names.is) in
    search (
      rules,
      none,
      c.eq.ensures,
      c.if-eq.false,
      c.eq-else-eq.ensures,
      c.if-eq-2.false,
      c.eq-else-eq-2.ensures,
      c.if-eq-3.true,
    )
