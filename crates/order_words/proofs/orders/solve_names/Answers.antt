use Rattle.std.proofs.Common.{◌∙◌, Bool, Some, None, ap, sym}
use Rattle.std.specs.Prelude.{if◌then◌else◌}
use Rattle.std.specs.Option.{option_map}
use Rattle.order_words.specs.Orders.{document_options, solve}
use Rattle.order_words.specs.Words.{formed_options, texts_of}
use Rattle.order_words.specs.NamesOf.{document_names_of}
use Rattle.order_words.proofs.OrderOf.{solve_order-by}
use Rattle.order_words.proofs.orders.solve_names.Goals as goal

pub returns-in_default : goal.returns-in_default
returns-in_default c =
    solve_order-by (formed_options document_options (texts_of c.args.words.now)) None
    (c.document_names.ensures ∙ ap (option_map document_names_of) c.in_default.is)

pub returns-then-is_own_document : goal.returns-then-is_own_document
returns-then-is_own_document c =
    solve_order-by (formed_options document_options (texts_of c.args.words.now))
    (Some (document_names_of c.in-Some.names))
    (c.document_names.ensures ∙ ap (option_map document_names_of) c.in-Some.is)
    ∙ ap (λ (own : Bool). if own then Some (solve (document_names_of c.in-Some.names)) else None)
    (sym c.is_own_document.ensures ∙ c.if-is_own_document.true)

pub returns-else-is_own_document : goal.returns-else-is_own_document
returns-else-is_own_document c =
    solve_order-by (formed_options document_options (texts_of c.args.words.now))
    (Some (document_names_of c.in-Some.names))
    (c.document_names.ensures ∙ ap (option_map document_names_of) c.in-Some.is)
    ∙ ap (λ (own : Bool). if own then Some (solve (document_names_of c.in-Some.names)) else None)
    (sym c.is_own_document.ensures ∙ c.if-is_own_document.false)
