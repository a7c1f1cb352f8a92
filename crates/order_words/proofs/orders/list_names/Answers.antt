use Rattle.std.proofs.Common.{◌∙◌, ap, sym}
use Rattle.std.proofs.lemmas.Option.{MatchOption-at_some}
use Rattle.std.specs.Option.{option_and_then, option_map}
use Rattle.order_words.specs.Orders.{list, list_options, list_order_of}
use Rattle.order_words.specs.Words.{formed_options, texts_of}
use Rattle.order_words.proofs.OrderOf.{formed, formless, list_order-by}
use Rattle.order_words.proofs.orders.list_names.Goals as goal

pub returns-then-not-is_of_form : goal.returns-then-not-is_of_form
returns-then-not-is_of_form c =
    ap (option_and_then list_order_of) (formless (formed_options list_options (texts_of c.args.words.now))
    (sym c.is_of_form.ensures ∙ c.if-not-is_of_form.true))

pub returns : goal.returns
returns c =
    let form = formed list_options (texts_of c.args.words.now) (sym c.is_of_form.ensures ∙ c.if-not-is_of_form.false) in
    list_order-by c.text_names.result _
    (ap (option_and_then list_order_of) form.1 ∙ ap (option_map (λ names. list names))
    (sym (MatchOption-at_some _ _ form.0 form.2 c.text_names.ensures)))
