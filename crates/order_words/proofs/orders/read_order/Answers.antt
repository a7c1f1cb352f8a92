use Rattle.std.proofs.Common.{◌≡◌, ℕ, List, MatchOption, None, Some, arith, subst, sym}
use Rattle.order_words.specs.Orders.{order_of}
use Rattle.order_words.specs.NamesOf.{order_read}
use Rattle.order_words.proofs.OptionsOf.{texts-behind}
use Rattle.order_words.proofs.orders.read_order.Goals as goal

pub returns-in-len1-up : goal.returns-in-len1-up
returns-in-len1-up c =
    subst (λ (texts : List (List ℕ)). MatchOption c.command_order.result (order_of texts ≡ None)
    (λ order. order_of texts ≡ Some (order_read order)))
    (sym (texts-behind c.args.words.now c.command-item.result c.as_str.result.now
    (omega arith) c.command-item.is c.as_str.ensures.value))
    c.command_order.ensures
