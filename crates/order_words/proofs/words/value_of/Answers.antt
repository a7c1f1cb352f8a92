use Rattle.std.proofs.Common.{inl, inr, sym, ap, subst}
use Rattle.std.proofs.lemmas.Option.{IfSome_then}
use Rattle.order_words.specs.Words.{first_value, options_of, texts_of, values_of}
use Rattle.order_words.specs.inside.Words.{IsFound, known_in}
use Rattle.order_words.proofs.words.value_of.Goals as goal

pub returns-in-Nothing : goal.returns-in-Nothing
returns-in-Nothing c =
    IfSome_then (options_of (known_in c.args.table.now) (texts_of c.args.words.now)) c.find_option.ensures
    (λ options found.
    elim c.in-Nothing.is [
      | inl is ↦ sym (ap first_value (subst (λ f. IsFound f (values_of c.args.name.now options)) is found))
      | inr is ↦ sym (ap first_value (subst (λ f. IsFound f (values_of c.args.name.now options)) is found))
    ])

pub returns-in-Value : goal.returns-in-Value
returns-in-Value c =
    IfSome_then (options_of (known_in c.args.table.now) (texts_of c.args.words.now)) c.find_option.ensures
    (λ options found.
    sym (ap first_value (subst (λ f. IsFound f (values_of c.args.name.now options)) c.in-Value.is found)))

pub returns-in-Twice : goal.returns-in-Twice
returns-in-Twice c =
    IfSome_then (options_of (known_in c.args.table.now) (texts_of c.args.words.now)) c.find_option.ensures
    (λ options found.
    sym (ap first_value (subst (λ f. IsFound f (values_of c.args.name.now options)) c.in-Twice.is found).2))
