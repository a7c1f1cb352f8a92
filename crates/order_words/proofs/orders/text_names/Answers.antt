use Rattle.std.proofs.Common.{◌∙◌, ap, sym}
use Rattle.std.proofs.lemmas.Option.{MatchOption-at_some}
use Rattle.std.specs.Option.{option_copied}
use Rattle.order_words.specs.Words.{options_of, texts_of}
use Rattle.order_words.specs.inside.Words.{known_in}
use Rattle.order_words.proofs.OptionsOf.{if_some}
use Rattle.order_words.proofs.OrderOf.{text_names-by, text_names-none}
use Rattle.order_words.proofs.orders.text_names.Goals as goal

pub returns-in-Some-named_adduct : goal.returns-in-Some-named_adduct
returns-in-Some-named_adduct c = if_some (options_of (known_in c.args.table.now) (texts_of c.args.words.now)) _
    (λ options told.
    sym (text_names-by options c.in-Some.spectra.now (option_copied c.value_of-profile.result)
    (option_copied c.value_of-2.result) _
    (sym (MatchOption-at_some _ _ options told c.value_of.ensures) ∙ ap option_copied c.in-Some.is)
    (sym (MatchOption-at_some _ _ options told c.value_of-profile.ensures))
    (sym (MatchOption-at_some _ _ options told c.value_of-2.ensures))
    (sym c.named_adduct.ensures ∙ c.in-Some-named_adduct.is)))

pub returns-in-None : goal.returns-in-None
returns-in-None c = if_some (options_of (known_in c.args.table.now) (texts_of c.args.words.now)) _ (λ options told.
    sym (text_names-by options c.in-Some.spectra.now (option_copied c.value_of-profile.result)
    (option_copied c.value_of-2.result) _
    (sym (MatchOption-at_some _ _ options told c.value_of.ensures) ∙ ap option_copied c.in-Some.is)
    (sym (MatchOption-at_some _ _ options told c.value_of-profile.ensures))
    (sym (MatchOption-at_some _ _ options told c.value_of-2.ensures))
    (sym c.named_adduct.ensures ∙ c.in-None.is)))

pub returns-in_default : goal.returns-in_default
returns-in_default c = if_some (options_of (known_in c.args.table.now) (texts_of c.args.words.now)) _ (λ options told.
    sym (text_names-none options
    (sym (MatchOption-at_some _ _ options told c.value_of.ensures) ∙ ap option_copied c.in_default.is)))
