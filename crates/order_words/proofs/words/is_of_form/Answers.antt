use Rattle.std.proofs.Common.{◌≡◌, ◌∙◌, Bool, subst}
use Rattle.std.specs.Prelude.{◌&&◌}
use Rattle.order_words.specs.Words.{options_of, texts_of}
use Rattle.order_words.specs.inside.Words.{is_of_form, known_in}
use Rattle.order_words.proofs.OptionsOf.{form-decides, if_some}
use Rattle.order_words.proofs.words.is_of_form.Goals as goal

pub returns-then-known : goal.returns-then-known
returns-then-known c =
    subst (λ (known : Bool). (known && c.are_met-met.result) ≡ is_of_form (known_in c.args.table.now)
    (texts_of c.args.words.now)) c.if-known.true
    (form-decides (known_in c.args.table.now) (texts_of c.args.words.now) c.are_known-known.result c.are_met-met.result
    c.are_known-known.ensures
    (if_some (options_of (known_in c.args.table.now) (texts_of c.args.words.now)) _ c.are_met-met.ensures))

pub returns-else-known : goal.returns-else-known
returns-else-known c =
    c.if-known.false
    ∙ subst (λ (known : Bool). (known && c.are_met-met.result) ≡ is_of_form (known_in c.args.table.now)
    (texts_of c.args.words.now)) c.if-known.false
    (form-decides (known_in c.args.table.now) (texts_of c.args.words.now) c.are_known-known.result c.are_met-met.result
    c.are_known-known.ensures
    (if_some (options_of (known_in c.args.table.now) (texts_of c.args.words.now)) _ c.are_met-met.ensures))
