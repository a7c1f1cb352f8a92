use Rattle.std.proofs.Common.{◌∙◌, List, Option, arith, ap, subst, refl}
use Rattle.order_words.specs.Words.{Given, options_of, texts_of, values_of}
use Rattle.order_words.specs.declared.words.Found.TheVariants.{Nothing}
use Rattle.order_words.specs.inside.Words.{IsFound, given_of, known_in}
use Rattle.order_words.proofs.OptionsOf.{Scanned, found_more, scanned_more, scanned_none, texts-behind}
use Rattle.order_words.proofs.words.find_option.Goals as goal

pub loop-rest-init : goal.loop-rest-init
loop-rest-init c =
    scanned_none (options_of (known_in c.args.table.now) (texts_of c.args.words.now))
    (λ done. IsFound Nothing (values_of c.args.name.now done)) refl

pub loop-rest-preserved : goal.loop-rest-preserved
loop-rest-preserved c =
    let table = known_in c.args.table.now in
    let all = options_of table (texts_of c.args.words.now) in
    let texts = texts-behind c.loop-rest.rest.now c.word-item.result c.as_str.result.now
    (omega arith) c.word-item.is c.as_str.ensures.value in
    let scanned = subst (λ (o : Option (List Given)). Scanned o all
    (λ done. IsFound c.loop-rest.found (values_of c.args.name.now done)))
    (ap (options_of table) texts ∙ c.in-Some.ensures.options) c.loop-rest.invariant in
    scanned_more (given_of c.in-Some.next) (options_of table (texts_of c.in-Some.next.behind.now)) all
    (λ done. IsFound c.loop-rest.found (values_of c.args.name.now done))
    (λ done. IsFound c.with-found.result (values_of c.args.name.now done))
    scanned (found_more c.args.name.now (given_of c.in-Some.next) (IsFound c.loop-rest.found)
    (IsFound c.with-found.result) c.with-found.ensures)
