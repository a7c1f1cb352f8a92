use Rattle.std.proofs.Common.{◌≡◌, ◌∙◌, List, Option, true, arith, sym, ap, subst, refl}
use Rattle.std.specs.List.{list_all}
use Rattle.order_words.specs.Words.{Given, is_in_table, options_of, texts_of}
use Rattle.order_words.specs.inside.Words.{given_of, known_in}
use Rattle.order_words.proofs.OptionsOf.{Scanned, known_more, scanned_more, scanned_none, texts-behind, unknown}
use Rattle.order_words.proofs.words.are_known.Goals as goal

pub loop-rest-init : goal.loop-rest-init
loop-rest-init c =
    scanned_none (options_of (known_in c.args.table.now) (texts_of c.args.words.now))
    (λ done. list_all (is_in_table (known_in c.args.table.now)) done ≡ true) refl

pub returns-then-not-is_name_in : goal.returns-then-not-is_name_in
returns-then-not-is_name_in c =
    let table = known_in c.args.table.now in
    let all = options_of table (texts_of c.args.words.now) in
    let texts = texts-behind c.loop-rest.rest.now c.word-item.result c.as_str.result.now
    (omega arith) c.word-item.is c.as_str.ensures.value in
    let scanned = subst (λ (o : Option (List Given)). Scanned o all (λ done. list_all (is_in_table table) done ≡ true))
    (ap (options_of table) texts ∙ c.in-Some.ensures.options) c.loop-rest.invariant in
    unknown (is_in_table table) (given_of c.in-Some.next) (options_of table (texts_of c.in-Some.next.behind.now)) all
    (λ done. list_all (is_in_table table) done ≡ true)
    scanned (sym c.is_name_in.ensures ∙ c.if-not-is_name_in.true)

pub loop-rest-preserved : goal.loop-rest-preserved
loop-rest-preserved c =
    let table = known_in c.args.table.now in
    let all = options_of table (texts_of c.args.words.now) in
    let texts = texts-behind c.loop-rest.rest.now c.word-item.result c.as_str.result.now
    (omega arith) c.word-item.is c.as_str.ensures.value in
    let scanned = subst (λ (o : Option (List Given)). Scanned o all (λ done. list_all (is_in_table table) done ≡ true))
    (ap (options_of table) texts ∙ c.in-Some.ensures.options) c.loop-rest.invariant in
    scanned_more (given_of c.in-Some.next) (options_of table (texts_of c.in-Some.next.behind.now)) all
    (λ done. list_all (is_in_table table) done ≡ true) (λ done. list_all (is_in_table table) done ≡ true)
    scanned (known_more (is_in_table table) (given_of c.in-Some.next)
    (sym c.is_name_in.ensures ∙ c.if-not-is_name_in.false))
