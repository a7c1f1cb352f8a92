use Rattle.std.proofs.Common.{◌∙◌, sym, arith}
use Rattle.std.proofs.lemmas.List.{take_rest}
use Rattle.mgf_reader.proofs.FormWithin.{begin_by_words, end_by_words, remark_by_equals, parameter_by_equals}
use Rattle.mgf_reader.proofs.line.form_of_named.Goals as goal

pub returns-then-are_words : goal.returns-then-are_words
returns-then-are_words c = begin_by_words c.args.line.now c.requires (sym c.are_words.ensures ∙ c.if-are_words.true)

pub returns-then-are_words-2 : goal.returns-then-are_words-2
returns-then-are_words-2 c = end_by_words c.args.line.now c.requires (sym c.are_words.ensures ∙ c.if-are_words.false)
    (sym c.are_words-2.ensures ∙ c.if-are_words-2.true)

pub returns-then-equals-line : goal.returns-then-equals-line
returns-then-equals-line c = remark_by_equals c.args.line.now c.requires (sym c.are_words.ensures
    ∙ c.if-are_words.false) (sym c.are_words-2.ensures ∙ c.if-are_words-2.false)
    (omega (arith, c.if-equals-line.true, c.first_place-equals.ensures.place))

pub returns : goal.returns
returns c =
    let line = c.args.line.now in
    let is = parameter_by_equals line c.requires (sym c.are_words.ensures ∙ c.if-are_words.false)
    (sym c.are_words-2.ensures ∙ c.if-are_words-2.false)
    (omega (
      arith,
      c.if-equals-line.false,
      c.first_place-equals.ensures.place,
      c.first_place-equals.ensures.within,
    )) in
    let place = c.first_place-equals.ensures.place in
    rw c.trim-key.ensures (rw c.trim-value.ensures (rw take_rest (rw place is)))
