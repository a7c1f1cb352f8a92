use Rattle.std.proofs.Common.{◌≡◌, ◌<◌, ◌∙◌, ℕ, Bool, false, true, List, Ok, length, ap, arith, sym}
use Rattle.std.specs.Prelude.{codes}
use Rattle.std.specs.Str.{bytes_eq}
use Rattle.std.proofs.lemmas.Bool.{eqb-false}
use Rattle.element_table.proofs.ReadSoFar.{ReadSoFar-more, ReadSoFar-none, formula_of-dash, formula_of-no_capital}
use Rattle.element_table.proofs.ReadSoFar.{formula_of-no_count}
use Rattle.element_table.proofs.ReadAll.{IsFormula-read, at_end, formula_of-read, formula_of-too_large}
use Rattle.element_table.proofs.ReadAll.{formula_of-unknown}
use Rattle.element_table.proofs.reading.read_formula.Goals as goal

compared : (text dash : List ℕ) (answer : Bool) → answer ≡ bytes_eq text dash → dash ≡ codes "-"
    → bytes_eq text (codes "-") ≡ answer
compared text dash answer is dash_is = sym (is ∙ ap (bytes_eq text) dash_is)

pub loop-rest-init : goal.loop-rest-init
loop-rest-init c = ReadSoFar-none c.args.text.now (sym c.if-not-begins_piece.ensures)

pub returns-in_default : goal.returns-in_default
returns-in_default c =
    let no_dash = compared c.args.text.now _ false c.if-eq.ensures c.as_slice.ensures in
    let some : 0 < length c.loop-rest.rest.now =
    omega (arith, eqb-false (length c.loop-rest.rest.now) 0 (sym c.loop-rest-test.ensures)) in
    formula_of-no_count c.args.text.now c.loop-rest.rest.now c.loop-rest.totals c.split_piece.result.0.now _
    c.loop-rest.all_known no_dash (sym c.if-not-begins_piece.ensures) c.loop-rest.invariant some
    c.split_piece.ensures.piece (rw c.split_symbol.ensures.digits at c.in_default.ensures)

pub loop-rest-preserved : goal.loop-rest-preserved
loop-rest-preserved c =
    let some : 0 < length c.loop-rest.rest.now =
    omega (arith, eqb-false (length c.loop-rest.rest.now) 0 (sym c.loop-rest-test.ensures)) in
    ReadSoFar-more c.args.text.now c.loop-rest.rest.now c.split_piece.result.1.now c.loop-rest.totals
    c.add-all_known.new.totals c.split_piece.result.0.now c.in-Some.count c.loop-rest.all_known
    c.add-all_known.result c.loop-rest.invariant some
    c.split_piece.ensures.piece c.split_piece.ensures.rest (rw c.split_symbol.ensures.digits at c.in-Some.ensures)
    (rw c.split_symbol.ensures.symbol at c.add-all_known.ensures.known) c.add-all_known.array_long
    (rw c.split_symbol.ensures.symbol at c.add-all_known.ensures.added) c.add-all_known.ensures.others

pub of_counts-requires : goal.of_counts-requires
of_counts-requires c =
    IsFormula-read c.args.text.now c.loop-rest.totals c.loop-rest.all_known
    (at_end _ _ _ _ c.loop-rest.invariant c.loop-rest-test.ensures) (sym c.if-not-all_fit.ensures)

pub returns : goal.returns
returns c =
    let no_dash = compared c.args.text.now _ false c.if-eq.ensures c.as_slice.ensures in
    ap Ok c.of_counts.ensures
    ∙ formula_of-read c.args.text.now c.loop-rest.totals c.loop-rest.all_known no_dash
    (sym c.if-not-begins_piece.ensures) (at_end _ _ _ _ c.loop-rest.invariant c.loop-rest-test.ensures)
    c.if-not-all_known.false (sym c.if-not-all_fit.ensures)

pub returns-then-not-all_fit : goal.returns-then-not-all_fit
returns-then-not-all_fit c =
    let no_dash = compared c.args.text.now _ false c.if-eq.ensures c.as_slice.ensures in
    formula_of-too_large c.args.text.now c.loop-rest.totals c.loop-rest.all_known no_dash
    (sym c.if-not-begins_piece.ensures) (at_end _ _ _ _ c.loop-rest.invariant c.loop-rest-test.ensures)
    c.if-not-all_known.false (sym c.if-not-all_fit.ensures)

pub returns-then-not-all_known : goal.returns-then-not-all_known
returns-then-not-all_known c =
    let no_dash = compared c.args.text.now _ false c.if-eq.ensures c.as_slice.ensures in
    formula_of-unknown c.args.text.now c.loop-rest.totals c.loop-rest.all_known no_dash
    (sym c.if-not-begins_piece.ensures) (at_end _ _ _ _ c.loop-rest.invariant c.loop-rest-test.ensures)
    c.if-not-all_known.true

pub returns-then-eq : goal.returns-then-eq
returns-then-eq c =
    ap Ok c.empty.ensures ∙ formula_of-dash c.args.text.now
    (compared c.args.text.now _ true c.if-eq.ensures c.as_slice.ensures)

pub returns-then-not-begins_piece : goal.returns-then-not-begins_piece
returns-then-not-begins_piece c =
    let no_dash = compared c.args.text.now _ false c.if-eq.ensures c.as_slice.ensures in
    formula_of-no_capital c.args.text.now no_dash (sym c.if-not-begins_piece.ensures)
