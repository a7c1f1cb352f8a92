use Rattle.std.proofs.Common.{◌≡◌, ◌∙◌, ◌+◌, ◌*◌, ◌++◌, ap, arith}
use Rattle.case_maker.specs.Draws.{state_after}
use Rattle.case_maker.specs.Drawn.{drawn_formula}
use Rattle.case_maker.specs.MadeText as spec
use Rattle.case_maker.proofs.Appended.{block_appended}
use Rattle.case_maker.proofs.States.{state_after-from}
use Rattle.case_maker.proofs.text.push_block.Goals as goal

pub returns-clause-appended : goal.returns-clause-appended
returns-clause-appended c =
    let formula = drawn_formula c.args.generator.now in
    block_appended c.args.text.now.items (spec.head_lines c.args.number c.args.spectrum formula)
    (spec.peak_lines formula c.args.peaks (state_after spec.draws_of_formula c.args.generator.now))
    c.push_head.new.text.items c.push_peaks.new.text.items c.extend_from_slice.new.self.items
    (c.in_ok-push_head.ensures ∙ ap (λ drawn. c.args.text.now.items
    ++ spec.text_of (spec.head_lines c.args.number c.args.spectrum drawn)) c.draw_formula-formula.ensures.drawn)
    (c.in_ok-push_peaks.ensures.appended
    ∙ ap (λ drawn. c.push_head.new.text.items
    ++ spec.text_of (spec.peak_lines drawn c.args.peaks c.draw_formula-formula.new.generator))
    c.draw_formula-formula.ensures.drawn
    ∙ ap (λ state. c.push_head.new.text.items ++ spec.text_of (spec.peak_lines formula c.args.peaks state))
    c.draw_formula-formula.ensures.state)
    c.in_ok-extend_from_slice.ensures.items

pub returns-clause-state : goal.returns-clause-state
returns-clause-state c =
    let count : c.args.peaks * spec.draws_of_peak + spec.draws_of_formula ≡ spec.draws_of_spectrum c.args.peaks =
    omega arith in
    c.in_ok-push_peaks.ensures.state
    ∙ ap (λ state. state_after (c.args.peaks * spec.draws_of_peak) state) c.draw_formula-formula.ensures.state
    ∙ state_after-from (c.args.peaks * spec.draws_of_peak) spec.draws_of_formula c.args.generator.now
    ∙ ap (λ draws. state_after draws c.args.generator.now) count
