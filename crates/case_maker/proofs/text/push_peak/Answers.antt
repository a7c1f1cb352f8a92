use Rattle.std.proofs.Common.{◌∙◌, ◌+◌, ◌%◌, ◌++◌, ap}
use Rattle.std.specs.Prelude.{codes, decimal}
use Rattle.case_maker.specs.Draws.{draw_at}
use Rattle.case_maker.specs.Drawn.{drawn_intensity, drawn_part}
use Rattle.case_maker.specs.MadeText.{mz_text}
use Rattle.case_maker.proofs.Appended.{peak_appended}
use Rattle.case_maker.proofs.text.push_peak.Goals as goal

pub returns-clause-appended : goal.returns-clause-appended
returns-clause-appended c =
    peak_appended c.args.text.now.items (mz_text (drawn_part c.args.whole.now c.args.generator.now))
    (decimal (drawn_intensity c.args.generator.now))
    c.push_mz.new.text.items c.push_number.new.text.items c.push.new.self.items
    (c.in_ok-push_mz.ensures ∙ ap (λ part. c.args.text.now.items ++ mz_text part) c.draw_part-part.ensures.drawn)
    (c.in_ok-push_number.ensures ∙ ap (λ intensity. c.push_mz.new.text.items
    ++ (codes " " ++ decimal (1 + intensity)))
    (c.draw_below-intensity.ensures.drawn ∙ ap (λ state. draw_at 0 state % 1000000) c.draw_part-part.ensures.state))
    c.in_ok-push.ensures.items
