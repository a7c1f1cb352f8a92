use Rattle.std.specs.Prelude.{decimal}
use Rattle.case_maker.specs.MadeText.{mz_text}
use Rattle.case_maker.proofs.Appended.{head_appended}
use Rattle.case_maker.proofs.text.push_head.Goals as goal
use Rattle.std.proofs.Common.{◌∙◌, ◌++◌, ap}
use Rattle.std.specs.Prelude.{codes}

pub returns : goal.returns
returns c =
    head_appended c.args.text.now.items (decimal c.args.number) (decimal c.args.spectrum) (mz_text c.args.formula.now)
    c.push_number.new.text.items c.push_number-2.new.text.items c.extend_from_slice.new.self.items
    c.push_mz.new.text.items
    c.extend_from_slice-2.new.self.items
    c.in_ok-push_number.ensures
    (c.in_ok-push_number-2.ensures ∙ ap (λ number. c.push_number.new.text.items
    ++ (codes " " ++ decimal number)) c.from.ensures)
    c.in_ok-extend_from_slice.ensures.items
    c.in_ok-push_mz.ensures
    c.in_ok-extend_from_slice-2.ensures.items
