use Rattle.std.proofs.Common.{◌∙◌, ◌++◌, ◌∷◌, [], List, ℕ, ap, subst}
use Rattle.rank_report.specs.Report.{ending_text_of}
use Rattle.tree_document.specs.Document.{IsGoodLine, ending_line, text_of}
use Rattle.tree_document.specs.declared.document.Ending.{Ending}
use Rattle.solve_command.proofs.document.push_endings.Goals as goal

pub returns-clause-document : goal.returns-clause-document
returns-clause-document c =
    c.in_ok-extend_from_slice.ensures.items
    ∙ ap (λ (bytes : List ℕ). c.args.document.now.items ++ bytes)
    (c.deref.ensures.value ∙ c.in_ok-end_line.ensures
    ∙ ap (λ (ending : Ending). text_of (ending_line ending ∷ [])) c.ending_of-ending.ensures.ending)

pub returns-clause-report : goal.returns-clause-report
returns-clause-report c =
    c.in_ok-push_ending.ensures
    ∙ ap (λ (ending : Ending). c.args.report.now.items ++ ending_text_of ending) c.ending_of-ending.ensures.ending

pub returns-clause-good : goal.returns-clause-good
returns-clause-good c =
    subst (λ (ending : Ending). IsGoodLine (ending_line ending)) c.ending_of-ending.ensures.ending
    c.ending_of-ending.ensures.good
