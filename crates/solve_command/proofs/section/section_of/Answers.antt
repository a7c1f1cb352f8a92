use Rattle.std.proofs.Common.{sym, subst}
use Rattle.tree_document.specs.Document.{AreGoodLines, body_lines}
use Rattle.tree_document.specs.declared.document.Body.{Body}
use Rattle.tree_document.specs.declared.outline.Outline.{Outline}
use Rattle.right_document.specs.GoodLines.{HasGoodReason}
use Rattle.tree_document.specs.Outline.{outline_of}
use Rattle.solve_command.proofs.section.section_of.Goals as goal
use Rattle.solve_command.proofs.section.section_of.Goals.{in-Skipped, in-Listed+in_ok-solved_of-in-Listed}

pub section_with-requires : goal.section_with-requires
section_with-requires g c =
    elim c.match-branch-2.branch [
      | in-Skipped w ↦
          subst (λ (body : Body). AreGoodLines (body_lines body)) (sym w.body-is) (
            subst (λ (outline : Outline). HasGoodReason (outline_of outline)) w.in-Skipped.is
                c.in_ok-reason.ensures.reason,
            tt,
          )
      | in-Listed+in_ok-solved_of-in-Listed w ↦
          subst (λ (body : Body). AreGoodLines (body_lines body))
          (sym w.body-is) w.in_ok-solved_of-in-Listed.ensures.good
    ]
