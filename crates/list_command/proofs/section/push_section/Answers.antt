use Rattle.std.proofs.Common.{ap, append_assoc, rules}
use Rattle.tree_document.specs.Outline.{outline_of}
use Rattle.right_document.specs.Outlined.{Outlined}
use Rattle.list_command.proofs.section.push_section.Goals as goal

pub returns : goal.returns
returns g c =
    let section : Outlined = record {
      line = c.spectrum.inside.line;
      title = c.spectrum.inside.title;
      outline =
          outline_of c.in_ok-outline.outline;
    } in (
      section,
      record {
        line = ap (λ s. s.line) c.spectrum.view_is;
        title = ap (λ s. s.title) c.spectrum.view_is;
        outline = c.in_ok-outline.ensures.outline;
      },
      search (rules, append_assoc),
    )
