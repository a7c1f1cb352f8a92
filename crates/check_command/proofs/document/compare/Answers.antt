use Rattle.std.proofs.Common.{List, subst}
use Rattle.tree_document.specs.declared.document.Section.{Section}
use Rattle.right_document.specs.SettingsOf.{solve_settings_value_of}
use Rattle.check_command.specs.inside.CheckAnswers.{AreSectionsAnswer}
use Rattle.check_command.proofs.document.compare.Goals as goal

pub returns : goal.returns
returns g c =
    let settings = solve_settings_value_of c.args.settings.now in
    let waiting = c.read_all.new.reader.waiting in
    c.comparison.ensures settings c.args.text.now waiting c.in_ok-fault.ensures
    (subst (λ (sections : List Section). AreSectionsAnswer settings waiting sections c.in_ok-place.place)
    c.items.ensures c.in_ok-place.ensures)
