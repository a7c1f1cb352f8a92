use Rattle.std.proofs.Common.{◌∙◌, sym}
use Rattle.element_table.proofs.Listing.{Decides-is_in_window, Decides-passes}
use Rattle.element_table.proofs.Within.{Decides-is_proper_part, Decides-is_within}
use Rattle.element_table.proofs.laws.the_tests_decide.Goals as goal

pub returns-clause-within : goal.returns-clause-within
returns-clause-within c part whole one other = Decides-is_within part whole (one.places ∙ sym other.places)

pub returns-clause-proper : goal.returns-clause-proper
returns-clause-proper c part whole one other = Decides-is_proper_part part whole (one.places ∙ sym other.places)

pub returns-clause-window : goal.returns-clause-window
returns-clause-window c = Decides-is_in_window

pub returns-clause-rules : goal.returns-clause-rules
returns-clause-rules c = Decides-passes
