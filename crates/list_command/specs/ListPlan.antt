-- The plan of the command `list`: it begins the text and the report, reads the text, and writes the report.
use Rattle.std.specs.Prelude.{◌++◌, ℕ, List, None}
use Rattle.order_words.specs.Orders.{ListNames}
use Rattle.run_plan.specs.Plan.{Step, profile_steps, report_steps, text_steps}

abbrev pub list_plan : ListNames → List Step
list_plan names = profile_steps names.profile ++ (text_steps names.spectra None ++ report_steps)
