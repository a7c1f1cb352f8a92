-- The plan of the command `check`: it begins the text, the document and the report, reads the text and then the
-- document,
-- and writes the report.
use Rattle.std.specs.Prelude.{◌++◌, ℕ, List, ◌∷◌, Some}
use Rattle.frag_io.specs.declared.desk.Slot.TheVariants.{CertIn}
use Rattle.order_words.specs.Orders.{DocumentNames}
use Rattle.run_plan.specs.Plan.{Step, begin, profile_steps, read, report_steps, text_steps}

-- its steps behind those of the profile
abbrev pub check_steps_of : List ℕ → List ℕ → List Step
check_steps_of text document = text_steps text (Some (begin CertIn document)) ++ (read CertIn ∷ report_steps)

abbrev pub check_plan : DocumentNames → List Step
check_plan names = profile_steps names.profile ++ check_steps_of names.spectra names.document
