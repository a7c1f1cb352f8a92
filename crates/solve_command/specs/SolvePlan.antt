-- The plan of the command `solve`: it begins the text, the document and the report, reads the text, and writes the
-- document
-- and the report.
use Rattle.std.specs.Prelude.{◌++◌, ℕ, List, Some}
use Rattle.frag_io.specs.declared.desk.Slot.TheVariants.{CertOut}
use Rattle.order_words.specs.Orders.{DocumentNames}
use Rattle.run_plan.specs.Plan.{Step, begin, output_steps, profile_steps, text_steps}

-- its steps behind those of the profile
abbrev pub solve_steps_of : List ℕ → List ℕ → List Step
solve_steps_of text document = text_steps text (Some (begin CertOut document)) ++ output_steps

abbrev pub solve_plan : DocumentNames → List Step
solve_plan names = profile_steps names.profile ++ solve_steps_of names.spectra names.document
