-- How a document ends for a text.
use Rattle.std.specs.Prelude.{Option, Some, None}
use Rattle.mgf_reader.specs.Fault.{kind_number}
use Rattle.mgf_reader.specs.declared.fault.MgfFault.{MgfFault}
use Rattle.tree_document.specs.declared.document.Ending.{Ending}
use Rattle.tree_document.specs.declared.document.Ending.TheVariants.{Clean, Refused}

-- clean, or with the line that refused the text and the number of its kind
abbrev pub ending_of : Option MgfFault → Ending
ending_of None = Clean
ending_of (Some fault) = Refused (record { line = fault.line; kind = kind_number fault.kind })
