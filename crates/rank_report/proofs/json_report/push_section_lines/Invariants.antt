use Rattle.std.proofs.Common.{◌≡◌, ◌++◌, take}
use Rattle.std.specs.List.{flat_map}
use Rattle.rank_report.specs.JsonReport.{section_json_of}
use Rattle.rank_report.proofs.json_report.push_section_lines.Given as goal

abbrev pub invariant-loop-section : goal.invariant-loop-section
invariant-loop-section l =
    l.text.items ≡ l.initial.text.items ++ flat_map section_json_of (take l.section-index l.sections)
