use Rattle.std.specs.Prelude.{true, false}
use Rattle.mgf_reader.specs.Text.{text_lines, judged_lines}
use Rattle.mgf_reader.proofs.ReadsLines.{lines_are_read_one_way}
use Rattle.mgf_reader.proofs.laws.a_text_is_read_one_way.Goals as goal

pub returns-clause-whole : goal.returns-clause-whole
returns-clause-whole c text spectra other fault another one two =
    lines_are_read_one_way true (text_lines text) spectra other fault another one two

pub returns-clause-so_far : goal.returns-clause-so_far
returns-clause-so_far c text spectra other fault another one two =
    lines_are_read_one_way false (judged_lines text) spectra other fault another one two
