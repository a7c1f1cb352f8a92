use Rattle.mgf_reader.proofs.KindOf.{of_its_number, of_its_text, numbered, spelled}
use Rattle.mgf_reader.proofs.laws.a_kind_has_one_number_and_one_word.Goals as goal

pub returns-clause-number : goal.returns-clause-number
returns-clause-number c kind = of_its_number kind

pub returns-clause-text : goal.returns-clause-text
returns-clause-text c kind = of_its_text kind

pub returns-clause-numbered : goal.returns-clause-numbered
returns-clause-numbered c number kind is = numbered number kind is

pub returns-clause-spelled : goal.returns-clause-spelled
returns-clause-spelled c text kind is = spelled text kind is
