use Rattle.element_table.proofs.Words.{formula_text-some, formula_text-visible}
use Rattle.element_table.proofs.laws.a_spelling_is_one_word.Goals as goal

pub returns-clause-some : goal.returns-clause-some
returns-clause-some c = formula_text-some

pub returns-clause-visible : goal.returns-clause-visible
returns-clause-visible c = formula_text-visible
