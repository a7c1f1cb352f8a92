use Rattle.element_table.proofs.Listing.{Decides-passes}
use Rattle.valence_filter.proofs.sieve.Sieve.passes.Goals as goal

pub returns-clause-exactly : goal.returns-clause-exactly
returns-clause-exactly g c = rw c.answer.ensures (Decides-passes _ _)
