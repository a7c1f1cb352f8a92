use Rattle.mgf_reader.proofs.TakesIn.{stands-new}
use Rattle.mgf_reader.proofs.reader.Reader.new.Goals as goal

pub returns-clause-stands : goal.returns-clause-stands
returns-clause-stands c = rw c.new.ensures stands-new
