use Rattle.certificate_checker.proofs.Gaining.{clear-zeros}
use Rattle.certificate_checker.proofs.prices.low_potential.Goals as goal

pub gather_needed-requires-clause-none : goal.gather_needed-requires-clause-none
gather_needed-requires-clause-none c = clear-zeros 512

pub gather_needed-requires-clause-clear : goal.gather_needed-requires-clause-clear
gather_needed-requires-clause-clear c = clear-zeros 512
