use Rattle.certificate_checker.proofs.table.check_table.Goals as goal

pub returns-in-Some-2 : goal.returns-in-Some-2
returns-in-Some-2 c = (rw c.in-Some-2.is at c.in_ok-place.ensures) c.args.upper
