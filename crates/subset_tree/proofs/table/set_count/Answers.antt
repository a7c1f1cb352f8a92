use Rattle.tree_certificate.proofs.SetParts.{powers-le, shifted-is}
use Rattle.subset_tree.proofs.table.set_count.Goals as goal

pub returns-clause-count : goal.returns-clause-count
returns-clause-count c = shifted-is c.args.colours c.requires

pub returns-clause-few : goal.returns-clause-few
returns-clause-few c = rw (shifted-is c.args.colours c.requires) (powers-le c.args.colours c.requires)
