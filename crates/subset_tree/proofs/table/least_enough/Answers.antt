use Rattle.std.proofs.Common.{w64, ◌<◌, length, arith}
use Rattle.std.proofs.lemmas.Int.{to_z-of_z}
use Rattle.tree_certificate.specs.Number.{number_in}
use Rattle.subset_tree.proofs.Sums.{enough-none, fits-modest}
use Rattle.subset_tree.proofs.table.least_enough.Goals as goal

pub returns-then-any-clause-enough : goal.returns-then-any-clause-enough
returns-then-any-clause-enough c = rw (to_z-of_z w64 c.greatest_sum.result (record { sfits = c.greatest_sum.type_inv }))
    c.greatest_sum.ensures.enough

pub returns-else-any-clause-enough : goal.returns-else-any-clause-enough
returns-else-any-clause-enough c =
    let numbers = c.args.numbers.now in
    let set = c.args.set in
    let room : set < length c.args.gains.now = c.requires.room.1 in
    rw (to_z-of_z w64 (number_in numbers set) (fits-modest numbers set c.requires.modest c.requires.few))
    (λ colours at. enough-none numbers c.args.gains.now colours set at c.requires.modest c.requires.few
    (λ place within. c.requires.none c.if-any.false place (omega arith)))
