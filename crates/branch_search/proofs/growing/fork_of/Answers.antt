use Rattle.std.proofs.Common.{ap, ap₂, ◌∙◌, to_z, of_z, w64}
use Rattle.std.proofs.lemmas.Int.{to_z-of_z}
use Rattle.std.specs.Int.{int_max}
use Rattle.branch_search.specs.inside.Growing.{fork, grown_of, total_in}
use Rattle.branch_search.proofs.NodeValues.{grown_of_fork}
use Rattle.branch_search.proofs.growing.fork_of.Goals as goal

pub returns : goal.returns
returns c =
    let one = to_z-of_z w64 c.total.result (record { sfits = c.total.type_inv }) ∙ c.total.ensures
    ∙ ap (λ n. total_in (grown_of n)) c.get.ensures in
    let other = to_z-of_z w64 c.total-2.result (record { sfits = c.total-2.type_inv }) ∙ c.total-2.ensures
    ∙ ap (λ n. total_in (grown_of n)) c.get-2.ensures in
    grown_of_fork (to_z w64 (of_z w64 c.greater-total.result)) c.args.colour c.args.part c.args.first c.args.second
    ∙ ap (λ total. fork total c.args.colour c.args.part (grown_of c.args.first) (grown_of c.args.second))
    (to_z-of_z w64 c.greater-total.result (record { sfits = c.greater-total.type_inv }) ∙ c.greater-total.ensures
    ∙ ap₂ int_max one other)
