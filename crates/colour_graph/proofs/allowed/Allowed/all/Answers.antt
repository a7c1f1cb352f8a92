use Rattle.std.proofs.Common.{◌∙◌, true, ap, arith, refl, replicate}
use Rattle.colour_graph.proofs.Sets.{length-kept, marks_of-all}
use Rattle.colour_graph.proofs.allowed.Allowed.all.Goals as goal

pub returns-clause-all : goal.returns-clause-all
returns-clause-all c =
    marks_of-all _ _ c.edge_count-count.result (c.in_ok-words.ensures.items_if_clones_equal (λ y same. same))
    (omega arith)
    ∙ ap (λ count. replicate count true) c.edge_count-count.ensures.count

pub returns-clause-set : goal.returns-clause-set
returns-clause-set c = length-kept _ c.edge_count-count.result _ refl ∙ c.edge_count-count.ensures.count
