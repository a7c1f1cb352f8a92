use Rattle.std.proofs.Common.{sym, w64, ◌∙◌}
use Rattle.std.proofs.lemmas.Int.{to_z-of_z}
use Rattle.price_bound.specs.Plain.{IsPlain}
use Rattle.branch_search.proofs.LeafSteps.{leaf-plain, leaf-priced, open-none, open-some}
use Rattle.branch_search.proofs.leaves.own_leaf.Goals as goal
use Rattle.branch_search.proofs.leaves.own_leaf.Goals.{then-is_some+in_ok-cert, else-is_some+in_ok-cert-2}

pub returns-clause-leaf : goal.returns-clause-leaf
returns-clause-leaf g c =
    let graph = c.args.graph.now in
    let allowed = c.args.allowed.now in
    let same = to_z-of_z w64 c.bound_of-total.result (record { sfits = c.bound_of-total.type_inv })
    ∙ c.bound_of-total.ensures in
    elim c.if-is_some.branch [
      | then-is_some+in_ok-cert w ↦
          leaf-priced graph allowed c.in_ok-tree.tree.score w.in_ok-cert.cert c.if-is_some.cert _ w.cert-is same
          w.in_ok-cert.ensures.priced
          (open-some graph allowed c.open_colour.result c.open_colour.ensures
          (sym c.is_some.ensures ∙ w.if-is_some.true))
      | else-is_some+in_ok-cert-2 w ↦
          let decided = open-none graph allowed c.open_colour.result c.open_colour.ensures
          (sym c.is_some.ensures ∙ w.if-is_some.false) in
          let plain : IsPlain graph allowed c.if-is_some.cert = rw w.cert-is w.in_ok-cert-2.ensures.plain in
          leaf-plain graph allowed c.in_ok-tree.tree.score w.in_ok-cert-2.cert c.if-is_some.cert _ w.cert-is same
          w.in_ok-cert-2.ensures.holds (w.in_ok-cert-2.ensures.tree decided)
          (c.the_cap_bounds_every_tree.ensures graph allowed c.is_graph.ensures)
          (c.in_ok-tree.ensures.reached decided plain)
    ]
