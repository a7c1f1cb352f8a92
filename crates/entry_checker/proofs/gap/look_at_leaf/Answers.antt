use Rattle.std.proofs.Common.{◌≡◌, ◌∙◌, of_z, sym, to_z, rules, w64}
use Rattle.std.proofs.lemmas.Bool.{false≢true}
use Rattle.std.proofs.lemmas.Int.{to_z-of_z}
use Rattle.colour_graph.specs.Cap.{cap_of}
use Rattle.tree_certificate.specs.PriceHolds.{price_total}
use Rattle.tree_certificate.specs.Spent.{CanGoOn, IsTight, Leaf}
use Rattle.entry_checker.proofs.Gathering.{at_most-as, found_node, not_at_most-as}
use Rattle.entry_checker.proofs.gap.look_at_leaf.Goals as goal

pub returns-clause-gathered : goal.returns-clause-gathered
returns-clause-gathered c leaves splits before =
    let leaf : Leaf = record { node = c.args.found.now.next; allowed = c.args.allowed.now; cert = c.args.cert.now } in
    let total = price_total c.args.graph.now c.args.cert.now in
    let cap = cap_of c.args.graph.now c.args.allowed.now in
    let total_is : to_z w64 (of_z w64 c.total_of-total.result) ≡ total =
    to_z-of_z w64 c.total_of-total.result (record { sfits = c.total_of-total.type_inv }) ∙ c.total_of-total.ensures in
    let cap_is : to_z w64 (of_z w64 c.cap_in.result) ≡ cap =
    to_z-of_z w64 c.cap_in.result (record { sfits = c.cap_in.type_inv }) ∙ c.cap_in.ensures in
    let score_is : to_z w64 (of_z w64 c.args.gap.score) ≡ c.args.gap.score = search rules in
    let goes = rw (total_is, score_is) at c.can_go_on-goes_on.ensures in
    record {
      slack = rw c.first_with-found.ensures
          (found_node (λ (leaf : Leaf). leaf.node) (IsTight c.args.graph.now) leaves leaf c.args.found.now.first_slack _
          (at_most-as _ _ total cap total_is cap_is) (not_at_most-as _ _ total cap total_is cap_is) before.slack);
      wasted = before.wasted;
      decided = rw c.first_with-found-2.ensures
          (found_node (λ (leaf : Leaf). leaf.node) (CanGoOn c.args.graph.now c.args.gap.score) leaves leaf
          c.args.found.now.first_decided _ goes.0
          (λ fails holds. false≢true (sym fails ∙ goes.1 holds)) before.decided);
    }
