use Rattle.std.proofs.Common.{◌≡◌, ◌∙◌, of_z, to_z, rules, w64}
use Rattle.std.proofs.lemmas.Int.{to_z-of_z}
use Rattle.colour_graph.specs.Cap.{cap_of}
use Rattle.tree_certificate.specs.Spent.{SplitNode, IsUseful}
use Rattle.entry_checker.proofs.Gathering.{at_most-as, found_node, not_at_most-as}
use Rattle.entry_checker.proofs.gap.look_at_split.Goals as goal

pub returns-clause-gathered : goal.returns-clause-gathered
returns-clause-gathered c leaves splits before =
    let upper = c.args.gap.upper in
    let cap = cap_of c.args.graph.now c.args.allowed.now in
    let upper_is : to_z w64 (of_z w64 upper) ≡ upper = search rules in
    let cap_is : to_z w64 (of_z w64 c.cap_in.result) ≡ cap =
    to_z-of_z w64 c.cap_in.result (record { sfits = c.cap_in.type_inv }) ∙ c.cap_in.ensures in
    record {
      slack = before.slack;
      wasted = rw c.first_with-found.ensures
          (found_node (λ (split_node : SplitNode). split_node.node) (IsUseful c.args.graph.now upper) splits
          (record { node = c.args.found.now.next; allowed = c.args.allowed.now })
          c.args.found.now.first_wasted _ (at_most-as _ _ upper cap upper_is cap_is)
          (not_at_most-as _ _ upper cap upper_is cap_is) before.wasted);
      decided = before.decided;
    }
