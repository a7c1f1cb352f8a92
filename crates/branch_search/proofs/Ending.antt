-- Of Stands: what a search answers at its end.
use Rattle.std.proofs.Common.{◌≡◌, ◌≤◌, ℕ, ℤ, ◌≤ℤ◌, ◌<ℤ◌, Bool, true, List, length, get_or, ap}
use Rattle.std.proofs.Common.{sym, ◌∙◌, arith, IsTrue}
use Rattle.std.proofs.lemmas.Int.{by_lt_z, ints}
use Rattle.std.proofs.lemmas.List.{get_or-replicate}
use Rattle.std.specs.List.{All}
use Rattle.colour_graph.specs.Bounded.{IsBounded}
use Rattle.colour_graph.specs.Cap.{cap_of}
use Rattle.colour_graph.specs.Colourful.{score_of}
use Rattle.colour_graph.specs.EdgeSet.{all_edges, is_allowed}
use Rattle.colour_graph.specs.Graph.{Graph, IsGraph, colour_count, greatest_graph}
use Rattle.tree_certificate.specs.BoundHolds.{BoundHolds, depth_of, greatest_depth, splits_of}
use Rattle.tree_certificate.specs.BoundValue.{BoundValue}
use Rattle.tree_certificate.specs.Spent.{Spent}
use Rattle.branch_search.specs.Room.{enough_splits}
use Rattle.branch_search.specs.inside.Choosing.{IsTree}
use Rattle.branch_search.specs.inside.Growing.{Grown, Stands, bound_in, splits_in, total_in}
use Rattle.branch_search.proofs.Enough.{enough}
use Rattle.branch_search.proofs.FewEdges.{depth-few}
use Rattle.branch_search.proofs.Standing.{BoundHolds-grown, go_on-grown, greatest-grown, splits_of-grown, tight-grown}
use Rattle.branch_search.proofs.GrowSteps.{joined}
use Rattle.branch_search.proofs.Standing.{Stands-weaker, useful-grown}

self : (a : ℤ) → a ≤ℤ a
self a = omega (arith, ints)

-- what is so when no further split is made
pub record IsEnd (graph : Graph) (budget : ℕ) (node : Grown) (edges : List ℕ) (score : ℤ) : Type 0 where
  pub stands : Stands graph (all_edges graph) score (total_in node) node
  pub few : splits_in node ≤ budget
  pub spent : score <ℤ total_in node → splits_in node ≡ budget
  pub tree : IsTree graph edges score

module _ (graph : Graph) (budget : ℕ) (node : Grown) (edges : List ℕ) (score : ℤ) (bound : BoundValue) (upper : ℤ)
    (is : IsGraph graph) (end : IsEnd graph budget node edges score) (same : bound ≡ bound_in node)
    (total : upper ≡ total_in node)
  where
    pub end-holds : BoundHolds graph (all_edges graph) bound upper
    end-holds =
        rw (same, total) (BoundHolds-grown graph (all_edges graph) score (total_in node) (total_in node) node end.stands
        (self (total_in node)))

    splits-same : splits_of bound ≡ splits_in node
    splits-same = ap splits_of same ∙ splits_of-grown node

    pub end-splits : splits_of bound ≤ budget
    end-splits = omega (arith, splits-same, end.few)

    pub end-depth : length graph.colours ≤ greatest_graph → colour_count graph ≤ 64 → depth_of bound ≤ greatest_depth
    end-depth few counted =
        rw same (depth-few graph (all_edges graph) score (total_in node) node is few counted end.stands)

    pub end-below : IsBounded graph (all_edges graph) upper → score_of graph edges ≤ℤ upper
    end-below bounded = bounded edges end.tree.colourful each
      where
        each : All (λ edge. IsTrue (is_allowed (all_edges graph) edge)) edges
        each place d within =
            get_or-replicate (length graph.edges) (get_or edges place d) true _
            (end.tree.colourful.in_range place d within)

    over : score_of graph edges <ℤ upper → score <ℤ total_in node
    over more = rw (end.tree.is_score, ← total) more

    pub end-spent : score_of graph edges <ℤ upper → Spent graph bound (score_of graph edges) upper budget
    end-spent more = rw (same, total, ← end.tree.is_score) (record {
      splits = splits_of-grown node ∙ end.spent (over more);
      greatest = greatest-grown graph (all_edges graph) score (total_in node) node 0 end.stands;
      tight = tight-grown graph (all_edges graph) score (total_in node) node 0 end.stands;
      useful = useful-grown graph (all_edges graph) score (total_in node) node 0 end.stands;
      go_on = go_on-grown graph (all_edges graph) score (total_in node) node 0 end.stands;
    })

    pub end-enough : IsBounded graph (all_edges graph) upper → enough_splits graph ≤ budget
        → upper ≡ score_of graph edges
    end-enough bounded room = by_lt_z (score_of graph edges) upper above at_most
      where
        above : score_of graph edges <ℤ upper → upper ≡ score_of graph edges
        above more =
            let few = enough graph bound upper end-holds in
            let all = end.spent (over more) in
            absurd (omega (arith, few, all, room, splits-same))

        both : (a b : ℤ) → a ≤ℤ b → b ≤ℤ a → b ≡ a
        both a b one other = omega (arith, ints)

        at_most : upper ≤ℤ score_of graph edges → upper ≡ score_of graph edges
        at_most low = both (score_of graph edges) upper (end-below bounded) low

-- what is so after one more split
module _ (graph : Graph) (score : ℤ) (old new : Grown) (allowed : List Bool) (all : allowed ≡ all_edges graph)
    (less : total_in new ≤ℤ total_in old) (stands : Stands graph allowed score (total_in old) new)
  where
    pub more-stands : Stands graph (all_edges graph) score (total_in new) new
    more-stands = rw (sym all) (Stands-weaker graph allowed score score (total_in old) (total_in new) new (self score)
        less stands)

    pub more-capped : total_in old ≤ℤ cap_of graph (all_edges graph) → total_in new ≤ℤ cap_of graph (all_edges graph)
    more-capped low = joined (total_in new) (total_in old) (cap_of graph (all_edges graph)) less low
