-- An exact table holds with the score of a tree that reaches what the table says of the graph, and that tree is best.
use Rattle.std.proofs.Common.{◌≡◌, ◌-◌, ◌^◌, ℕ, ℤ, pos, ◌≤ℤ◌, true, IsTrue, List, ◌∷◌, length, get_or, ap, sym, ◌∙◌}
use Rattle.std.proofs.Common.{arith, mul-zero}
use Rattle.std.proofs.lemmas.Int.{ints}
use Rattle.std.proofs.lemmas.List.{get_or-replicate}
use Rattle.std.specs.List.{All}
use Rattle.colour_graph.specs.Colourful.{IsColourful, score_of}
use Rattle.colour_graph.specs.EdgeSet.{all_edges, is_allowed}
use Rattle.colour_graph.specs.Graph.{Graph, colour_count, colour_of}
use Rattle.tree_certificate.specs.TableHolds.{TableHolds, number_at, number_of, table_total}
use Rattle.subset_tree.specs.inside.Exact.{IsExact}

same-le : (a b : ℤ) → a ≡ b → a ≤ℤ b
same-le a b is = rw is (omega (arith, ints))

pub table_holds : (graph : Graph) (rows : List (List ℤ)) (edges : List ℕ) → IsExact graph rows
    → score_of graph edges ≡ table_total graph rows → TableHolds graph rows (score_of graph edges)
table_holds graph rows edges exact reached = record {
  fits = exact.fits;
  high = λ vertex place within inside. record {
    empty = λ none. same-le (pos 0) (number_at rows vertex place)
        (sym (exact.empty vertex within)
        ∙ ap (number_at rows vertex) (mul-zero (2 ^ (colour_count graph - 0 - colour_of graph vertex)) ∙ sym none));
    high = λ set room at.
        (exact.exact vertex set within room (number_at rows vertex place)).0
        (same-le (number_of graph rows vertex (true ∷ set)) (number_at rows vertex place)
        (ap (number_at rows vertex) at));
  };
  total = same-le (table_total graph rows) (score_of graph edges) (sym reached);
}

-- All edges of a list are in the set of all.
pub in_all : (graph : Graph) (edges : List ℕ) → IsColourful graph edges
    → All (λ edge. IsTrue (is_allowed (all_edges graph) edge)) edges
in_all graph edges colourful place d within =
    get_or-replicate (length graph.edges) (get_or edges place d) true _ (colourful.in_range place d within)
