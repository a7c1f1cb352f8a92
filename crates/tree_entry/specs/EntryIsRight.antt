-- When the tree of a candidate is right for its graph.
use Rattle.std.specs.Prelude.{◌≡◌, ◌≢◌, ◌<◌, ◌≤ℤ◌, ℕ, ℤ, ⊤}
use Rattle.colour_graph.specs.Cap.{cap_of}
use Rattle.colour_graph.specs.Colourful.{IsColourful, score_of}
use Rattle.colour_graph.specs.EdgeSet.{all_edges}
use Rattle.colour_graph.specs.Graph.{Graph, colour_count}
use Rattle.colour_graph.specs.Maximal.{IsMaximal}
use Rattle.loss_graph.specs.LossGraph.{LossGraphValue}
use Rattle.tree_certificate.specs.CertHolds.{CertHolds}
use Rattle.tree_certificate.specs.Spent.{Spent}
use Rattle.tree_certificate.specs.TableHolds.{greatest_colours}
use Rattle.tree_certificate.specs.Value.{CertValue, a_bound, a_table}
use Rattle.tree_document.specs.Value.{TreeValue}
use Rattle.tree_document.specs.declared.entry.Mark.{Mark}
use Rattle.tree_document.specs.declared.entry.Mark.TheVariants.{Optimal, Gap}
use Rattle.tree_entry.specs.Rows.{AreRows, edges_of}

-- a tree is marked optimal exactly where its upper bound is its score
abbrev pub MarkFits : Mark → ℤ → ℤ → Type 0
MarkFits Optimal score upper = upper ≡ score
MarkFits Gap score upper = upper ≢ score

-- a certificate is a bound that has used up its budget of splits
abbrev pub IsSpent : Graph → CertValue → ℤ → ℤ → ℕ → Type 0
IsSpent graph (a_table rows) score upper budget = ⊥
IsSpent graph (a_bound bound) score upper budget = Spent graph bound score upper budget

-- a gap is of a graph with more colours than a table may have, and beside a bound that has used up the budget
abbrev pub GapFits : Graph → TreeValue → ℕ → Mark → Type 0
GapFits graph tree budget Optimal = ⊤
GapFits graph tree budget Gap =
    greatest_colours < colour_count graph × IsSpent graph tree.cert tree.score tree.upper budget

-- The rows are the graph's, by rising edges; these edges are colourful, and none can be added with gain; the score is
-- theirs; the upper bound is at most the cap of all edges, and the score exactly where the mark says so; the
-- certificate holds for it; and a gap is one that may stand.
pub record EntryIsRight (built : LossGraphValue) (tree : TreeValue) (budget : ℕ) : Type 0 where
  pub rows : AreRows built tree.rows
  pub colourful : IsColourful built.graph (edges_of tree.rows)
  pub maximal : IsMaximal built.graph (edges_of tree.rows)
  pub score : tree.score ≡ score_of built.graph (edges_of tree.rows)
  pub capped : tree.upper ≤ℤ cap_of built.graph (all_edges built.graph)
  pub mark : MarkFits tree.mark tree.score tree.upper
  pub cert : CertHolds built.graph tree.cert tree.upper
  pub gap : GapFits built.graph tree budget tree.mark
