-- Why the tree of a candidate is not right: the first place, in the order of looking, where a condition fails.
use Rattle.std.specs.Prelude.{◌≡◌, ◌≢◌, ◌≤◌, ◌<◌, ◌+◌, ℕ, pos, ◌<ℤ◌, ◌≤ℤ◌, List, length}
use Rattle.std.specs.List.{All}
use Rattle.colour_graph.specs.Cap.{cap_of}
use Rattle.colour_graph.specs.Colourful.{IsColourful, IsReached, score_of}
use Rattle.colour_graph.specs.EdgeSet.{all_edges}
use Rattle.colour_graph.specs.Graph.{Graph, colour_count, edge_at, head_colour}
use Rattle.colour_graph.specs.Maximal.{IsMaximal}
use Rattle.loss_graph.specs.LossGraph.{LossGraphValue}
use Rattle.tree_certificate.specs.CertHolds.{CertHolds}
use Rattle.tree_certificate.specs.TableHolds.{greatest_colours}
use Rattle.tree_certificate.specs.Value.{CertValue, a_bound, a_table}
use Rattle.tree_document.specs.Value.{TreeValue}
use Rattle.tree_document.specs.declared.entry.TreeRow.{TreeRow}
use Rattle.tree_document.specs.declared.entry.Mark.TheVariants.{Gap}
use Rattle.tree_entry.specs.EntryIsRight.{EntryIsRight, MarkFits}
use Rattle.entry_checker.specs.GapPlaces.{IsGapPlace}
use Rattle.certificate_checker.specs.Places.{IsPlace}
use Rattle.tree_entry.specs.Rows.{AreRows, IsRow, edges_of}
use Rattle.tree_entry.specs.declared.place.EntryPlace.{EntryPlace}
use Rattle.tree_entry.specs.declared.place.EntryPlace.TheVariants.{Rows, NotColourful, NotMaximal, Score}
use Rattle.tree_entry.specs.declared.place.EntryPlace.TheVariants.{Upper, Mark, Cert, FewColours}
use Rattle.entry_checker.specs.declared.verdict.EntryVerdict.{EntryVerdict}
use Rattle.entry_checker.specs.declared.verdict.EntryVerdict.TheVariants.{Right, Wrong}

-- the number, from 1, of the first row that is not the graph's
pub record IsRowsPlace (built : LossGraphValue) (rows : List TreeRow) (number : ℕ) : Type 0 where
  pub place : ℕ
  pub numbered : number ≡ place + 1
  pub in_rows : place < length rows
  pub before : (earlier : ℕ) → earlier < place → IsRow built rows earlier
  pub wrong : ¬ (IsRow built rows place)

-- an edge from the root or a head to a colour without a head, of positive weight
pub record CanBeAdded (graph : Graph) (edges : List ℕ) (edge : ℕ) : Type 0 where
  pub in_graph : edge < length graph.edges
  pub reached : IsReached graph edges (edge_at graph edge).tail
  pub free : All (λ taken. head_colour graph taken ≢ head_colour graph edge) edges
  pub gain : pos 0 <ℤ (edge_at graph edge).weight

-- the least edge that can be added
pub record IsAddedPlace (graph : Graph) (edges : List ℕ) (edge : ℕ) : Type 0 where
  pub can : CanBeAdded graph edges edge
  pub before : (earlier : ℕ) → earlier < edge → ¬ (CanBeAdded graph edges earlier)

-- What is looked at in turn, each with all before it: the rows and their edges, whether an edge can be added, the
-- score, the upper bound, the mark, and the certificate.
pub record EdgesAreRight (built : LossGraphValue) (tree : TreeValue) : Type 0 where
  pub rows : AreRows built tree.rows
  pub colourful : IsColourful built.graph (edges_of tree.rows)

pub record NoneIsAdded (built : LossGraphValue) (tree : TreeValue) : Type 0 where
  pub before : EdgesAreRight built tree
  pub maximal : IsMaximal built.graph (edges_of tree.rows)

pub record ScoreIsRight (built : LossGraphValue) (tree : TreeValue) : Type 0 where
  pub before : NoneIsAdded built tree
  pub score : tree.score ≡ score_of built.graph (edges_of tree.rows)

pub record UpperIsCapped (built : LossGraphValue) (tree : TreeValue) : Type 0 where
  pub before : ScoreIsRight built tree
  pub capped : tree.upper ≤ℤ cap_of built.graph (all_edges built.graph)

pub record MarkIsFitting (built : LossGraphValue) (tree : TreeValue) : Type 0 where
  pub before : UpperIsCapped built tree
  pub mark : MarkFits tree.mark tree.score tree.upper

pub record CertIsRight (built : LossGraphValue) (tree : TreeValue) : Type 0 where
  pub before : MarkIsFitting built tree
  pub cert : CertHolds built.graph tree.cert tree.upper

-- where a gap is wrong first: a table that holds is of a graph of few colours
abbrev pub IsLatePlace : Graph → TreeValue → ℕ → CertValue → EntryPlace → Type 0
IsLatePlace graph tree budget (a_table rows) place = ⊥
IsLatePlace graph tree budget (a_bound bound) place = IsGapPlace graph bound tree.score tree.upper budget place

-- the first place where a tree is wrong, with the number that it keeps, in the order in which places are named
abbrev pub IsEntryPlace : LossGraphValue → TreeValue → ℕ → EntryPlace → Type 0
IsEntryPlace built tree budget (Rows number) = IsRowsPlace built tree.rows number
IsEntryPlace built tree budget NotColourful =
    AreRows built tree.rows × ¬ (IsColourful built.graph (edges_of tree.rows))
IsEntryPlace built tree budget (NotMaximal edge) =
    EdgesAreRight built tree × IsAddedPlace built.graph (edges_of tree.rows) edge
IsEntryPlace built tree budget (Score score) =
    NoneIsAdded built tree × (score ≡ score_of built.graph (edges_of tree.rows)) × (tree.score ≢ score)
IsEntryPlace built tree budget (Upper cap) =
    ScoreIsRight built tree × (cap ≡ cap_of built.graph (all_edges built.graph)) × (cap <ℤ tree.upper)
IsEntryPlace built tree budget Mark = UpperIsCapped built tree × ¬ (MarkFits tree.mark tree.score tree.upper)
IsEntryPlace built tree budget (Cert place) =
    MarkIsFitting built tree × IsPlace built.graph tree.cert tree.upper place
IsEntryPlace built tree budget (FewColours colours) = CertIsRight built tree × (tree.mark ≡ Gap)
    × (colours ≡ colour_count built.graph) × (colours ≤ greatest_colours)
IsEntryPlace built tree budget place = CertIsRight built tree × (tree.mark ≡ Gap)
    × (greatest_colours < colour_count built.graph) × IsLatePlace built.graph tree budget tree.cert place

-- what is said of a tree: that it is right, or the first place where it is wrong
abbrev pub IsEntryVerdict : LossGraphValue → TreeValue → ℕ → EntryVerdict → Type 0
IsEntryVerdict built tree budget Right = EntryIsRight built tree budget
IsEntryVerdict built tree budget (Wrong place) = IsEntryPlace built tree budget place
