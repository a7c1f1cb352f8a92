-- `HasGoodLines`: the lines of a right tree of a small graph, with its table, and of a graph that is too large.
use Rattle.std.proofs.Common.{◌≡◌, ◌≤◌, ◌<◌, ◌-◌, ◌*◌, ◌^◌, ◌∷◌, ◌∙◌, [], ℕ, zero, suc, ℤ, pos, negsuc, ◌+ℤ◌, ◌≤ℤ◌}
use Rattle.std.proofs.Common.{true, List, length, get_or}
use Rattle.std.proofs.Common.{slice_index, unsigned_abs, refl, sym, subst, ap, arith}
use Rattle.std.proofs.lemmas.Bool.{and_parts}
use Rattle.std.proofs.lemmas.Int.{ints}
use Rattle.std.proofs.lemmas.List.{get_or_default, length-map}
use Rattle.std.specs.List.{All, list_all}
use Rattle.tree_entry.specs.EntryIsRight.{EntryIsRight}
use Rattle.tree_entry.specs.Rows.{IsParent, IsRow, edges_of, of_root, of_row, row_at}
use Rattle.colour_graph.specs.Colourful.{score_of, total, weights_of}
use Rattle.colour_graph.specs.Graph.{Graph, IsGraph, IsScore, colour_count, colour_of, edge_at, greatest_graph}
use Rattle.element_table.specs.Formula.{IsFormula, loss_of}
use Rattle.loss_graph.specs.LossGraph.{IsLossGraph, LossGraphValue, formula_at}
use Rattle.tree_certificate.proofs.SetParts.{powers-le, powers-rise}
use Rattle.profile.specs.Profile.{greatest_peaks}
use Rattle.tree_document.specs.Document.{AreGoodLines, IsGoodLine, cert_lines}
use Rattle.tree_document.specs.Line.{row_line, table_line, table_row_line, too_large_line, tree_line}
use Rattle.tree_certificate.specs.Number.{AreNumbers, greatest_number, is_near}
use Rattle.tree_certificate.specs.TableHolds.{FitsGraph}
use Rattle.tree_certificate.specs.Value.{CertValue, a_table}
use Rattle.tree_document.specs.Value.{TreeValue}
use Rattle.tree_document.specs.declared.entry.Outcome.TheVariants.{Tree, TooLarge}
use Rattle.tree_document.specs.declared.entry.TreeRow.{TreeRow}
use Rattle.right_document.specs.GoodLines.{HasGoodLines}
use Rattle.solve_command.proofs.EdgeCount.{edge-few}
use Rattle.right_document.proofs.GoodLines.{line_is_good, within}
use Rattle.solve_command.proofs.AreGoodLines.{good-append, good-map}

-- scores and sums of them

near_from : (number : ℤ) (most : ℕ) → pos 0 ≤ℤ (number +ℤ pos most) → number ≤ℤ pos most → unsigned_abs number ≤ most
near_from (pos n) most low high = omega (arith, ints, high)
near_from (negsuc n) most low high = omega (arith, ints, low)

score-near : (score : ℤ) → IsScore score → unsigned_abs score ≤ 100000
score-near score is = near_from score 100000 (omega (arith, ints, is.not_below)) is.not_above

record IsSum (sum : ℤ) (count : ℕ) : Type 0 where
  low : pos 0 ≤ℤ (sum +ℤ pos (100000 * count))
  high : sum ≤ℤ pos (100000 * count)

total-near : (graph : Graph) → IsGraph graph → (edges : List ℕ) → All (λ edge. edge < length graph.edges) edges
    → IsSum (total (weights_of graph edges)) (length edges)
total-near graph is [] within = record { low = omega (arith, ints); high = omega (arith, ints) }
total-near graph is (edge ∷ edges) within =
    let later = total-near graph is edges (λ k d before. within (suc k) d (omega arith)) in
    let weight = (is.edges edge (record { tail = 0; head = 0; weight = pos 0 }) (within 0 edge (omega arith))).weight in
    record {
      low = omega (arith, ints, later.low, weight.not_below);
      high = omega (arith, ints, later.high, weight.not_above);
    }

score_of-near : (graph : Graph) → IsGraph graph → (edges : List ℕ) → All (λ edge. edge < length graph.edges) edges
    → length edges ≤ greatest_graph
    → unsigned_abs (score_of graph edges) ≤ greatest_number
score_of-near graph is edges within few =
    let sum = total-near graph is edges within in
    near_from (score_of graph edges) greatest_number (omega (arith, ints, sum.low, is.root_score.not_below))
    (omega (arith, ints, sum.high, is.root_score.not_above))

-- rows

parent-few : (graph : Graph) (rows : List TreeRow) (place tail parent : ℕ) → IsParent graph rows place tail parent
    → place ≤ greatest_graph → parent ≤ greatest_graph
parent-few graph rows place tail parent (of_root is_root none) few = omega arith
parent-few graph rows place tail parent (of_row row not_root is before head first) few = omega arith

-- what every graph of a candidate is that has few vertices
pub record IsSmall (built : LossGraphValue) : Type 0 where
  pub graph : IsGraph built.graph
  pub parts : IsLossGraph built
  pub vertices : length built.graph.colours ≤ greatest_graph
  pub peaks : (colour : ℕ) → slice_index built.peaks colour ≤ greatest_peaks
  pub formulas : All IsFormula built.formulas
  pub losses : (whole part : List ℕ) → IsFormula whole → IsFormula part → IsFormula (loss_of whole part)

vertex_formula : (built : LossGraphValue) → IsSmall built → (vertex : ℕ) → vertex < length built.graph.colours
    → IsFormula (formula_at built vertex)
vertex_formula built small vertex within = small.formulas vertex [] (omega (arith, small.parts.formulas))

row_is_good : (built : LossGraphValue) (rows : List TreeRow) (place : ℕ) → IsSmall built → place ≤ greatest_graph
    → IsRow built rows place
    → IsGoodLine (row_line (row_at rows place))
row_is_good built rows place small few row =
    let here = row_at rows place in
    let edge = small.graph.edges here.edge (record { tail = 0; head = 0; weight = pos 0 }) row.edge in
    let head = vertex_formula built small (edge_at built.graph here.edge).head edge.head in
    let tail = vertex_formula built small (edge_at built.graph here.edge).tail edge.tail in
    let number : here.edge ≤ 131071 = edge-few built.graph small.graph small.vertices here.edge row.edge in
    let parent : here.parent ≤ greatest_graph = parent-few built.graph rows place _ here.parent row.parent few in
    let peak : here.peak ≤ greatest_peaks = subst (λ (n : ℕ). n ≤ greatest_peaks) (sym row.peak) (small.peaks _) in
    let weight : unsigned_abs here.weight ≤ 100000 =
    subst (λ (z : ℤ). unsigned_abs z ≤ 100000) (sym row.weight) (score-near _ edge.weight) in
    let formula : IsFormula here.formula = subst IsFormula (sym row.formula) head in
    let loss : IsFormula here.loss = subst IsFormula (sym row.loss) (small.losses _ _ tail head) in
    line_is_good (row_line here) refl (
      within 131071 here.edge number (omega arith),
      (
        within greatest_graph here.parent parent (omega arith),
        (within greatest_graph here.peak (omega arith) (omega arith), (formula, (loss, ((weight, omega arith), tt)))),
      ),
    )

-- the table

near_at : (rows : List (List ℤ)) → AreNumbers rows → (place : ℕ) (d : List ℤ) → place < length rows
    → list_all (is_near greatest_number) (get_or rows place d) ≡ true
near_at [] near place d within = absurd (omega arith)
near_at (row ∷ rows) near zero d within = (and_parts _ _ near).0
near_at (row ∷ rows) near (suc place) d within = near_at rows (and_parts _ _ near).1 place d (omega arith)

table_is_good : (graph : Graph) (rows : List (List ℤ)) → length graph.colours ≤ greatest_graph → FitsGraph graph rows
    → AreNumbers rows
    → AreGoodLines (cert_lines (a_table rows))
table_is_good graph rows few fits near =
    let count : length rows ≤ greatest_graph = omega (arith, fits.count) in (
      line_is_good (table_line (length rows)) refl (within greatest_graph (length rows) count (omega arith), tt),
      good-map
          table_row_line rows row_good,
    )
  where
    row_good : All (λ row. IsGoodLine (table_row_line row)) rows
    row_good place d before =
        let size : ℕ = colour_count graph - colour_of graph place in
        let some : 1 ≤ 2 ^ size = powers-rise 0 size (omega arith) in
        let most : 2 ^ size ≤ 4096 = powers-le size (omega (arith, fits.colours)) in
        let same : get_or rows place d ≡ get_or rows place [] = get_or_default rows place d [] before in
        let long : length (get_or rows place d) ≡ 2 ^ size =
        ap length same ∙ (fits.each place (omega (arith, fits.count))).1 in
        line_is_good (table_row_line (get_or rows place d)) refl
        ((omega (arith, some, long), omega (arith, most, long), near_at rows near place d before, omega arith), tt)

-- the lines of a right tree are good
pub tree_is_good : (built : LossGraphValue) (tree : TreeValue) (table : List (List ℤ)) (budget : ℕ) → IsSmall built
    → EntryIsRight built tree budget
    → length tree.rows ≤ greatest_graph → tree.upper ≡ tree.score → tree.cert ≡ a_table table
    → FitsGraph built.graph table
    → AreNumbers table
    → HasGoodLines (Tree tree)
tree_is_good built tree table budget small right few upper is_table fits near candidate error formula few_off = (
  line_is_good (tree_line candidate error tree.score tree.upper tree.mark (length tree.rows)) refl (
    formula,
    (
      within 2000000 error few_off (omega arith),
      (
        (score, omega arith),
        (
          (rw upper score, omega arith),
          (tt, (within greatest_graph (length tree.rows) few (omega arith), tt)),
        ),
      ),
    ),
  ),
  good-append _ _ (good-map row_line tree.rows rows_good)
      (subst (λ (cert : CertValue). AreGoodLines (cert_lines cert)) (sym is_table)
      (table_is_good built.graph table small.vertices fits near)),
)
  where
    score : unsigned_abs tree.score ≤ greatest_number
    score =
        let edges = edges_of tree.rows in
        let long : length edges ≤ greatest_graph = omega (arith, length-map tree.rows (λ (row : TreeRow). row.edge)) in
        subst (λ (z : ℤ). unsigned_abs z ≤ greatest_number) (sym right.score)
        (score_of-near built.graph small.graph edges right.colourful.in_range long)

    rows_good : All (λ row. IsGoodLine (row_line row)) tree.rows
    rows_good place d before =
        subst (λ (row : TreeRow). IsGoodLine (row_line row)) (sym (get_or_default tree.rows place d _ before))
        (row_is_good built tree.rows place small (omega arith) (right.rows place before))

-- the line of a graph that is too large is good
pub too_large_is_good : (vertices : ℕ) → vertices < 2 ^ 32 → HasGoodLines (TooLarge vertices)
too_large_is_good vertices few candidate error formula few_off = (
  line_is_good (too_large_line candidate error vertices) refl (
    formula,
    (
      within 2000000 error few_off (omega arith),
      (tt, (within 4294967295 vertices (omega arith) (omega arith), tt)),
    ),
  ),
  tt,
)
