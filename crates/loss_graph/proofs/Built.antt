-- Of IsLossGraph and loss_graph_of: what the graph of a candidate is, a formula for each vertex, a list for each
-- colour, and edges between a whole and its proper parts.
use Rattle.std.proofs.Common.{◌≡◌, ◌+◌, ◌-◌, ◌<◌, ◌≤◌, ◌∙◌, ℕ, zero, suc, Bool, true, false, cond, List, [], ◌∷◌}
use Rattle.std.proofs.Common.{length, map, get_or, ap, sym, refl, arith}
use Rattle.std.proofs.lemmas.List.{get_or-map, length-map}
use Rattle.std.proofs.lemmas.List.Elements.{All-append, All-cons, All-map, All-nil}
use Rattle.std.specs.List.{All, filter, flat_map, range_with_len}
use Rattle.adducts.specs.declared.choice.Choice.{Choice}
use Rattle.colour_graph.specs.Graph.{Graph, colour_count}
use Rattle.colour_graph.specs.declared.edge.Edge.{Edge}
use Rattle.element_table.specs.Formula.{IsFormula, IsProperPart}
use Rattle.element_table.specs.FormulaList.{FormulaListValue}
use Rattle.score_tables.specs.Tables.{ScoresValue}
use Rattle.loss_graph.specs.LossGraph.{IsLossGraph, LossGraphValue, edges_to, formula_at, graph_over, head_score_of}
use Rattle.loss_graph.specs.LossGraph.{loss_graph_of}
use Rattle.loss_graph.specs.Vertices.{peaks_of, root_vertex, vertex_at, vertices_of}
use Rattle.loss_graph.specs.declared.vertex.Vertex.{Vertex}
use Rattle.loss_graph.specs.inside.Joining.{edge_between}
use Rattle.loss_graph.proofs.Chain.{AreColours-peaks, last_of}
use Rattle.loss_graph.proofs.Facts.{Known, later_vertices, part_of_vertices}
use Rattle.loss_graph.proofs.Joining.{colour_at, is_tail, length-colours}

all_filtered : (Q : ℕ → Type 0) (test : ℕ → Bool) (from long : ℕ)
    → ((n : ℕ) → from ≤ n → n < from + long → test n ≡ true → Q n) → All Q (filter test (range_with_len from long))
all_filtered Q test from zero each = All-nil Q
all_filtered Q test from (suc long) each =
    choose (test from) refl (all_filtered Q test (from + 1) long
    (λ n after before is. each n (omega arith) (omega arith) is)) (each from (omega arith) (omega arith))
  where
    choose : (passes : Bool) → test from ≡ passes → All Q (filter test (range_with_len (from + 1) long))
        → (test from ≡ true → Q from)
        → All Q (cond (test from) (from ∷ filter test (range_with_len (from + 1) long))
        (filter test (range_with_len (from + 1) long)))
    choose true is rest here = rw is (All-cons Q from (filter test (range_with_len (from + 1) long)) (here is) rest)
    choose false is rest here = rw is rest

all_joined : (P : Edge → Type 0) (f : ℕ → List Edge) (from long : ℕ)
    → ((n : ℕ) → from ≤ n → n < from + long → All P (f n)) → All P (flat_map f (range_with_len from long))
all_joined P f from zero each = All-nil P
all_joined P f from (suc long) each =
    All-append P (f from) (flat_map f (range_with_len (from + 1) long)) (each from (omega arith) (omega arith))
    (all_joined P f (from + 1) long (λ n after before. each n (omega arith) (omega arith)))

formula_at-vertex : (built : LossGraphValue) (vertices : List Vertex) (place : ℕ)
    → built.formulas ≡ map (λ vertex. vertex.formula) vertices → place < length vertices
    → formula_at built place ≡ (vertex_at vertices place).formula
formula_at-vertex built vertices place is within =
    ap (λ formulas. get_or formulas place []) is
    ∙ get_or-map (λ vertex. vertex.formula) vertices place (record { formula = []; peak = 0; colour = 0 }) [] within

is_formula-at : (choice : Choice) (root : List ℕ) (spectrum : List FormulaListValue) → Known choice root spectrum
    → (place : ℕ) → place < length (vertices_of root spectrum)
    → IsFormula (vertex_at (vertices_of root spectrum) place).formula
is_formula-at choice root spectrum known zero within = known.formula
is_formula-at choice root spectrum known (suc place) within =
    (part_of_vertices choice root spectrum known (suc place) (omega arith) within).formula

pub IsLossGraph-of : (choice : Choice) (scores : ScoresValue) (root : List ℕ) (spectrum : List FormulaListValue)
    → Known choice root spectrum → IsLossGraph (loss_graph_of choice scores root spectrum)
IsLossGraph-of choice scores root spectrum known = record {
  formulas =
      length-map (vertices_of root spectrum) (λ (vertex : Vertex). vertex.formula)
      ∙ sym (length-colours (vertices_of root spectrum));
  peaks = counted;
  parts =
      all_joined (λ edge. IsProperPart (formula_at (loss_graph_of choice scores root spectrum) edge.head)
      (formula_at (loss_graph_of choice scores root spectrum) edge.tail))
      (edges_to choice scores spectrum (vertices_of root spectrum)) 0 (length (vertices_of root spectrum)) into;
}
  where
    counted : length (peaks_of root spectrum)
        ≡ colour_count (graph_over choice scores root spectrum (vertices_of root spectrum))
    counted =
        let last =
        last_of root spectrum (λ vertex. Unit {0}) (peaks_of root spectrum) 1 (root_vertex root) refl
        (AreColours-peaks root spectrum known.are_lists.some) in
        let at = colour_at (vertices_of root spectrum) (length (later_vertices root spectrum)) (omega arith) in
        let long = length-colours (vertices_of root spectrum) in
        let place : length (map (λ vertex. vertex.colour) (vertices_of root spectrum)) - 1
        ≡ length (later_vertices root spectrum) = omega (arith, long) in
        omega (arith, last, at, ap (λ n. get_or (map (λ vertex. vertex.colour) (vertices_of root spectrum)) n 0) place)

    into : (head : ℕ) → 0 ≤ head → head < 0 + length (vertices_of root spectrum)
        → All (λ edge. IsProperPart (formula_at (loss_graph_of choice scores root spectrum) edge.head)
        (formula_at (loss_graph_of choice scores root spectrum) edge.tail))
        (edges_to choice scores spectrum (vertices_of root spectrum) head)
    into head from within =
        All-map (λ edge. IsProperPart (formula_at (loss_graph_of choice scores root spectrum) edge.head)
        (formula_at (loss_graph_of choice scores root spectrum) edge.tail))
        (edge_between scores (vertices_of root spectrum)
        (head_score_of choice scores spectrum (vertex_at (vertices_of root spectrum) head)) head)
        (filter (is_tail (vertices_of root spectrum) head) (range_with_len 0 (length (vertices_of root spectrum))))
        (all_filtered (λ tail. IsProperPart (formula_at (loss_graph_of choice scores root spectrum) head)
        (formula_at (loss_graph_of choice scores root spectrum) tail))
        (is_tail (vertices_of root spectrum) head) 0 (length (vertices_of root spectrum)) each)
      where
        each : (tail : ℕ) → 0 ≤ tail → tail < 0 + length (vertices_of root spectrum)
            → is_tail (vertices_of root spectrum) head tail ≡ true
            → IsProperPart (formula_at (loss_graph_of choice scores root spectrum) head)
            (formula_at (loss_graph_of choice scores root spectrum) tail)
        each tail low below is =
            let at_head : head < length (vertices_of root spectrum) = omega arith in
            let at_tail : tail < length (vertices_of root spectrum) = omega arith in
            rw (
              formula_at-vertex (loss_graph_of choice scores root spectrum) (vertices_of root spectrum) head refl
                  at_head,
              formula_at-vertex (loss_graph_of choice scores root spectrum) (vertices_of root spectrum) tail refl
                  at_tail,
            )
            ((known.laws.proper (vertex_at (vertices_of root spectrum) head).formula
            (vertex_at (vertices_of root spectrum) tail).formula
            (is_formula-at choice root spectrum known head at_head)
            (is_formula-at choice root spectrum known tail at_tail)).0 is)

-- the parts of what was built
pub is_built : (choice : Choice) (scores : ScoresValue) (root : List ℕ) (spectrum : List FormulaListValue)
    (graph : Graph) (formulas : List (List ℕ)) (peaks : List ℕ) → Known choice root spectrum
    → graph ≡ graph_over choice scores root spectrum (vertices_of root spectrum) → formulas
    ≡ map (λ vertex. vertex.formula) (vertices_of root spectrum) → peaks ≡ peaks_of root spectrum
    → IsLossGraph (record { graph = graph; formulas = formulas; peaks = peaks })
is_built choice scores root spectrum graph formulas peaks known graph_is formulas_are peaks_are =
    rw (graph_is, formulas_are, peaks_are) (IsLossGraph-of choice scores root spectrum known)
