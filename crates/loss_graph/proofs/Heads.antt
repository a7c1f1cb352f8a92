-- Of edges_to and head_score_of: how edges are joined head by head, and what scores of heads need.
use Rattle.std.proofs.Common.{◌≡◌, ◌+◌, ◌-◌, ◌<◌, ◌≤◌, ◌^◌, ◌∙◌, ℕ, ℤ, List, [], length, map, drop, get_or, ap, sym}
use Rattle.std.proofs.Common.{append_assoc, arith}
use Rattle.std.proofs.lemmas.List.{flat_map_more, get_or-drop, get_or-map, length-drop, length-map}
use Rattle.std.proofs.lemmas.List.Elements.{All-append, All-map, All-weaker}
use Rattle.std.specs.List.{filter, flat_map, range_with_len}
use Rattle.adducts.specs.declared.choice.Choice.{Choice}
use Rattle.colour_graph.specs.Graph.{Graph}
use Rattle.element_table.specs.FormulaList.{FormulaListValue}
use Rattle.score_tables.specs.Tables.{ScoresValue}
use Rattle.loss_graph.specs.Lists.{AreLists, greatest_intensity, list_at}
use Rattle.loss_graph.specs.LossGraph.{edges_to, head_score_of}
use Rattle.loss_graph.specs.Vertices.{vertex_at}
use Rattle.loss_graph.specs.declared.vertex.Vertex.{Vertex}
use Rattle.loss_graph.specs.inside.Joining.{CanJoin, edge_between, edges_below, with_edges}
use Rattle.loss_graph.proofs.Joining.{HeadsBelow, edges_below-all, is_tail, range-more}
use Rattle.loss_graph.proofs.Weights.{fold-le, le-fold}

pub edges_to-joined : (choice : Choice) (scores : ScoresValue) (lists : List FormulaListValue) (vertices : List Vertex)
    (head : ℕ) → CanJoin vertices → head < length vertices
    → edges_to choice scores lists vertices head
    ≡ edges_below scores vertices (head_score_of choice scores lists (vertex_at vertices head)) head head
edges_to-joined choice scores lists vertices head can at =
    ap (edges_below scores vertices (head_score_of choice scores lists (vertex_at vertices head)) head)
    (parted head (length vertices) at)
    ∙ edges_below-all scores vertices (head_score_of choice scores lists (vertex_at vertices head)) head
    (length vertices - head) can at (omega arith)
  where
    parted : (n m : ℕ) → n < m → m ≡ n + (m - n)
    parted n m less = omega arith

-- the root is the head of no edge
pub edges_to-root : (choice : Choice) (scores : ScoresValue) (lists : List FormulaListValue) (vertices : List Vertex)
    → CanJoin vertices → edges_to choice scores lists vertices 0 ≡ []
edges_to-root choice scores lists vertices can = edges_to-joined choice scores lists vertices 0 can can.some

pub heads-more : (choice : Choice) (scores : ScoresValue) (lists : List FormulaListValue) (vertices : List Vertex)
    (start : Graph) (base : ℤ) (head : ℕ) (now new : Graph) → CanJoin vertices
    → head < length vertices → now ≡ with_edges start
    (flat_map (edges_to choice scores lists vertices) (range_with_len 0 head))
    → new ≡ with_edges now (edges_below scores vertices base head head) → base
    ≡ head_score_of choice scores lists (vertex_at vertices head)
    → new ≡ with_edges start (flat_map (edges_to choice scores lists vertices) (range_with_len 0 (head + 1)))
heads-more choice scores lists vertices start base head now new can at so_far added same =
    added ∙ ap (λ b. with_edges now (edges_below scores vertices b head head)) same
    ∙ ap (λ edges. with_edges now edges) (sym (edges_to-joined choice scores lists vertices head can at))
    ∙ ap (λ graph. with_edges graph (edges_to choice scores lists vertices head)) so_far
    ∙ ap (λ edges. record { root_score = start.root_score; colours = start.colours; edges = edges })
    (append_assoc start.edges (flat_map (edges_to choice scores lists vertices) (range_with_len 0 head))
    (edges_to choice scores lists vertices head))
    ∙ ap (with_edges start)
    (flat_map_more (edges_to choice scores lists vertices) [] (range_with_len 0 head) head
    ∙ ap (flat_map (edges_to choice scores lists vertices)) (sym (range-more head)))

pub heads_below-more : (scores : ScoresValue) (vertices : List Vertex) (base : ℤ) (head : ℕ) (now new : Graph)
    → new ≡ with_edges now (edges_below scores vertices base head head)
    → HeadsBelow head now.edges → HeadsBelow (head + 1) new.edges
heads_below-more scores vertices base head now new added below =
    rw added (All-append (λ edge. edge.head < head + 1) now.edges (edges_below scores vertices base head head)
    (All-weaker (λ edge. edge.head < head) (λ edge. edge.head < head + 1) (λ edge less. omega (arith, less)) now.edges
    below)
    (All-map (λ edge. edge.head < head + 1) (edge_between scores vertices base head)
    (filter (is_tail vertices head) (range_with_len 0 head)) (λ k d within. omega arith)))

moved : (lists : List FormulaListValue) (number : ℕ) → 0 < number
    → get_or (drop 1 lists) (number - 1) (record { mz = 0; intensity = 0; formulas = [] }) ≡ list_at lists number
moved lists number some =
    get_or-drop 1 lists (number - 1) (record { mz = 0; intensity = 0; formulas = [] })
    ∙ ap (list_at lists) (back number some)
  where
    back : (n : ℕ) → 0 < n → 1 + (n - 1) ≡ n
    back n more = omega arith

pub intense-at : (choice : Choice) (root : List ℕ) (lists : List FormulaListValue) → AreLists choice root lists
    → (number : ℕ) → 0 < number → number < length lists → 1 ≤ (list_at lists number).intensity
intense-at choice root lists are number some within =
    let intense =
    are.peaks.intense (number - 1) (record { mz = 0; intensity = 0; formulas = [] })
    (omega (arith, length-drop 1 lists)) in
    omega (arith, rw (moved lists number some) at intense)

intensity-of : (lists : List FormulaListValue) (place : ℕ) → place < length (drop 1 lists)
    → get_or (map (λ list. list.intensity) (drop 1 lists)) place 0
    ≡ (get_or (drop 1 lists) place (record { mz = 0; intensity = 0; formulas = [] })).intensity
intensity-of lists place within =
    get_or-map (λ list. list.intensity) (drop 1 lists) place (record { mz = 0; intensity = 0; formulas = [] }) 0 within

pub intensity-le : (lists : List FormulaListValue) (number : ℕ) → 0 < number → number < length lists
    → (list_at lists number).intensity ≤ greatest_intensity lists
intensity-le lists number some within =
    let place : number - 1 < length (drop 1 lists) = omega (arith, length-drop 1 lists) in
    let is : get_or (map (λ list. list.intensity) (drop 1 lists)) (number - 1) 0 ≡ (list_at lists number).intensity =
    intensity-of lists (number - 1) place ∙ ap (λ list. list.intensity) (moved lists number some) in
    omega (
      arith,
      is,
      le-fold (map (λ list. list.intensity) (drop 1 lists)) 0 (number - 1)
          (omega (arith, length-map (drop 1 lists) (λ (list : FormulaListValue). list.intensity))),
    )

pub greatest-small : (choice : Choice) (root : List ℕ) (lists : List FormulaListValue) → AreLists choice root lists
    → greatest_intensity lists ≤ 10 ^ 18
greatest-small choice root lists are =
    fold-le (map (λ list. list.intensity) (drop 1 lists)) 0 (10 ^ 18) (omega arith) each
  where
    each : (place : ℕ) → place < length (map (λ list. list.intensity) (drop 1 lists))
        → get_or (map (λ list. list.intensity) (drop 1 lists)) place 0 ≤ 10 ^ 18
    each place within =
        let at : place < length (drop 1 lists) =
        omega (arith, length-map (drop 1 lists) (λ (list : FormulaListValue). list.intensity)) in
        rw (intensity-of lists place at, get_or-drop 1 lists place (record { mz = 0; intensity = 0; formulas = [] }))
        (are.each (1 + place) (record { mz = 0; intensity = 0; formulas = [] })
        (omega (arith, length-drop 1 lists))).intensity
