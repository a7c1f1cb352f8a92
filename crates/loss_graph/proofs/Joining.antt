-- Of with_edges and edges_below: how vertices and edges are joined to a graph, one after another.
use Rattle.std.proofs.Common.{◌≡◌, ◌+◌, ◌-◌, ◌*◌, ◌<◌, ◌≤◌, ◌∙◌, ℕ, zero, suc, ℤ, pos, ◌+ℤ◌, Bool, true, false, cond}
use Rattle.std.proofs.Common.{List, [], ◌∷◌, ◌++◌, length, map, take, get_or, ap, sym, refl, arith}
use Rattle.std.proofs.lemmas.Bool.{false_from_ne_true}
use Rattle.std.proofs.lemmas.Int.{ints}
use Rattle.std.proofs.lemmas.List.{append_assoc, append-nil, get_or-map, get_or-take, get_or_default, length-map}
use Rattle.std.proofs.lemmas.List.{length-take-le, map_more, map-append, map-id}
use Rattle.std.proofs.lemmas.List.Elements.{All-push, All-weaker, filter-append}
use Rattle.std.proofs.lemmas.List.FromFn.{map-range_with_len_more}
use Rattle.std.specs.List.{All, filter, range_with_len}
use Rattle.colour_graph.specs.Building.{ComesNext, root_alone, with_edge, with_vertex}
use Rattle.colour_graph.specs.Graph.{Graph, IsEdge, IsScore, colour_count}
use Rattle.colour_graph.specs.declared.edge.Edge.{Edge}
use Rattle.element_table.specs.Formula.{is_proper_part, loss_of}
use Rattle.element_table.specs.Rule.{IsNearZero}
use Rattle.score_tables.specs.Scores.{loss_score_of}
use Rattle.score_tables.specs.Tables.{ScoresValue}
use Rattle.loss_graph.specs.Vertices.{vertex_at}
use Rattle.loss_graph.specs.declared.vertex.Vertex.{Vertex}
use Rattle.loss_graph.specs.inside.Joining.{CanJoin, colours_at, edge_between, edges_below, with_edges, without_edges}

-- an edge stands below the edges from a tail on into a head
pub record StandsBelow (head tail : ℕ) (edge : Edge) : Type 0 where
  pub heads : edge.head ≤ head
  pub tails : edge.head ≡ head → edge.tail < tail

-- the colour of a vertex
pub colour_at : (vertices : List Vertex) (place : ℕ) → place < length vertices
    → get_or (colours_at vertices) place 0 ≡ (vertex_at vertices place).colour
colour_at vertices place within =
    get_or-map (λ vertex. vertex.colour) vertices place (record { formula = []; peak = 0; colour = 0 }) 0 within

pub length-colours : (vertices : List Vertex) → length (colours_at vertices) ≡ length vertices
length-colours vertices = length-map vertices (λ (vertex : Vertex). vertex.colour)

-- the last colour of the first vertices
pub colour_count-taken : (root_score : ℤ) (vertices : List Vertex) (place before : ℕ) → before + 1 ≡ place
    → place ≤ length vertices
    → colour_count (without_edges root_score (take place vertices)) ≡ (vertex_at vertices before).colour
colour_count-taken root_score vertices place before next within =
    ap (λ long. get_or (colours_at (take place vertices)) (long - 1) 0)
    (length-colours (take place vertices) ∙ length-take-le place vertices within)
    ∙ ap (λ at. get_or (colours_at (take place vertices)) at 0) (at_before next)
    ∙ colour_at (take place vertices) before (omega (arith, length-take-le place vertices within))
    ∙ ap (λ vertex. vertex.colour)
    (get_or-take place vertices before (record { formula = []; peak = 0; colour = 0 }) (omega arith))
  where
    at_before : before + 1 ≡ place → place - 1 ≡ before
    at_before is = omega arith

pub taken-one : (root_score : ℤ) (vertices : List Vertex) → 0 < length vertices → (vertex_at vertices 0).colour ≡ 0
    → root_alone root_score ≡ without_edges root_score (take 1 vertices)
taken-one root_score [] some root = absurd (omega arith)
taken-one root_score (vertex ∷ vertices) some root =
    ap (λ colour. record { root_score = root_score; colours = colour ∷ []; edges = [] }) (sym root)

pub taken-more : (root_score : ℤ) (vertices : List Vertex) (place : ℕ) → place < length vertices
    → with_vertex (without_edges root_score (take place vertices)) (vertex_at vertices place).colour
    ≡ without_edges root_score (take (place + 1) vertices)
taken-more root_score vertices place within =
    ap (λ colours. record { root_score = root_score; colours = colours; edges = [] })
    (sym (map_more (λ vertex. vertex.colour) vertices place (record { formula = []; peak = 0; colour = 0 }) within))

-- one tail more
pub range-more : (place : ℕ) → range_with_len 0 (place + 1) ≡ range_with_len 0 place ++ place ∷ []
range-more place =
    sym (map-id (range_with_len 0 (place + 1)))
    ∙ map-range_with_len_more (λ (edge : ℕ). edge) 0 place place (omega arith)
    ∙ ap (λ front. front ++ place ∷ []) (map-id (range_with_len 0 place))

abbrev pub is_tail : List Vertex → ℕ → ℕ → Bool
is_tail vertices head tail = is_proper_part (vertex_at vertices head).formula (vertex_at vertices tail).formula

tails-more : (vertices : List Vertex) (head place : ℕ)
    → filter (is_tail vertices head) (range_with_len 0 (place + 1))
    ≡ filter (is_tail vertices head) (range_with_len 0 place) ++ cond (is_tail vertices head place) (place ∷ []) []
tails-more vertices head place =
    ap (filter (is_tail vertices head)) (range-more place)
    ∙ filter-append (is_tail vertices head) (range_with_len 0 place) (place ∷ [])

pub edges_below-more : (scores : ScoresValue) (vertices : List Vertex) (base : ℤ) (head place : ℕ)
    → is_tail vertices head place ≡ true
    → edges_below scores vertices base head (place + 1) ≡ edges_below scores vertices base head place
    ++ edge_between scores vertices base head place ∷ []
edges_below-more scores vertices base head place is =
    ap (map (edge_between scores vertices base head))
    (tails-more vertices head place ∙ ap
    (λ test. filter (is_tail vertices head) (range_with_len 0 place) ++ cond test (place ∷ []) []) is)
    ∙ map-append (edge_between scores vertices base head) (filter (is_tail vertices head) (range_with_len 0 place))
    (place ∷ [])

pub edges_below-same : (scores : ScoresValue) (vertices : List Vertex) (base : ℤ) (head place : ℕ)
    → is_tail vertices head place ≡ false
    → edges_below scores vertices base head (place + 1) ≡ edges_below scores vertices base head place
edges_below-same scores vertices base head place is =
    ap (map (edge_between scores vertices base head))
    (tails-more vertices head place ∙ ap
    (λ test. filter (is_tail vertices head) (range_with_len 0 place) ++ cond test (place ∷ []) []) is
    ∙ append-nil (filter (is_tail vertices head) (range_with_len 0 place)))

-- no vertex from the head on is a tail
pub edges_below-all : (scores : ScoresValue) (vertices : List Vertex) (base : ℤ) (head more : ℕ) → CanJoin vertices
    → head < length vertices → head + more ≤ length vertices
    → edges_below scores vertices base head (head + more) ≡ edges_below scores vertices base head head
edges_below-all scores vertices base head zero can at within = ap (edges_below scores vertices base head) (omega arith)
edges_below-all scores vertices base head (suc more) can at within =
    ap (edges_below scores vertices base head) (next head more)
    ∙ edges_below-same scores vertices base head (head + more)
    (false_from_ne_true (is_tail vertices head (head + more))
    (λ is. let before = can.heads (head + more) head (omega arith) at is in absurd (omega (arith, before))))
    ∙ edges_below-all scores vertices base head more can at (omega arith)
  where
    next : (n m : ℕ) → n + suc m ≡ (n + m) + 1
    next n m = omega arith

-- what the builder asks of an edge
pub weight-near : (score base : ℤ) → IsNearZero 10000 score → IsNearZero (2 * 10000) base → IsScore (score +ℤ base)
weight-near score base one other =
    record { not_below = omega (arith, ints, one, other); not_above = omega (arith, ints, one, other) }

pub edge-fits : (graph : Graph) (scores : ScoresValue) (vertices : List Vertex) (base : ℤ) (head tail : ℕ)
    → CanJoin vertices → graph.colours ≡ colours_at vertices → head < length vertices → tail < head
    → is_tail vertices head tail ≡ true → IsScore (edge_between scores vertices base head tail).weight
    → IsEdge graph (edge_between scores vertices base head tail)
edge-fits graph scores vertices base head tail can same at before is score = record {
  tail = omega (arith, ap (λ colours. length colours) same, length-colours vertices);
  head = omega (arith, ap (λ colours. length colours) same, length-colours vertices);
  rising =
      rw (
        ap (λ colours. get_or colours tail 0) same
            ∙ colour_at vertices tail (omega arith),
        ap (λ colours. get_or colours head 0) same ∙ colour_at vertices head at,
      )
      (can.rising tail head (omega arith) at is);
  weight = score;
}

pub comes-next : (graph : Graph) (edge : Edge) → All (StandsBelow edge.head edge.tail) graph.edges
    → ComesNext graph edge
comes-next graph edge below some =
    let last = below (length graph.edges - 1) (record { tail = 0; head = 0; weight = pos 0 }) (omega arith) in
    record { heads = last.heads; tails = last.tails }

pub below-more : (edges : List Edge) (head tail : ℕ) → All (StandsBelow head tail) edges
    → All (StandsBelow head (tail + 1)) edges
below-more edges head tail below =
    All-weaker (StandsBelow head tail) (StandsBelow head (tail + 1))
    (λ edge is. record { heads = is.heads; tails = λ same. omega (arith, is.tails same) }) edges below

pub below-push : (edges : List Edge) (edge : Edge) (head tail : ℕ) → edge.head ≡ head → edge.tail ≡ tail
    → All (StandsBelow head tail) edges → All (StandsBelow head (tail + 1)) (edges ++ edge ∷ [])
below-push edges edge head tail is_head is_tail' below =
    All-push (StandsBelow head (tail + 1)) edges edge (below-more edges head tail below)
    (record { heads = omega (arith, is_head); tails = λ same. omega (arith, is_tail') })

-- all heads are below one
abbrev pub HeadsBelow : ℕ → List Edge → Type 0
HeadsBelow head edges = All (λ edge. edge.head < head) edges

-- what the code computes is the weight of the edge
pub weight-is : (scores : ScoresValue) (vertices : List Vertex) (base : ℤ) (head tail : ℕ) (one other : Vertex)
    (weight : ℤ) → one ≡ get_or vertices tail one → tail < length vertices
    → other ≡ get_or vertices head other → head < length vertices → weight
    ≡ loss_score_of scores (loss_of one.formula other.formula) +ℤ base
    → weight ≡ (edge_between scores vertices base head tail).weight
weight-is scores vertices base head tail one other weight one_is before other_is at is =
    is ∙ ap (λ vertex. loss_score_of scores (loss_of vertex.formula other.formula) +ℤ base)
    (one_is ∙ get_or_default vertices tail one (record { formula = []; peak = 0; colour = 0 }) before)
    ∙ ap (λ vertex. loss_score_of scores (loss_of (vertex_at vertices tail).formula vertex.formula) +ℤ base)
    (other_is ∙ get_or_default vertices head other (record { formula = []; peak = 0; colour = 0 }) at)

pub test-is : (vertices : List Vertex) (head tail : ℕ) (one other : Vertex) (test answer : Bool)
    → tail < length vertices → head < length vertices
    → test ≡ is_proper_part (get_or vertices head other).formula (get_or vertices tail one).formula → test ≡ answer
    → is_tail vertices head tail ≡ answer
test-is vertices head tail one other test answer before at is told =
    sym (is ∙ ap (λ vertex. is_proper_part vertex.formula (get_or vertices tail one).formula)
    (get_or_default vertices head other (record { formula = []; peak = 0; colour = 0 }) at)
    ∙ ap (λ vertex. is_proper_part (vertex_at vertices head).formula vertex.formula)
    (get_or_default vertices tail one (record { formula = []; peak = 0; colour = 0 }) before)) ∙ told

pub joined-more : (old now new : Graph) (scores : ScoresValue) (vertices : List Vertex) (base weight : ℤ)
    (head tail : ℕ) → now ≡ with_edges old (edges_below scores vertices base head tail)
    → new ≡ with_edge now (record { tail = tail; head = head; weight = weight }) → weight
    ≡ (edge_between scores vertices base head tail).weight → is_tail vertices head tail ≡ true
    → new ≡ with_edges old (edges_below scores vertices base head (tail + 1))
joined-more old now new scores vertices base weight head tail so_far added same test =
    added ∙ ap (λ w. with_edge now (record { tail = tail; head = head; weight = w })) same
    ∙ ap (λ graph. with_edge graph (edge_between scores vertices base head tail)) so_far
    ∙ ap (λ edges. record { root_score = old.root_score; colours = old.colours; edges = edges })
    (append_assoc old.edges (edges_below scores vertices base head tail)
    (edge_between scores vertices base head tail ∷ [])
    ∙ ap (λ more. old.edges ++ more) (sym (edges_below-more scores vertices base head tail test)))

pub joined-same : (old now : Graph) (scores : ScoresValue) (vertices : List Vertex) (base : ℤ) (head tail : ℕ)
    → now ≡ with_edges old (edges_below scores vertices base head tail)
    → is_tail vertices head tail ≡ false → now ≡ with_edges old (edges_below scores vertices base head (tail + 1))
joined-same old now scores vertices base head tail so_far test =
    so_far ∙ ap (with_edges old) (sym (edges_below-same scores vertices base head tail test))

pub below-added : (now new : Graph) (head tail : ℕ) (weight : ℤ)
    → new ≡ with_edge now (record { tail = tail; head = head; weight = weight }) → All (StandsBelow head tail) now.edges
    → All (StandsBelow head (tail + 1)) new.edges
below-added now new head tail weight added below =
    rw added (below-push now.edges (record { tail = tail; head = head; weight = weight }) head tail refl refl below)
