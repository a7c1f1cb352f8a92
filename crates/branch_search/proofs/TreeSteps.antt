-- Of IsTreeTo: a tree that takes, or leaves out, an edge into the next colour.
use Rattle.std.proofs.Common.{◌≡◌, ◌≢◌, ◌⊎◌, inl, inr, ◌<◌, ◌≤◌, ◌+◌, ℕ, ℤ, pos, ◌≤ℤ◌, ◌<ℤ◌}
use Rattle.std.proofs.Common.{Bool, true, false, IsTrue, List, [], ◌∷◌, ◌++◌, length, get_or, replicate, set, ap, sym}
use Rattle.std.proofs.Common.{subst, ◌∙◌, None, arith}
use Rattle.std.proofs.lemmas.Bool.{cases_eq, cases_lt, false≢true}
use Rattle.std.proofs.lemmas.Int.{by_lt_z}
use Rattle.std.proofs.lemmas.List.{get_or-replicate, get_or-set_other, get_or-set_same, get_or_past, length-replicate}
use Rattle.std.proofs.lemmas.List.{length-set}
use Rattle.std.proofs.lemmas.List.Elements.{All-push}
use Rattle.std.specs.List.{All}
use Rattle.colour_graph.specs.Colourful.{IsReached, at_head, at_root, score_of}
use Rattle.colour_graph.specs.Graph.{Graph, IsEdge, IsGraph, colour_count, colour_of, edge_at, head_colour}
use Rattle.colour_graph.proofs.Order.{CanIndex-graph, colour-le_count}
use Rattle.tree_certificate.specs.BoundValue.{PriceValue}
use Rattle.branch_search.specs.inside.Choosing.{AreMarks, IsBestInto, IsCandidate, IsTree, IsTreeTo, is_marked}
use Rattle.branch_search.proofs.Pushing.{All-front, All-last, AllPairs-push, IsColourful-push, IsReached-cases}
use Rattle.branch_search.proofs.Pushing.{IsReached-last, IsReached-push}

pub edge-is : (graph : Graph) (edge : ℕ) → IsGraph graph → edge < length graph.edges → IsEdge graph (edge_at graph edge)
edge-is graph edge is within = is.edges edge (record { tail = 0; head = 0; weight = pos 0 }) within

-- the root alone
pub IsTreeTo-none : (graph : Graph) → IsGraph graph → IsTreeTo graph 0 []
IsTreeTo-none graph is = record {
  colourful = record {
    in_range = λ k d within. absurd (omega arith);
    one_of_a_colour = λ i j d before within. absurd (omega arith);
    tails = λ k d within. absurd (omega arith);
  };
  rising = λ i j d before within. absurd (omega arith);
  before = λ k d within. absurd (omega arith);
  maximal = λ edge within low reached free. absurd (omega (arith, low, (edge-is graph edge is within).rising));
}

pub AreMarks-none : (graph : Graph) (marks : List Bool) → IsGraph graph
    → marks ≡ set (replicate (length graph.colours) false) 0 true → AreMarks graph [] marks
AreMarks-none graph marks is same = rw same (record {
  count = length-set blank 0 true ∙ length-replicate (length graph.colours) false;
  exact = λ vertex. (forth vertex, back vertex);
})
  where
    blank : List Bool
    blank = replicate (length graph.colours) false

    long : length blank ≡ length graph.colours
    long = length-replicate (length graph.colours) false

    root : is_marked (set blank 0 true) 0 ≡ true
    root = get_or-set_same blank 0 true false (omega (arith, long, is.colours.some))

    off : (vertex : ℕ) → (vertex ≡ 0 → ⊥) → is_marked (set blank 0 true) vertex ≡ false
    off vertex apart = get_or-set_other blank 0 vertex true false apart
        ∙ choose (cases_lt vertex (length graph.colours))
      where
        choose : (vertex < length graph.colours) ⊎ (length graph.colours ≤ vertex) → get_or blank vertex false ≡ false
        choose (inl within) = get_or-replicate (length graph.colours) vertex false false within
        choose (inr past) = get_or_past blank vertex false (omega (arith, long, past))

    forth : (vertex : ℕ) → IsTrue (is_marked (set blank 0 true) vertex) → IsReached graph [] vertex
    forth vertex marked = choose (cases_eq vertex 0)
      where
        choose : (vertex ≡ 0) ⊎ (vertex ≡ 0 → ⊥) → IsReached graph [] vertex
        choose (inl root_is) = at_root root_is
        choose (inr apart) = absurd (false≢true (sym (off vertex apart) ∙ marked))

    back : (vertex : ℕ) → IsReached graph [] vertex → IsTrue (is_marked (set blank 0 true) vertex)
    back vertex (at_root root_is) = subst (λ (v : ℕ). is_marked (set blank 0 true) v ≡ true) (sym root_is) root
    back vertex (at_head has) = absurd (omega (arith, has.1))

-- no edge into the next colour is taken
pub IsTreeTo-left : (graph : Graph) (allowed : List Bool) (cert : PriceValue) (marks : List Bool) (before colour : ℕ)
    (edges : List ℕ) → colour ≡ before + 1 → IsTreeTo graph before edges → AreMarks graph edges marks
    → IsBestInto graph allowed cert marks colour None → IsTreeTo graph colour edges
IsTreeTo-left graph allowed cert marks before colour edges next is marked none = record {
  colourful = is.colourful;
  rising = is.rising;
  before = λ k d within. omega (arith, is.before k d within, next);
  maximal = maximal;
}
  where
    not_positive : (weight : ℤ) → (pos 0 <ℤ weight → ⊥) → weight ≤ℤ pos 0
    not_positive weight low = by_lt_z (pos 0) weight (λ more. absurd (low more)) (λ most. most)

    maximal : (edge : ℕ) → edge < length graph.edges → head_colour graph edge ≤ colour
        → IsReached graph edges (edge_at graph edge).tail
        → All (λ taken. head_colour graph taken ≢ head_colour graph edge) edges
        → (edge_at graph edge).weight ≤ℤ pos 0
    maximal edge within low reached free = choose (cases_eq (head_colour graph edge) colour)
      where
        choose : (head_colour graph edge ≡ colour) ⊎ (head_colour graph edge ≡ colour → ⊥)
            → (edge_at graph edge).weight ≤ℤ pos 0
        choose (inl into) = not_positive (edge_at graph edge).weight (λ more. none edge within (record {
          within = within;
          into = into;
          reached = (marked.exact (edge_at graph edge).tail).1 reached;
          useful = inl more;
        }))
        choose (inr apart) = is.maximal edge within (omega (arith, low, apart, next)) reached free

-- an edge into the next colour is taken
pub IsTreeTo-taken : (graph : Graph) (allowed : List Bool) (cert : PriceValue) (marks : List Bool)
    (before colour : ℕ) (edges : List ℕ) (edge : ℕ) → IsGraph graph → colour ≡ before + 1
    → IsTreeTo graph before edges → AreMarks graph edges marks
    → IsCandidate graph allowed cert marks colour edge → IsTreeTo graph colour (edges ++ edge ∷ [])
IsTreeTo-taken graph allowed cert marks before colour edges edge is_graph next is marked candidate = record {
  colourful = IsColourful-push graph edges edge is.colourful candidate.within
      ((marked.exact (edge_at graph edge).tail).0 candidate.reached) free;
  rising = AllPairs-push (λ (e later : ℕ). e < later) edges edge is.rising lower;
  before = All-push (λ (e : ℕ). head_colour graph e ≤ colour) edges edge
      (λ k d within. omega (arith, is.before k d within, next)) (omega (arith, candidate.into));
  maximal = maximal;
}
  where
    free : All (λ taken. head_colour graph taken ≢ head_colour graph edge) edges
    free k d within same =
        let low : head_colour graph (get_or edges k d) ≤ before = is.before k d within in
        omega (arith, low, same, candidate.into, next)

    lower : All (λ e. e < edge) edges
    lower k d within = choose (cases_lt (get_or edges k d) edge)
      where
        choose : (get_or edges k d < edge) ⊎ (edge ≤ get_or edges k d) → get_or edges k d < edge
        choose (inl less) = less
        choose (inr more) =
            let rise = (CanIndex-graph graph is_graph).in_order edge (get_or edges k d) more
            (is.colourful.in_range k d within) in
            let low : head_colour graph (get_or edges k d) ≤ before = is.before k d within in
            let high : head_colour graph edge ≤ head_colour graph (get_or edges k d) = rise in
            absurd (omega (arith, high, low, candidate.into, next))

    maximal : (other : ℕ) → other < length graph.edges → head_colour graph other ≤ colour
        → IsReached graph (edges ++ edge ∷ []) (edge_at graph other).tail
        → All (λ taken. head_colour graph taken ≢ head_colour graph other) (edges ++ edge ∷ [])
        → (edge_at graph other).weight ≤ℤ pos 0
    maximal other within low reached free' = choose (cases_eq (head_colour graph other) colour)
      where
        apart_from : head_colour graph edge ≢ head_colour graph other
        apart_from = All-last (λ (taken : ℕ). head_colour graph taken ≢ head_colour graph other) edges edge free'

        pick : IsReached graph edges (edge_at graph other).tail
            ⊎ ((edge_at graph other).tail ≡ (edge_at graph edge).head)
            → head_colour graph other ≤ before → (edge_at graph other).weight ≤ℤ pos 0
        pick (inl reached') low' =
            is.maximal other within low' reached'
            (All-front (λ (taken : ℕ). head_colour graph taken ≢ head_colour graph other) edges edge free')
        pick (inr same) low' =
            let rises : colour_of graph (edge_at graph other).tail < head_colour graph other =
            (edge-is graph other is_graph within).rising in
            let there : colour_of graph (edge_at graph other).tail ≡ head_colour graph edge =
            ap (λ v. colour_of graph v) same in
            absurd (omega (arith, rises, there, low', candidate.into, next))

        choose : (head_colour graph other ≡ colour) ⊎ (head_colour graph other ≡ colour → ⊥)
            → (edge_at graph other).weight ≤ℤ pos 0
        choose (inl into) = absurd (apart_from (candidate.into ∙ sym into))
        choose (inr apart) =
            pick (IsReached-cases graph edges edge (edge_at graph other).tail reached) (omega (arith, low, apart, next))

pub AreMarks-taken : (graph : Graph) (edges : List ℕ) (edge : ℕ) (marks new : List Bool) → IsGraph graph
    → edge < length graph.edges → AreMarks graph edges marks → new ≡ set marks (edge_at graph edge).head true
    → AreMarks graph (edges ++ edge ∷ []) new
AreMarks-taken graph edges edge marks new is within marked same = rw same (record {
  count = length-set marks head true ∙ marked.count;
  exact = λ vertex. (forth vertex, back vertex);
})
  where
    head : ℕ
    head = (edge_at graph edge).head

    inside : head < length marks
    inside = omega (arith, marked.count, (edge-is graph edge is within).head)

    forth : (vertex : ℕ) → IsTrue (is_marked (set marks head true) vertex)
        → IsReached graph (edges ++ edge ∷ []) vertex
    forth vertex marked' = choose (cases_eq vertex head)
      where
        choose : (vertex ≡ head) ⊎ (vertex ≡ head → ⊥) → IsReached graph (edges ++ edge ∷ []) vertex
        choose (inl here) =
            subst (λ (v : ℕ). IsReached graph (edges ++ edge ∷ []) v) (sym here) (IsReached-last graph edges edge)
        choose (inr apart) =
            IsReached-push graph edges edge vertex
            ((marked.exact vertex).0 (sym (get_or-set_other marks head vertex true false apart) ∙ marked'))

    back : (vertex : ℕ) → IsReached graph (edges ++ edge ∷ []) vertex
        → IsTrue (is_marked (set marks head true) vertex)
    back vertex reached = choose (cases_eq vertex head) (IsReached-cases graph edges edge vertex reached)
      where
        choose : (vertex ≡ head) ⊎ (vertex ≡ head → ⊥)
            → IsReached graph edges vertex ⊎ (vertex ≡ head) → IsTrue (is_marked (set marks head true) vertex)
        choose (inl here) other =
            subst (λ (v : ℕ). is_marked (set marks head true) v ≡ true) (sym here)
            (get_or-set_same marks head true false inside)
        choose (inr apart) (inl before) =
            get_or-set_other marks head vertex true false apart ∙ (marked.exact vertex).1 before
        choose (inr apart) (inr here) = absurd (apart here)

-- a tree of edges into all colours
pub IsTree-all : (graph : Graph) (colour : ℕ) (edges : List ℕ) (score : ℤ) → IsGraph graph
    → colour_count graph ≤ colour → IsTreeTo graph colour edges → score ≡ score_of graph edges
    → IsTree graph edges score
IsTree-all graph colour edges score is all tree same = record {
  colourful = tree.colourful;
  rising = tree.rising;
  maximal = λ edge within reached free. tree.maximal edge within
      (omega (
        arith,
        all,
        colour-le_count graph is.colours (edge_at graph edge).head
            (edge-is graph edge is within).head,
      ))
      reached free;
  is_score = same;
}
