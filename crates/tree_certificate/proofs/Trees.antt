-- The edges of a colourful list, and the bound that numbers give on its score.
use Rattle.std.proofs.Common.{◌≡◌, ◌≢◌, ◌<◌, inl, inr, ℕ, zero, suc, ℤ, pos, ◌+ℤ◌, ◌≤ℤ◌, Bool, true, IsTrue, List, []}
use Rattle.std.proofs.Common.{◌∷◌, length, get_or, map, replicate, ap, sym, refl, subst, ◌∙◌, arith}
use Rattle.std.proofs.lemmas.Int.{ints}
use Rattle.std.proofs.lemmas.List.{get_or-map, length-map}
use Rattle.std.specs.List.{All, AllPairs}
use Rattle.colour_graph.specs.declared.edge.Edge.{Edge}
use Rattle.colour_graph.specs.Bounded.{IsBounded}
use Rattle.colour_graph.specs.Colourful.{IsColourful, IsReached, at_head, at_root, score_of}
use Rattle.colour_graph.specs.EdgeSet.{is_allowed}
use Rattle.colour_graph.specs.Graph.{Graph, IsEdge, IsGraph, colour_count, edge_at}
use Rattle.tree_certificate.proofs.Bounding.{Bounds, IsTree, colour_into, root_edge, score-le}
use Rattle.tree_certificate.proofs.Sums.{Different, IsIn, sum_of}

-- an edge of a graph that is in a set
pub record IsOpenEdge (graph : Graph) (allowed : List Bool) (edge : Edge) : Type 0 where
  pub place : ℕ
  pub within : place < length graph.edges
  pub in_set : IsTrue (is_allowed allowed place)
  pub at_place : edge_at graph place ≡ edge

-- Elements of a list of values.
IsIn-map : {Y : Type 0} (f : ℕ → Y) (y : Y) (xs : List ℕ) → IsIn y (map f xs)
    → (place : ℕ) × (place < length xs) × (y ≡ f (get_or xs place 0))
IsIn-map f y [] within = absurd within
IsIn-map f y (x ∷ xs) (inl is) = (zero, omega arith, is)
IsIn-map f y (x ∷ xs) (inr later) = let found = IsIn-map f y xs later in (suc found.0, omega (arith, found.1), found.2)

IsIn-at : {Y : Type 0} (f : ℕ → Y) (xs : List ℕ) (place : ℕ) → place < length xs
    → IsIn (f (get_or xs place 0)) (map f xs)
IsIn-at f [] place within = absurd (omega arith)
IsIn-at f (x ∷ xs) zero within = inl refl
IsIn-at f (x ∷ xs) (suc place) within = inr (IsIn-at f xs place (omega arith))

Different-map : {Y : Type 0} (f : ℕ → Y) (key : Y → ℕ) (xs : List ℕ)
    → AllPairs (λ first later. key (f first) ≢ key (f later)) xs → Different key (map f xs)
Different-map f key [] apart = tt
Different-map {Y} f key (x ∷ xs) apart = (
  first,
  Different-map f key xs
      (λ i j d before within. apart (suc i) (suc j) d (omega arith) (omega arith)),
)
  where
    first : (y : Y) → IsIn y (map f xs) → key y ≢ key (f x)
    first y later is =
        let found = IsIn-map f y xs later in
        apart zero (suc found.0) 0 (omega arith) (omega (arith, found.1)) (sym is ∙ ap key found.2)

sum_of-map : {Y : Type 0} (f : ℕ → Y) (g : Y → ℤ) (xs : List ℕ) → sum_of g (map f xs) ≡ sum_of (λ x. g (f x)) xs
sum_of-map f g [] = refl
sum_of-map f g (x ∷ xs) = ap (λ rest. g (f x) +ℤ rest) (sum_of-map f g xs)

-- The edges of a colourful list that are in a set.
pub IsTree-from : (graph : Graph) (allowed : List Bool) (edges : List ℕ) → IsGraph graph → IsColourful graph edges
    → All (λ edge. IsTrue (is_allowed allowed edge)) edges
    → IsTree graph (IsOpenEdge graph allowed) (map (edge_at graph) edges)
IsTree-from graph allowed edges is colourful within =
    record {
      each = each;
      different = (
        not_root,
        Different-map (edge_at graph) (colour_into graph) edges
            colourful.one_of_a_colour,
      );
      tails = tails;
    }
  where
    each : (edge : Edge) → IsIn edge (map (edge_at graph) edges) → (IsEdge graph edge) × (IsOpenEdge graph allowed edge)
    each edge at =
        let found = IsIn-map (edge_at graph) edge edges at in
        let there : get_or edges found.0 0 < length graph.edges = colourful.in_range found.0 0 found.1 in (
          subst (λ (e : Edge). IsEdge graph e) (sym found.2)
              (is.edges (get_or edges found.0 0) (record { tail = 0; head = 0; weight = pos 0 }) there),
          record {
            place = get_or edges found.0 0;
            within = there;
            in_set = within found.0 0 found.1;
            at_place =
                sym found.2;
          },
        )

    not_root : (edge : Edge) → IsIn edge (map (edge_at graph) edges)
        → colour_into graph edge ≢ colour_into graph (root_edge graph)
    not_root edge at same = absurd (omega (arith, (each edge at).0.rising, same, is.colours.root))

    tails : (edge : Edge) → IsIn edge (map (edge_at graph) edges)
        → (above : Edge) × (IsIn above (root_edge graph ∷ map (edge_at graph) edges)) × (above.head ≡ edge.tail)
    tails edge at = choose (colourful.tails found.0 0 found.1)
      where
        found : (place : ℕ) × (place < length edges) × (edge ≡ edge_at graph (get_or edges place 0))
        found = IsIn-map (edge_at graph) edge edges at

        tail_is : (edge_at graph (get_or edges found.0 0)).tail ≡ edge.tail
        tail_is = ap (λ (e : Edge). e.tail) (sym found.2)

        choose : IsReached graph edges (edge_at graph (get_or edges found.0 0)).tail
            → (above : Edge) × (IsIn above (root_edge graph ∷ map (edge_at graph) edges)) × (above.head ≡ edge.tail)
        choose (at_root root) = (root_edge graph, inl refl, sym root ∙ tail_is)
        choose (at_head (place, there, head_is)) =
            let inside : place < length edges = omega (
              arith,
              there,
              length-map edges
                  (λ (e : ℕ). (edge_at graph e).head),
            ) in (
              edge_at graph (get_or edges place 0),
              inr (IsIn-at (edge_at graph) edges place inside),
              sym (get_or-map (λ e. (edge_at graph e).head) edges place 0 (edge_at graph (get_or edges found.0 0)).tail
                  inside) ∙ head_is ∙ tail_is,
            )

-- Numbers bound all colourful lists of edges of a set.
pub bounded_by : (graph : Graph) (allowed : List Bool) (number : ℕ → List Bool → ℤ) (upper : ℤ) → IsGraph graph
    → Bounds graph (IsOpenEdge graph allowed) number
    → (graph.root_score +ℤ number 0 (replicate (colour_count graph) true)) ≤ℤ upper → IsBounded graph allowed upper
bounded_by graph allowed number upper is bounds most edges colourful within =
    at_most (score_of graph edges) (sum_of (λ edge. edge.weight) (root_edge graph ∷ map (edge_at graph) edges))
    (graph.root_score +ℤ number 0 (replicate (colour_count graph) true)) upper
    (ap (λ rest. graph.root_score +ℤ rest) (sym (sum_of-map (edge_at graph) (λ (edge : Edge). edge.weight) edges)))
    (score-le graph is (IsOpenEdge graph allowed) number bounds (map (edge_at graph) edges)
    (IsTree-from graph allowed edges is colourful within)) most
  where
    trans : (a b c : ℤ) → a ≤ℤ b → b ≤ℤ c → a ≤ℤ c
    trans a b c one other = omega (arith, ints)

    at_most : (score sum last most : ℤ) → score ≡ sum → sum ≤ℤ last → last ≤ℤ most → score ≤ℤ most
    at_most score sum last most same one other = rw same (trans sum last most one other)
