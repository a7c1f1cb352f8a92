-- Of IsColourful: lists of edges that get an edge at their end.
use Rattle.std.proofs.Common.{◌≡◌, ◌≢◌, ◌⊎◌, inl, inr, ◌<◌, ◌≤◌, ◌+◌, ℕ, zero, suc, ℤ, pos, ◌+ℤ◌, List, [], ◌∷◌}
use Rattle.std.proofs.Common.{◌++◌, length, get_or, map, ap, sym, subst, refl, ◌∙◌, arith}
use Rattle.std.proofs.lemmas.Bool.{cases_lt}
use Rattle.std.proofs.lemmas.Int.{ints}
use Rattle.std.proofs.lemmas.List.{get_or_append_left, get_or_push, length_push}
use Rattle.std.proofs.lemmas.List.Elements.{All-push}
use Rattle.std.specs.List.{All, AllPairs, Contains}
use Rattle.colour_graph.specs.Colourful.{IsColourful, IsReached, at_head, at_root, heads_of, score_of}
use Rattle.colour_graph.specs.Graph.{Graph, edge_at, head_colour}
use Rattle.tree_certificate.proofs.Sums.{IsIn, sum_of}

pub IsIn-push_cases : {X : Type 0} (y last : X) (xs : List X) → IsIn y (xs ++ last ∷ []) → IsIn y xs ⊎ (y ≡ last)
IsIn-push_cases y last [] (inl is) = inr is
IsIn-push_cases y last [] (inr later) = absurd later
IsIn-push_cases y last (x ∷ xs) (inl is) = inl (inl is)
IsIn-push_cases {X} y last (x ∷ xs) (inr later) = choose (IsIn-push_cases y last xs later)
  where
    choose : IsIn y xs ⊎ (y ≡ last) → IsIn y (x ∷ xs) ⊎ (y ≡ last)
    choose (inl within) = inl (inr within)
    choose (inr is) = inr is

-- a member has a place
pub place-in : {X : Type 0} (y : X) (xs : List X) → IsIn y xs
    → (place : ℕ) × (place < length xs) × (get_or xs place y ≡ y)
place-in y [] within = absurd within
place-in y (x ∷ xs) (inl is) = (zero, omega arith, sym is)
place-in y (x ∷ xs) (inr later) = let found = place-in y xs later in
    (suc found.0, omega (arith, found.1), found.2)

regrouped : (a b c : ℤ) → (a +ℤ (b +ℤ c)) ≡ ((a +ℤ b) +ℤ c)
regrouped a b c = omega (arith, ints)

alone : (a : ℤ) → (a +ℤ pos 0) ≡ (pos 0 +ℤ a)
alone a = omega (arith, ints)

pub sum_of-push : {X : Type 0} (f : X → ℤ) (last : X) (xs : List X)
    → sum_of f (xs ++ last ∷ []) ≡ (sum_of f xs +ℤ f last)
sum_of-push f last [] = alone (f last)
sum_of-push f last (x ∷ xs) = ap (λ rest. f x +ℤ rest) (sum_of-push f last xs) ∙ regrouped (f x) (sum_of f xs) (f last)

pub score_of-push : (graph : Graph) (edges : List ℕ) (edge : ℕ)
    → score_of graph (edges ++ edge ∷ []) ≡ (score_of graph edges +ℤ (edge_at graph edge).weight)
score_of-push graph edges edge =
    ap (λ n. graph.root_score +ℤ n) (sum_of-push (λ e. (edge_at graph e).weight) edge edges)
    ∙ regrouped graph.root_score (sum_of (λ e. (edge_at graph e).weight) edges) (edge_at graph edge).weight

pub map-push : {X Y : Type 0} (f : X → Y) (xs : List X) (last : X) → map f (xs ++ last ∷ []) ≡ map f xs ++ f last ∷ []
map-push f [] last = refl
map-push f (x ∷ xs) last = ap (λ ys. f x ∷ ys) (map-push f xs last)

-- pairs, where the last element is related to all before
pub AllPairs-push : (R : ℕ → ℕ → Type 0) (xs : List ℕ) (last : ℕ) → AllPairs R xs → All (λ x. R x last) xs
    → AllPairs R (xs ++ last ∷ [])
AllPairs-push R xs last pairs each i j d before within =
    choose (cases_lt j (length xs))
  where
    long : length (xs ++ last ∷ []) ≡ length xs + 1
    long = length_push xs last

    first : i < length xs → get_or (xs ++ last ∷ []) i d ≡ get_or xs i d
    first inside = get_or_append_left xs (last ∷ []) d i inside

    choose : (j < length xs) ⊎ (length xs ≤ j) → R (get_or (xs ++ last ∷ []) i d) (get_or (xs ++ last ∷ []) j d)
    choose (inl inside) =
        subst (λ (x : ℕ). R x (get_or (xs ++ last ∷ []) j d)) (sym (first (omega (arith, before, inside))))
        (subst (λ (y : ℕ). R (get_or xs i d) y) (sym (get_or_append_left xs (last ∷ []) d j inside))
        (pairs i j d before inside))
    choose (inr past) =
        let end : j ≡ length xs = omega (arith, past, within, long) in
        subst (λ (x : ℕ). R x (get_or (xs ++ last ∷ []) j d)) (sym (first (omega (arith, before, end))))
        (subst (λ (y : ℕ). R (get_or xs i d) y) (sym (get_or_push xs last d j (sym end)))
        (each i d (omega (arith, before, end))))

-- the elements before the last
pub All-front : {X : Type 0} (P : X → Type 0) (xs : List X) (last : X) → All P (xs ++ last ∷ []) → All P xs
All-front P xs last each k d within =
    subst P (get_or_append_left xs (last ∷ []) d k within)
    (each k d (omega (arith, within, length_push xs last)))

pub All-last : (P : ℕ → Type 0) (xs : List ℕ) (last : ℕ) → All P (xs ++ last ∷ []) → P last
All-last P xs last each =
    subst P (get_or_push xs last 0 (length xs) refl) (each (length xs) 0 (omega (arith, length_push xs last)))

-- what is reached with one edge more
pub IsReached-push : (graph : Graph) (edges : List ℕ) (edge vertex : ℕ) → IsReached graph edges vertex
    → IsReached graph (edges ++ edge ∷ []) vertex
IsReached-push graph edges edge vertex (at_root is) = at_root is
IsReached-push graph edges edge vertex (at_head (place, within, is)) =
    at_head (subst (λ (hs : List ℕ). Contains hs vertex) (sym (map-push (λ e. (edge_at graph e).head) edges edge)) (
      place,
      omega (arith, within, length_push (heads_of graph edges) (edge_at graph edge).head),
      get_or_append_left (heads_of graph edges) ((edge_at graph edge).head ∷ []) vertex place within ∙ is,
    ))

pub IsReached-last : (graph : Graph) (edges : List ℕ) (edge : ℕ)
    → IsReached graph (edges ++ edge ∷ []) (edge_at graph edge).head
IsReached-last graph edges edge =
    at_head (subst (λ (hs : List ℕ). Contains hs (edge_at graph edge).head)
    (sym (map-push (λ e. (edge_at graph e).head) edges edge)) (
      length (heads_of graph edges),
      omega (arith, length_push (heads_of graph edges) (edge_at graph edge).head),
      get_or_push (heads_of graph edges) (edge_at graph edge).head (edge_at graph edge).head
          (length (heads_of graph edges)) refl,
    ))

pub IsReached-cases : (graph : Graph) (edges : List ℕ) (edge vertex : ℕ)
    → IsReached graph (edges ++ edge ∷ []) vertex → IsReached graph edges vertex ⊎ (vertex ≡ (edge_at graph edge).head)
IsReached-cases graph edges edge vertex (at_root is) = inl (at_root is)
IsReached-cases graph edges edge vertex (at_head has) =
    found (subst (λ (hs : List ℕ). Contains hs vertex) (map-push (λ e. (edge_at graph e).head) edges edge) has)
  where
    hs : List ℕ
    hs = heads_of graph edges

    last : ℕ
    last = (edge_at graph edge).head

    found : Contains (hs ++ last ∷ []) vertex → IsReached graph edges vertex ⊎ (vertex ≡ last)
    found (place, within, is) = choose (cases_lt place (length hs))
      where
        choose : (place < length hs) ⊎ (length hs ≤ place) → IsReached graph edges vertex ⊎ (vertex ≡ last)
        choose (inl inside) =
            inl (at_head (place, inside, sym (get_or_append_left hs (last ∷ []) vertex place inside) ∙ is))
        choose (inr past) =
            inr (sym is ∙ get_or_push hs last vertex place (omega (arith, past, within, length_push hs last)))

-- An edge from a reached vertex to a colour without a head makes a longer colourful list.
pub IsColourful-push : (graph : Graph) (edges : List ℕ) (edge : ℕ) → IsColourful graph edges
    → edge < length graph.edges → IsReached graph edges (edge_at graph edge).tail
    → All (λ taken. head_colour graph taken ≢ head_colour graph edge) edges
    → IsColourful graph (edges ++ edge ∷ [])
IsColourful-push graph edges edge colourful within reached free = record {
  in_range = All-push (λ (e : ℕ). e < length graph.edges) edges edge colourful.in_range within;
  one_of_a_colour = AllPairs-push (λ (first later : ℕ). head_colour graph first ≢ head_colour graph later) edges edge
      colourful.one_of_a_colour free;
  tails =
      All-push (λ (e : ℕ). IsReached graph (edges ++ edge ∷ []) (edge_at graph e).tail) edges edge
      (λ place d at. IsReached-push graph edges edge (edge_at graph (get_or edges place d)).tail
      (colourful.tails place d at))
      (IsReached-push graph edges edge (edge_at graph edge).tail reached);
}
