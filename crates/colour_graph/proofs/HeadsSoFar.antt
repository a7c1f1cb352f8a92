-- Of AreApart and AreHeads: the heads and their colours of the edges that were looked at, as bits.
use Rattle.std.proofs.Common.{◌≡◌, ◌≢◌, ◌+◌, ◌/◌, ◌%◌, ◌^◌, ◌<◌, ◌≤◌, ◌∙◌, ◌⊎◌, inl, inr, ℕ, true, false, ◌||◌, eqb}
use Rattle.std.proofs.Common.{List, length, replicate, get_or, ap, sym, arith}
use Rattle.std.specs.Prelude.{◌↔◌}
use Rattle.std.proofs.lemmas.Bool.{cases_eq, cases_lt, eq-eqb, eqb-true, false≢true, or_cases, or_left, or_right}
use Rattle.std.proofs.lemmas.List.{get_or-map, get_or-replicate, get_or_default, get_or_past, length-map}
use Rattle.std.proofs.lemmas.List.{length-replicate}
use Rattle.std.proofs.lemmas.Nat.Bits.{bit_at-zero}
use Rattle.std.specs.List.{All, AllPairs, Contains}
use Rattle.colour_graph.specs.Colourful.{IsColourful, IsReached, at_head, at_root, heads_of}
use Rattle.colour_graph.specs.Graph.{Graph, edge_at, head_colour}
use Rattle.colour_graph.specs.inside.Bits.{is_marked}
use Rattle.colour_graph.specs.inside.Heads.{AreApart, AreHeads, IsMarkedTail}
use Rattle.colour_graph.specs.inside.Heads as heads

-- some edge among the first ones has the value
abbrev pub IsSeen : (ℕ → ℕ) → List ℕ → ℕ → ℕ → Type 0
IsSeen value edges count seen = (k : ℕ) × (k < count) × (value (get_or edges k 0) ≡ seen)

abbrev pub AreSeen : (ℕ → ℕ) → List ℕ → ℕ → List ℕ → Type 0
AreSeen value edges count words = (seen : ℕ) → (is_marked words seen ≡ true) ↔ IsSeen value edges count seen

no_bit : (long place : ℕ) → is_marked (replicate long 0) place ≡ false
no_bit long place =
    ap (λ (word : ℕ). eqb (word / 2 ^ (place % 64) % 2) 1) (none (cases_lt (place / 64) long))
    ∙ ap (λ bit. eqb bit 1) (bit_at-zero (place % 64))
  where
    none : (place / 64 < long) ⊎ (long ≤ place / 64) → get_or (replicate {A = ℕ} long 0) (place / 64) 0 ≡ 0
    none (inl within) = get_or-replicate long (place / 64) 0 0 within
    none (inr past) = get_or_past (replicate long 0) (place / 64) 0 (omega (arith, length-replicate {A = ℕ} long 0))

pub AreSeen-none : (value : ℕ → ℕ) (edges : List ℕ) (long : ℕ) → AreSeen value edges 0 (replicate long 0)
AreSeen-none value edges long seen =
    (λ is. absurd (false≢true (sym (no_bit long seen) ∙ is)), λ is. absurd (omega (arith, is.1)))

pub AreSeen-more : (value : ℕ → ℕ) (edges : List ℕ) (count : ℕ) (words new : List ℕ) → AreSeen value edges count words
    → ((other : ℕ) → is_marked new other ≡ (eqb other (value (get_or edges count 0)) || is_marked words other))
    → AreSeen value edges (count + 1) new
AreSeen-more value edges count words new so_far each seen = (forth, back)
  where
    forth : is_marked new seen ≡ true → IsSeen value edges (count + 1) seen
    forth is = choose (or_cases (eqb seen (value (get_or edges count 0))) (is_marked words seen) (sym (each seen) ∙ is))
      where
        choose : (eqb seen (value (get_or edges count 0)) ≡ true) ⊎ (is_marked words seen ≡ true)
            → IsSeen value edges (count + 1) seen
        choose (inl here) = (count, omega arith, sym (eqb-true seen (value (get_or edges count 0)) here))
        choose (inr before) =
            let is_before = (so_far seen).0 before in (is_before.0, omega (arith, is_before.1), is_before.2)

    back : IsSeen value edges (count + 1) seen → is_marked new seen ≡ true
    back (k, within, is) = each seen ∙ choose (cases_eq k count)
      where
        choose : (k ≡ count) ⊎ (k ≡ count → ⊥)
            → (eqb seen (value (get_or edges count 0)) || is_marked words seen) ≡ true
        choose (inl here) =
            or_left (eqb seen (value (get_or edges count 0))) (is_marked words seen)
            (eq-eqb seen (value (get_or edges count 0)) (sym is ∙ ap (λ at. value (get_or edges at 0)) here))
        choose (inr before) =
            or_right (eqb seen (value (get_or edges count 0))) (is_marked words seen)
            ((so_far seen).1 (k, omega arith, is))

-- what is known after the first edges
pub record SeenHeads (graph : Graph) (edges : List ℕ) (count : ℕ) (head_words colour_words : List ℕ) : Type 0 where
  pub in_range : (k : ℕ) → k < count → get_or edges k 0 < length graph.edges
  pub apart : (i j : ℕ) → i < j → j < count
      → head_colour graph (get_or edges i 0) ≢ head_colour graph (get_or edges j 0)
  pub heads : AreSeen (λ edge. (edge_at graph edge).head) edges count head_words
  pub colours : AreSeen (head_colour graph) edges count colour_words

pub SeenHeads-none : (graph : Graph) (edges : List ℕ) (long : ℕ)
    → SeenHeads graph edges 0 (replicate long 0) (replicate long 0)
SeenHeads-none graph edges long = record {
  in_range = λ k within. absurd (omega arith);
  apart = λ i j before within. absurd (omega arith);
  heads = AreSeen-none (λ edge. (edge_at graph edge).head) edges long;
  colours = AreSeen-none (head_colour graph) edges long;
}

pub SeenHeads-more : (graph : Graph) (edges : List ℕ) (count : ℕ) (heads colours new_heads new_colours : List ℕ)
    → SeenHeads graph edges count heads colours
    → get_or edges count 0 < length graph.edges → is_marked colours (head_colour graph (get_or edges count 0)) ≡ false
    → ((other : ℕ) → is_marked new_heads other
    ≡ (eqb other (edge_at graph (get_or edges count 0)).head || is_marked heads other))
    → ((other : ℕ) → is_marked new_colours other
    ≡ (eqb other (head_colour graph (get_or edges count 0)) || is_marked colours other))
    → SeenHeads graph edges (count + 1) new_heads new_colours
SeenHeads-more graph edges count heads colours new_heads new_colours so_far within new each_head each_colour = record {
  in_range = in_range;
  apart = apart;
  heads = AreSeen-more (λ edge. (edge_at graph edge).head) edges count heads new_heads so_far.heads each_head;
  colours = AreSeen-more (head_colour graph) edges count colours new_colours so_far.colours each_colour;
}
  where
    in_range : (k : ℕ) → k < count + 1 → get_or edges k 0 < length graph.edges
    in_range k at = choose (cases_eq k count)
      where
        choose : (k ≡ count) ⊎ (k ≡ count → ⊥) → get_or edges k 0 < length graph.edges
        choose (inl here) = rw here within
        choose (inr before) = so_far.in_range k (omega arith)

    apart : (i j : ℕ) → i < j → j < count + 1
        → head_colour graph (get_or edges i 0) ≢ head_colour graph (get_or edges j 0)
    apart i j before at = choose (cases_eq j count)
      where
        choose : (j ≡ count) ⊎ (j ≡ count → ⊥)
            → head_colour graph (get_or edges i 0) ≢ head_colour graph (get_or edges j 0)
        choose (inl here) =
            λ same. false≢true (sym new ∙ (so_far.colours (head_colour graph (get_or edges count 0))).1
            (i, omega arith, same ∙ ap (λ k. head_colour graph (get_or edges k 0)) here))
        choose (inr earlier) = so_far.apart i j before (omega arith)

-- the whole list
pub AreApart-all : (graph : Graph) (edges heads colours : List ℕ) → SeenHeads graph edges (length edges) heads colours
    → AreApart graph edges
AreApart-all graph edges heads colours seen = record { in_range = in_range; one_of_a_colour = apart }
  where
    in_range : All (λ edge. edge < length graph.edges) edges
    in_range k d within = rw (get_or_default edges k d 0 within) (seen.in_range k within)

    apart : AllPairs (λ first later. head_colour graph first ≢ head_colour graph later) edges
    apart i j d before within =
        rw (get_or_default edges i d 0 (omega arith), get_or_default edges j d 0 within) (seen.apart i j before within)

pub AreHeads-all : (graph : Graph) (edges heads colours : List ℕ) → SeenHeads graph edges (length edges) heads colours
    → AreHeads graph edges heads
AreHeads-all graph edges heads colours seen vertex =
    (λ is. forth ((seen.heads vertex).0 is), λ is. (seen.heads vertex).1 (back is))
  where
    forth : IsSeen (λ edge. (edge_at graph edge).head) edges (length edges) vertex
        → Contains (heads_of graph edges) vertex
    forth (k, within, is) = (
      k,
      omega (arith, length-map edges (λ (edge : ℕ). (edge_at graph edge).head)),
      get_or-map
          (λ edge. (edge_at graph edge).head) edges k 0 vertex within ∙ is,
    )

    back : Contains (heads_of graph edges) vertex
        → IsSeen (λ edge. (edge_at graph edge).head) edges (length edges) vertex
    back (k, within, is) =
        let at : k < length edges = omega (arith, length-map edges (λ (edge : ℕ). (edge_at graph edge).head)) in
        (k, at, sym (get_or-map (λ edge. (edge_at graph edge).head) edges k 0 vertex at) ∙ is)

-- an edge that is no edge of the graph, or of a colour that was seen, makes the list no such one
pub out_of_range : (graph : Graph) (edges : List ℕ) (k : ℕ) → k < length edges → length graph.edges ≤ get_or edges k 0
    → AreApart graph edges → ⊥
out_of_range graph edges k within past apart = absurd (omega (arith, past, apart.in_range k 0 within))

pub seen_before : (graph : Graph) (edges heads colours : List ℕ) (k : ℕ) → k < length edges
    → SeenHeads graph edges k heads colours
    → is_marked colours (head_colour graph (get_or edges k 0)) ≡ true → AreApart graph edges → ⊥
seen_before graph edges heads colours k within seen marked apart =
    found ((seen.colours (head_colour graph (get_or edges k 0))).0 marked)
  where
    found : IsSeen (head_colour graph) edges k (head_colour graph (get_or edges k 0)) → ⊥
    found (i, before, same) = apart.one_of_a_colour i k 0 before within same

-- bits of heads tell which tails are reached
pub reached_from_mark : (graph : Graph) (edges words : List ℕ) (vertex : ℕ) → AreHeads graph edges words
    → IsMarkedTail words vertex → IsReached graph edges vertex
reached_from_mark graph edges words vertex are (heads.at_root is) = at_root is
reached_from_mark graph edges words vertex are (heads.at_mark is) = at_head ((are vertex).0 is)

pub mark_from_reached : (graph : Graph) (edges words : List ℕ) (vertex : ℕ) → AreHeads graph edges words
    → IsReached graph edges vertex → IsMarkedTail words vertex
mark_from_reached graph edges words vertex are (at_root is) = heads.at_root is
mark_from_reached graph edges words vertex are (at_head is) = heads.at_mark ((are vertex).1 is)

pub IsColourful-from : (graph : Graph) (edges words : List ℕ) → AreApart graph edges → AreHeads graph edges words
    → All (λ edge. IsMarkedTail words (edge_at graph edge).tail) edges → IsColourful graph edges
IsColourful-from graph edges words apart are tails = record {
  in_range = apart.in_range;
  one_of_a_colour = apart.one_of_a_colour;
  tails =
      λ k d within. reached_from_mark graph edges words (edge_at graph (get_or edges k d)).tail are (tails k d within);
}

pub IsColourful-back : (graph : Graph) (edges words : List ℕ) → AreHeads graph edges words → IsColourful graph edges
    → All (λ edge. IsMarkedTail words (edge_at graph edge).tail) edges
IsColourful-back graph edges words are colourful k d within =
    mark_from_reached graph edges words (edge_at graph (get_or edges k d)).tail are (colourful.tails k d within)

pub not_marked : (words : List ℕ) (vertex : ℕ) → (vertex ≡ 0 → ⊥) → is_marked words vertex ≡ false
    → IsMarkedTail words vertex → ⊥
not_marked words vertex not_root unmarked (heads.at_root is) = not_root is
not_marked words vertex not_root unmarked (heads.at_mark is) = false≢true (sym unmarked ∙ is)
