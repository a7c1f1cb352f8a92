-- Of IsHalf: the first edges of a set into a colour, one after another.
use Rattle.std.proofs.Common.{◌≡◌, ◌<◌, ◌≤◌, ◌+◌, ◌/◌, ◌⊎◌, inl, inr, ℕ, Bool, true, false, cond, List, []}
use Rattle.std.proofs.Common.{◌∷◌, ◌++◌, length, get_or, ap, sym, ◌∙◌, arith}
use Rattle.std.proofs.lemmas.Bool.{cases_lt}
use Rattle.std.proofs.lemmas.List.{length_push}
use Rattle.std.proofs.lemmas.List.Elements.{All-push}
use Rattle.std.specs.List.{All, AllPairs, Contains}
use Rattle.colour_graph.specs.EdgeSet.{AreInto, edges_into}
use Rattle.colour_graph.specs.Graph.{Graph, colour_count}
use Rattle.colour_graph.proofs.Counting.{count_below, count_below-first, count_below-more, count_below-past, goes_to}
use Rattle.tree_certificate.proofs.Sums.{IsIn}
use Rattle.price_bound.proofs.Edges.{IsInto, in-edges_into}
use Rattle.branch_search.specs.inside.Growing.{IsHalf}
use Rattle.branch_search.proofs.Pushing.{AllPairs-push, place-in}

-- the first edges of a set into a colour that stand before a place, at most so many
pub record HalfBefore (graph : Graph) (allowed : List Bool) (colour most place : ℕ) (part : List ℕ) : Type 0 where
  pub few : length part ≤ most
  pub all : length part < most → length part ≡ count_below graph allowed colour place
  pub rising : AllPairs (λ first later. first < later) part
  pub before : All (λ edge. edge < place) part
  pub members : All (IsInto graph allowed colour) part

pub half-none : (graph : Graph) (allowed : List Bool) (colour most first past : ℕ) → AreInto graph colour first past
    → HalfBefore graph allowed colour most first []
half-none graph allowed colour most first past into = record {
  few = omega arith;
  all = λ less. sym (count_below-first graph allowed colour first past into);
  rising = λ i j d before within. absurd (omega arith);
  before = λ k d within. absurd (omega arith);
  members = λ k d within. absurd (omega arith);
}

further : (part : List ℕ) (place : ℕ) → All (λ edge. edge < place) part → All (λ edge. edge < place + 1) part
further part place before k d within = omega (arith, before k d within)

pub half-more : (graph : Graph) (allowed : List Bool) (colour most place : ℕ) (part : List ℕ)
    → HalfBefore graph allowed colour most place part → length part < most → IsInto graph allowed colour place
    → goes_to graph allowed colour place ≡ true → HalfBefore graph allowed colour most (place + 1) (part ++ place ∷ [])
half-more graph allowed colour most place part is room into goes = record {
  few = omega (arith, room, length_push part place);
  all = λ less. omega (
    arith,
    length_push part place,
    is.all room,
    count_below-more graph allowed colour place ∙ ap (λ b. count_below graph allowed colour place + cond b 1 0) goes,
  );
  rising = AllPairs-push (λ (first later : ℕ). first < later) part place is.rising is.before;
  before = All-push (λ (edge : ℕ). edge < place + 1) part place (further part place is.before) (omega arith);
  members = All-push (IsInto graph allowed colour) part place is.members into;
}

pub half-full : (graph : Graph) (allowed : List Bool) (colour most place : ℕ) (part : List ℕ)
    → HalfBefore graph allowed colour most place part → most ≤ length part
    → HalfBefore graph allowed colour most (place + 1) part
half-full graph allowed colour most place part is full = record {
  few = is.few;
  all = λ less. absurd (omega (arith, less, full));
  rising = is.rising;
  before = further part place is.before;
  members = is.members;
}

pub half-passed : (graph : Graph) (allowed : List Bool) (colour most place : ℕ) (part : List ℕ)
    → HalfBefore graph allowed colour most place part → goes_to graph allowed colour place ≡ false
    → HalfBefore graph allowed colour most (place + 1) part
half-passed graph allowed colour most place part is goes = record {
  few = is.few;
  all = λ less. omega (
    arith,
    is.all less,
    count_below-more graph allowed colour place ∙ ap (λ b. count_below graph allowed colour place + cond b 1 0) goes,
  );
  rising = is.rising;
  before = further part place is.before;
  members = is.members;
}

pub half-last : (graph : Graph) (allowed : List Bool) (colour most first past : ℕ) (part : List ℕ)
    → AreInto graph colour first past → most ≡ length (edges_into graph allowed colour) / 2
    → 2 ≤ length (edges_into graph allowed colour) → (1 ≤ colour) × (colour ≤ colour_count graph)
    → HalfBefore graph allowed colour most past part → IsHalf graph allowed colour part
half-last graph allowed colour most first past part into half many among is = record {
  is_split = record {
    among = among;
    rising = is.rising;
    members = λ k d within. contained (get_or part k d)
        (in-edges_into graph allowed colour (get_or part k d) (is.members k d within));
    some = omega (arith, long, half, many);
    proper = omega (arith, long, half, many);
  };
  first = omega (arith, long, half, many);
  second = omega (arith, long, half, many);
}
  where
    contained : (edge : ℕ) → IsIn edge (edges_into graph allowed colour)
        → Contains (edges_into graph allowed colour) edge
    contained edge is_in = place-in edge (edges_into graph allowed colour) is_in

    long : length part ≡ most
    long = choose (cases_lt (length part) most)
      where
        choose : (length part < most) ⊎ (most ≤ length part) → length part ≡ most
        choose (inl less) =
            absurd (omega (arith, less, half, many, is.all less, count_below-past graph allowed colour first past into))
        choose (inr full) = omega (arith, full, is.few)
