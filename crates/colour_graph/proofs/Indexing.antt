-- Of IsIndex and AreInto: how the index of a graph is made, and what it tells.
use Rattle.std.proofs.Common.{◌≡◌, ◌+◌, ◌-◌, ◌<◌, ◌≤◌, ◌∙◌, ◌⊎◌, inl, inr, ℕ, List, length, get_or, sym, arith}
use Rattle.std.proofs.lemmas.Bool.{cases_lt}
use Rattle.std.proofs.lemmas.List.{get_or_default}
use Rattle.colour_graph.specs.declared.edge.Edge.{Edge}
use Rattle.colour_graph.specs.EdgeSet.{AreInto}
use Rattle.colour_graph.specs.Graph.{Graph, colour_count, head_colour}
use Rattle.colour_graph.specs.inside.Index.{CanIndex, EndsAt, IsIndex, head_colour_at}

-- all edges before a place go to small colours, and the one there, if any, to a greater one
pub EndsAt-found : (colours : List ℕ) (edges : List Edge) (colour place : ℕ) → CanIndex colours edges
    → place ≤ length edges
    → ((edge : ℕ) → edge < place → head_colour_at colours edges edge ≤ colour)
    → (place < length edges → colour < head_colour_at colours edges place)
    → EndsAt colours edges colour place
EndsAt-found colours edges colour place can within before here =
    record { within = within; splits = λ edge at. (before edge, back edge at) }
  where
    back : (edge : ℕ) → edge < length edges → head_colour_at colours edges edge ≤ colour → edge < place
    back edge at small = choose (cases_lt edge place)
      where
        choose : (edge < place) ⊎ (place ≤ edge) → edge < place
        choose (inl is) = is
        choose (inr later) =
            let great = here (omega arith) in
            let rises = can.in_order place edge later at in
            absurd (omega (arith, great, rises, small))

pub AreInto-ends : (graph : Graph) (colour smaller first past : ℕ) → smaller + 1 ≡ colour
    → EndsAt graph.colours graph.edges smaller first
    → EndsAt graph.colours graph.edges colour past → AreInto graph colour first past
AreInto-ends graph colour smaller first past next begins ends = record {
  in_order = in_order;
  within = ends.within;
  members = λ edge at. (forth edge at, back edge at);
  smaller = λ edge at. (less edge at, less_back edge at);
}
  where
    in_order : first ≤ past
    in_order = choose (cases_lt past first)
      where
        choose : (past < first) ⊎ (first ≤ past) → first ≤ past
        choose (inr is) = is
        choose (inl turned) =
            let limit = begins.within in
            let at : past < length graph.edges = omega (arith, limit) in
            let small = (begins.splits past at).0 turned in
            let again = (ends.splits past at).1 (omega (arith, small)) in
            absurd (omega (arith, again))

    forth : (edge : ℕ) → edge < length graph.edges → (first ≤ edge) × (edge < past) → head_colour graph edge ≡ colour
    forth edge at is = choose (cases_lt smaller (head_colour graph edge))
      where
        choose : (smaller < head_colour graph edge) ⊎ (head_colour graph edge ≤ smaller)
            → head_colour graph edge ≡ colour
        choose (inl above) = let below = (ends.splits edge at).0 is.1 in omega (arith, below)
        choose (inr small) =
            let before = (begins.splits edge at).1 small in let from = is.0 in absurd (omega (arith, before, from))

    back : (edge : ℕ) → edge < length graph.edges → head_colour graph edge ≡ colour → (first ≤ edge) × (edge < past)
    back edge at is = choose (cases_lt edge first)
      where
        choose : (edge < first) ⊎ (first ≤ edge) → (first ≤ edge) × (edge < past)
        choose (inl before) = let small = (begins.splits edge at).0 before in absurd (omega (arith, small))
        choose (inr from) = (from, (ends.splits edge at).1 (omega arith))

    less : (edge : ℕ) → edge < length graph.edges → edge < first → head_colour graph edge < colour
    less edge at before = let small = (begins.splits edge at).0 before in omega (arith, small)

    less_back : (edge : ℕ) → edge < length graph.edges → head_colour graph edge < colour → edge < first
    less_back edge at small = (begins.splits edge at).1 (omega arith)

pub AreInto-index : (graph : Graph) (ends : List ℕ) (colour first past : ℕ) → IsIndex graph.colours graph.edges ends
    → colour_count graph < length ends → 0 < colour
    → colour ≤ colour_count graph → first ≡ get_or ends (colour - 1) first → past ≡ get_or ends colour past
    → AreInto graph colour first past
AreInto-index graph ends colour first past is long some counted first_is past_is =
    let first_place : get_or ends (colour - 1) 0 ≡ first =
    get_or_default ends (colour - 1) 0 first (omega arith) ∙ sym first_is in
    let past_place : get_or ends colour 0 ≡ past = get_or_default ends colour 0 past (omega arith) ∙ sym past_is in
    AreInto-ends graph colour (colour - 1) first past (omega arith) (rw first_place at (is (colour - 1) (omega arith)))
    (rw past_place at (is colour (omega arith)))
