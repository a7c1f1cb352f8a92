-- Of IsGraph: in a graph of few vertices few edges go to a colour, since each pair of a tail and a head stands once.
use Rattle.std.proofs.Common.{◌≡◌, ◌⊎◌, inl, inr, ◌<◌, ◌≤◌, ◌+◌, ◌-◌, ◌*◌, ◌^◌, ℕ, zero, suc, ℤ, pos, Bool, List}
use Rattle.std.proofs.Common.{length}
use Rattle.std.proofs.Common.{get_or, replicate, ap, sym, subst, ◌∙◌, arith}
use Rattle.std.proofs.lemmas.Bool.{cases_eq, cases_lt}
use Rattle.std.proofs.lemmas.List.{get_or-replicate, length-replicate}
use Rattle.std.proofs.lemmas.Nat.{mul-le}
use Rattle.std.proofs.Math.Nat.{add-mul, mul-add, mul_comm}
use Rattle.colour_graph.specs.EdgeSet.{edges_into}
use Rattle.colour_graph.specs.Graph.{Graph, IsGraph, StandsBefore, colour_count, colour_of, edge_at, head_colour}
use Rattle.colour_graph.specs.Graph.{greatest_graph}
use Rattle.colour_graph.proofs.Order.{colours-rise}
use Rattle.tree_certificate.specs.BoundHolds.{depth_of}
use Rattle.price_bound.proofs.Edges.{IsInto, edges_into-in}
use Rattle.branch_search.specs.inside.Growing.{Grown, Stands, bound_in}
use Rattle.branch_search.proofs.Depth.{HasRoom, depth-grown, levels-replicate}
use Rattle.branch_search.proofs.Sides.{IsIn-at, edges_into-rise}
use Rattle.branch_search.proofs.TreeSteps.{edge-is}

-- the product of two numbers that add up to at most 512
low-product : (a more b : ℕ) → a + more ≡ 256 → b ≤ a + 2 * more → a * b ≤ 65536
low-product a more b is low =
    let most = mul-le a b a (a + 2 * more) (omega arith) low in
    let square : (a + more) * (a + more) ≡ 65536 = ap (λ n. n * n) is in
    let one = add-mul a more (a + more) in
    let two = mul-add a a more in
    let three = mul-add more a more in
    let four = mul-add a a (2 * more) in
    let five : a * (2 * more) ≡ a * more + a * more = twice a more in
    let six : more * a ≡ a * more = mul_comm more a in
    omega (arith, most, square, one, two, three, four, five, six)
  where
    twice : (n m : ℕ) → n * (2 * m) ≡ n * m + n * m
    twice n m = ap (λ k. n * k) (double m) ∙ mul-add n m m
      where
        double : (k : ℕ) → 2 * k ≡ k + k
        double k = omega arith

pub product-few : (a b : ℕ) → a + b ≤ 512 → a * b ≤ 65536
product-few a b few = choose (cases_lt a 257)
  where
    choose : (a < 257) ⊎ (257 ≤ a) → a * b ≤ 65536
    choose (inl low) = low-product a (256 - a) b (omega (arith, low)) (omega (arith, few, low))
    choose (inr high) =
        let turned = low-product b (256 - b) a (omega (arith, few, high)) (omega (arith, few, high)) in
        let same = mul_comm a b in
        omega (arith, turned, same)

module _ (graph : Graph) (is : IsGraph graph) (allowed : List Bool) (colour : ℕ)
    (some : 0 < length (edges_into graph allowed colour))
  where
    abbrev edge-no : ℕ → ℕ
    edge-no place = get_or (edges_into graph allowed colour) place 0

    abbrev long : ℕ
    long = length (edges_into graph allowed colour)

    into-at : (place : ℕ) → place < long → IsInto graph allowed colour (edge-no place)
    into-at place low =
        edges_into-in graph allowed colour (edge-no place) (IsIn-at (edges_into graph allowed colour) place 0 low)

    before-next : (place : ℕ) → place + 1 < long → edge-no place < edge-no (place + 1)
    before-next place low = edges_into-rise graph allowed colour place (place + 1) 0 (omega arith) low

    first-le : (place : ℕ) → place < long → edge-no 0 ≤ edge-no place
    first-le zero low = omega arith
    first-le (suc place) low =
        let before = edges_into-rise graph allowed colour 0 (suc place) 0 (omega arith) low in omega (arith, before)

    -- the least head
    abbrev least : ℕ
    least = (edge_at graph (edge-no 0)).head

    abbrev rank : ℕ → ℕ
    rank place = ((edge_at graph (edge-no place)).head - least) * least + (edge_at graph (edge-no place)).tail

    tail-low : (place : ℕ) → place < long → (edge_at graph (edge-no place)).tail < least
    tail-low place low = choose (cases_lt (edge_at graph (edge-no place)).tail least)
      where
        choose : ((edge_at graph (edge-no place)).tail < least) ⊎ (least ≤ (edge_at graph (edge-no place)).tail)
            → (edge_at graph (edge-no place)).tail < least
        choose (inl less) = less
        choose (inr more) =
            let edge = edge-is graph (edge-no place) is (into-at place low).within in
            let rise : colour_of graph least ≤ colour_of graph (edge_at graph (edge-no place)).tail =
            colours-rise graph is.colours least (edge_at graph (edge-no place)).tail more edge.tail in
            let up : colour_of graph (edge_at graph (edge-no place)).tail < head_colour graph (edge-no place) =
            edge.rising in
            let one : head_colour graph (edge-no 0) ≡ colour = (into-at 0 some).there in
            let other : head_colour graph (edge-no place) ≡ colour = (into-at place low).there in
            absurd (omega (arith, rise, up, one, other))

    head-high : (place : ℕ) → place < long → least ≤ (edge_at graph (edge-no place)).head
    head-high place low = choose (cases_lt (edge-no 0) (edge-no place))
      where
        choose : (edge-no 0 < edge-no place) ⊎ (edge-no place ≤ edge-no 0)
            → least ≤ (edge_at graph (edge-no place)).head
        choose (inl before) =
            (is.in_order (edge-no 0) (edge-no place) (record { tail = 0; head = 0; weight = pos 0 }) before
            (into-at place low).within).heads
        choose (inr not_before) =
            let from = first-le place low in
            let same : edge-no place ≡ edge-no 0 = omega (arith, from, not_before) in
            subst (λ (p : ℕ). least ≤ (edge_at graph p).head) (sym same) (omega arith)

    rises : (a b c d : ℕ) → a < c → b < least → a * least + b < c * least + d
    rises a b c d less low =
        let most = mul-le (a + 1) least c least (omega (arith, less)) (omega arith) in
        let parts = add-mul a 1 least in
        omega (arith, most, parts, low)

    rank-rises : (place : ℕ) → place + 1 < long → rank place < rank (place + 1)
    rank-rises place low =
        choose (cases_eq (edge_at graph (edge-no place)).head (edge_at graph (edge-no (place + 1))).head)
      where
        order : StandsBefore (edge_at graph (edge-no place)) (edge_at graph (edge-no (place + 1)))
        order = is.in_order (edge-no place) (edge-no (place + 1)) (record { tail = 0; head = 0; weight = pos 0 })
            (before-next place low) (into-at (place + 1) low).within

        high : least ≤ (edge_at graph (edge-no place)).head
        high = head-high place (omega (arith, low))

        choose : ((edge_at graph (edge-no place)).head ≡ (edge_at graph (edge-no (place + 1))).head)
            ⊎ ((edge_at graph (edge-no place)).head ≡ (edge_at graph (edge-no (place + 1))).head → ⊥)
            → rank place < rank (place + 1)
        choose (inl same) =
            let tails = order.tails same in
            let heads = ap (λ h. (h - least) * least) same in
            omega (arith, tails, heads)
        choose (inr apart) =
            let heads = order.heads in
            rises ((edge_at graph (edge-no place)).head - least) (edge_at graph (edge-no place)).tail
            ((edge_at graph (edge-no (place + 1))).head - least) (edge_at graph (edge-no (place + 1))).tail
            (omega (arith, heads, apart, high)) (tail-low place (omega (arith, low)))

    place-le : (place : ℕ) → place < long → place ≤ rank place
    place-le zero low = omega arith
    place-le (suc place) low =
        let before = place-le place (omega (arith, low)) in
        let up = rank-rises place (omega (arith, low)) in
        let same = ap rank (next place) in
        omega (arith, before, up, same)
      where
        next : (n : ℕ) → n + 1 ≡ suc n
        next n = omega arith

    row-few : length graph.colours ≤ greatest_graph → long ≤ 65536
    row-few few = choose (cases_lt 65536 long)
      where
        choose : (65536 < long) ⊎ (long ≤ 65536) → long ≤ 65536
        choose (inr low) = low
        choose (inl many) =
            let edge = edge-is graph (edge-no 65536) is (into-at 65536 many).within in
            let tail = tail-low 65536 many in
            let high = head-high 65536 many in
            let head = edge.head in
            let low = place-le 65536 many in
            let d : ℕ = (edge_at graph (edge-no 65536)).head - least in
            let most = product-few (d + 1) least (omega (arith, high, head, few)) in
            let parts = add-mul d 1 least in
            absurd (omega (arith, low, tail, most, parts))

pub into-few : (graph : Graph) (allowed : List Bool) (colour : ℕ) → IsGraph graph
    → length graph.colours ≤ greatest_graph → length (edges_into graph allowed colour) ≤ 65536
into-few graph allowed colour is few = choose (cases_lt 0 (length (edges_into graph allowed colour)))
  where
    choose : (0 < length (edges_into graph allowed colour)) ⊎ (length (edges_into graph allowed colour) ≤ 0)
        → length (edges_into graph allowed colour) ≤ 65536
    choose (inl some) = row-few graph is allowed colour some few
    choose (inr none) = omega (arith, none)

-- sixteen halvings are enough for each colour
pub HasRoom-all : (graph : Graph) (allowed : List Bool) → IsGraph graph → length graph.colours ≤ greatest_graph
    → HasRoom graph allowed (replicate (colour_count graph) 16)
HasRoom-all graph allowed is few = record {
  count = length-replicate (colour_count graph) 16;
  each = λ colour some counted. subst (λ (n : ℕ). length (edges_into graph allowed colour) ≤ 2 ^ n)
      (sym (get_or-replicate (colour_count graph) (colour - 1) 16 0 (omega (arith, some, counted))))
      (into-few graph allowed colour is few);
}

pub depth-few : (graph : Graph) (allowed : List Bool) (score upper : ℤ) (node : Grown) → IsGraph graph
    → length graph.colours ≤ greatest_graph → colour_count graph ≤ 64 → Stands graph allowed score upper node
    → depth_of (bound_in node) ≤ 1024
depth-few graph allowed score upper node is few counted stands =
    let deep = depth-grown graph allowed score upper node (replicate (colour_count graph) 16) stands
    (HasRoom-all graph allowed is few) in
    let all = levels-replicate (colour_count graph) 16 in
    omega (arith, deep, all, counted)
