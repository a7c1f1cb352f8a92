-- Of BoundHolds and enough_splits: a bound that holds on a set has fewer splits than the product of how many of the
-- set's edges go to each colour.
use Rattle.std.proofs.Common.{◌≡◌, inl, inr, ◌<◌, ◌≤◌, ◌+◌, ◌-◌, ℕ, ℤ, Bool, List, [], ◌∷◌, length}
use Rattle.std.proofs.Common.{map, max, sym, arith}
use Rattle.std.proofs.lemmas.Nat.{mul-le}
use Rattle.std.proofs.Math.Nat.{add-mul, mul-add}
use Rattle.colour_graph.specs.EdgeSet.{all_edges, colours_of, edges_into, leaving, only}
use Rattle.colour_graph.specs.Graph.{Graph, colour_count}
use Rattle.tree_certificate.specs.BoundHolds.{BoundHolds, IsSplit, splits_of}
use Rattle.tree_certificate.specs.BoundValue.{BoundValue, priced, split}
use Rattle.tree_certificate.proofs.Members.{IsIn-range}
use Rattle.tree_certificate.proofs.Sums.{IsIn}
use Rattle.branch_search.specs.Room.{enough_splits, product}
use Rattle.branch_search.proofs.Sides.{edges_into-less, sides-count, split-only}
use Rattle.branch_search.proofs.Smaller.{leaving-smaller, only-smaller}

abbrev pub product_of : (ℕ → ℕ) → List ℕ → ℕ
product_of f xs = product (map f xs)

product-some : (f : ℕ → ℕ) (xs : List ℕ) → ((x : ℕ) → 1 ≤ f x) → 1 ≤ product_of f xs
product-some f [] each = omega arith
product-some f (x ∷ xs) each = mul-le 1 1 (f x) (product_of f xs) (each x) (product-some f xs each)

product-le : (f g : ℕ → ℕ) (xs : List ℕ) → ((x : ℕ) → g x ≤ f x) → product_of g xs ≤ product_of f xs
product-le f g [] each = omega arith
product-le f g (x ∷ xs) each =
    mul-le (g x) (product_of g xs) (f x) (product_of f xs) (each x) (product-le f g xs each)

-- Two products are at most one, where at one place two factors are.
products-le : (f g h : ℕ → ℕ) (one : ℕ) (xs : List ℕ) → IsIn one xs → ((x : ℕ) → g x ≤ f x) → ((x : ℕ) → h x ≤ f x)
    → g one + h one ≤ f one → product_of g xs + product_of h xs ≤ product_of f xs
products-le f g h one [] is_in first second both = absurd is_in
products-le f g h one (x ∷ xs) (inl is) first second both =
    let here : g x + h x ≤ f x = rw (sym is) both in
    let left = mul-le (g x) (product_of g xs) (g x) (product_of f xs) (omega arith) (product-le f g xs first) in
    let right = mul-le (h x) (product_of h xs) (h x) (product_of f xs) (omega arith) (product-le f h xs second) in
    let whole = mul-le (g x + h x) (product_of f xs) (f x) (product_of f xs) here (omega arith) in
    let parts = add-mul (g x) (h x) (product_of f xs) in
    omega (arith, left, right, whole, parts)
products-le f g h one (x ∷ xs) (inr later) first second both =
    let rest = products-le f g h one xs later first second both in
    let left = mul-le (g x) (product_of g xs) (f x) (product_of g xs) (first x) (omega arith) in
    let right = mul-le (h x) (product_of h xs) (f x) (product_of h xs) (second x) (omega arith) in
    let whole = mul-le (f x) (product_of g xs + product_of h xs) (f x) (product_of f xs) (omega arith) rest in
    let parts = mul-add (f x) (product_of g xs) (product_of h xs) in
    omega (arith, left, right, whole, parts)

-- how many edges of a set go to a colour, or 1
abbrev pub choices : Graph → List Bool → ℕ → ℕ
choices graph allowed colour = max 1 (length (edges_into graph allowed colour))

max-one : (n : ℕ) → 1 ≤ max 1 n
max-one n = omega arith

max-le : (n m : ℕ) → n ≤ m → max 1 n ≤ max 1 m
max-le n m low = omega arith

max-both : (a b n : ℕ) → a + b ≡ n → 0 < a → 0 < b → max 1 a + max 1 b ≤ max 1 n
max-both a b n is one other = omega arith

pub splits-few : (graph : Graph) (allowed : List Bool) (bound : BoundValue) (upper : ℤ)
    → BoundHolds graph allowed bound upper
    → splits_of bound + 1 ≤ product_of (choices graph allowed) (colours_of graph)
splits-few graph allowed (priced cert) upper holds =
    product-some (choices graph allowed) (colours_of graph)
    (λ colour. max-one (length (edges_into graph allowed colour)))
splits-few graph allowed (split colour part first second) upper holds =
    let one = splits-few graph (only graph allowed colour part) first upper holds.1 in
    let other = splits-few graph (leaving allowed part) second upper holds.2 in
    let sides = products-le (choices graph allowed) (choices graph (only graph allowed colour part))
    (choices graph (leaving allowed part)) colour (colours_of graph) among
    (λ c. max-le (length (edges_into graph (only graph allowed colour part) c)) (length (edges_into graph allowed c))
    (edges_into-less graph allowed (only graph allowed colour part) c (only-smaller graph allowed colour part)))
    (λ c. max-le (length (edges_into graph (leaving allowed part) c)) (length (edges_into graph allowed c))
    (edges_into-less graph allowed (leaving allowed part) c (leaving-smaller allowed part))) counts in
    omega (arith, one, other, sides)
  where
    is : IsSplit graph allowed colour part
    is = holds.0

    among : IsIn colour (colours_of graph)
    among =
        IsIn-range 1 (colour - 1) (colour_count graph) colour (omega (arith, is.among.0, is.among.1))
        (omega (arith, is.among.0))

    counts : choices graph (only graph allowed colour part) colour + choices graph (leaving allowed part) colour
        ≤ choices graph allowed colour
    counts =
        let named = split-only graph allowed colour part is in
        let whole = sides-count graph allowed colour part in
        max-both (length (edges_into graph (only graph allowed colour part) colour))
        (length (edges_into graph (leaving allowed part) colour)) (length (edges_into graph allowed colour)) whole
        (omega (arith, named, is.some)) (omega (arith, named, whole, is.proper))

pub enough : (graph : Graph) (bound : BoundValue) (upper : ℤ) → BoundHolds graph (all_edges graph) bound upper
    → splits_of bound < enough_splits graph
enough graph bound upper holds = let few = splits-few graph (all_edges graph) bound upper holds in omega (arith, few)
