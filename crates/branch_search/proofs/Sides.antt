-- Of IsSplit: how many edges go to a colour on the two sides of a split.
use Rattle.std.proofs.Common.{◌≡◌, ◌≢◌, ◌⊎◌, inl, inr, ◌<◌, ◌≤◌, ◌+◌, ℕ, zero, suc, Bool, true, false, not, ◌&&◌, ◌||◌}
use Rattle.std.proofs.Common.{cond, eqb, List, [], ◌∷◌, length, filter, get_or, ap, sym, subst, refl, ◌∙◌, arith}
use Rattle.std.proofs.lemmas.Bool.{and_parts, cases_Bool, cases_eq, eq-eqb, false≢true}
use Rattle.std.proofs.lemmas.Bool.{ne_eqb}
use Rattle.std.proofs.lemmas.List.FromFn.{get_or-range_with_len, length-range_with_len}
use Rattle.std.proofs.lemmas.List.Kept.{AllPairs-filter}
use Rattle.std.specs.List.{All, AllPairs, Contains, range_with_len}
use Rattle.colour_graph.specs.EdgeSet.{IsSetOf, edges_into, is_allowed, is_named, leaving, only}
use Rattle.colour_graph.specs.Graph.{Graph, head_colour}
use Rattle.colour_graph.proofs.Sets.{is_allowed-keeping}
use Rattle.tree_certificate.specs.BoundHolds.{IsSplit}
use Rattle.tree_certificate.proofs.Members.{All-at}
use Rattle.tree_certificate.proofs.Sums.{IsIn}
use Rattle.price_bound.proofs.Edges.{edges_into-in}
use Rattle.branch_search.proofs.Pushing.{place-in}
use Rattle.branch_search.proofs.Smaller.{IsSmaller}

-- a list is no longer where fewer pass
one_less : (a b : Bool) (m n : ℕ) (x : ℕ) (xs ys : List ℕ) → (a ≡ true → b ≡ true) → length xs ≤ length ys
    → length (cond a (x ∷ xs) xs) ≤ length (cond b (x ∷ ys) ys)
one_less true true m n x xs ys goes low = omega (arith, low)
one_less true false m n x xs ys goes low = absurd (false≢true (goes refl))
one_less false true m n x xs ys goes low = omega (arith, low)
one_less false false m n x xs ys goes low = low

pub filter-less : (p q : ℕ → Bool) (xs : List ℕ) → ((x : ℕ) → p x ≡ true → q x ≡ true)
    → length (filter p xs) ≤ length (filter q xs)
filter-less p q [] goes = omega arith
filter-less p q (x ∷ xs) goes =
    one_less (p x) (q x) 0 0 x (filter p xs) (filter q xs) (goes x) (filter-less p q xs goes)

pub edges_into-less : (graph : Graph) (allowed smaller : List Bool) (colour : ℕ) → IsSmaller smaller allowed
    → length (edges_into graph smaller colour) ≤ length (edges_into graph allowed colour)
edges_into-less graph allowed smaller colour less =
    filter-less (λ e. is_allowed smaller e && eqb (head_colour graph e) colour)
    (λ e. is_allowed allowed e && eqb (head_colour graph e) colour) (range_with_len 0 (length graph.edges)) goes
  where
    goes : (e : ℕ) → (is_allowed smaller e && eqb (head_colour graph e) colour) ≡ true
        → (is_allowed allowed e && eqb (head_colour graph e) colour) ≡ true
    goes e both =
        let parts = and_parts (is_allowed smaller e) (eqb (head_colour graph e) colour) both in
        rw (less e parts.0, parts.1) refl

-- What passes a further test and what does not are as many as what passes.
pub filter-parts : (p a b t : ℕ → Bool) (xs : List ℕ) → ((x : ℕ) → a x ≡ (p x && t x))
    → ((x : ℕ) → b x ≡ (p x && not (t x)))
    → length (filter a xs) + length (filter b xs) ≡ length (filter p xs)
filter-parts p a b t [] one other = refl
filter-parts p a b t (x ∷ xs) one other =
    rw (one x, other x) (choose (p x) (t x) (filter a xs) (filter b xs) (filter p xs)
    (filter-parts p a b t xs one other))
  where
    choose : (u v : Bool) (one' bs ps : List ℕ) → length one' + length bs ≡ length ps
        → length (cond (u && v) (x ∷ one') one') + length (cond (u && not v) (x ∷ bs) bs) ≡ length (cond u (x ∷ ps) ps)
    choose true true one' bs ps is = omega (arith, is)
    choose true false one' bs ps is = omega (arith, is)
    choose false v one' bs ps is = is

only-bits : (a h n : Bool) → ((a && (not h || n)) && h) ≡ ((a && h) && n)
only-bits true true true = refl
only-bits true true false = refl
only-bits true false n = refl
only-bits false h n = refl

leaving-bits : (a h n : Bool) → ((a && not n) && h) ≡ ((a && h) && not n)
leaving-bits true true true = refl
leaving-bits true true false = refl
leaving-bits true false true = refl
leaving-bits true false false = refl
leaving-bits false h n = refl

only-row : (graph : Graph) (allowed : List Bool) (colour : ℕ) (part : List ℕ) (e : ℕ)
    → (is_allowed (only graph allowed colour part) e && eqb (head_colour graph e) colour)
    ≡ ((is_allowed allowed e && eqb (head_colour graph e) colour) && is_named part e)
only-row graph allowed colour part e =
    ap (λ a. a && eqb (head_colour graph e) colour)
    (is_allowed-keeping (λ f. not (eqb (head_colour graph f) colour) || is_named part f) allowed e)
    ∙ only-bits (is_allowed allowed e) (eqb (head_colour graph e) colour) (is_named part e)

leaving-row : (graph : Graph) (allowed : List Bool) (colour : ℕ) (part : List ℕ) (e : ℕ)
    → (is_allowed (leaving allowed part) e && eqb (head_colour graph e) colour)
    ≡ ((is_allowed allowed e && eqb (head_colour graph e) colour) && not (is_named part e))
leaving-row graph allowed colour part e =
    ap (λ a. a && eqb (head_colour graph e) colour) (is_allowed-keeping (λ f. not (is_named part f)) allowed e)
    ∙ leaving-bits (is_allowed allowed e) (eqb (head_colour graph e) colour) (is_named part e)

pub sides-count : (graph : Graph) (allowed : List Bool) (colour : ℕ) (part : List ℕ)
    → length (edges_into graph (only graph allowed colour part) colour)
    + length (edges_into graph (leaving allowed part) colour) ≡ length (edges_into graph allowed colour)
sides-count graph allowed colour part =
    filter-parts (λ e. is_allowed allowed e && eqb (head_colour graph e) colour)
    (λ e. is_allowed (only graph allowed colour part) e && eqb (head_colour graph e) colour)
    (λ e. is_allowed (leaving allowed part) e && eqb (head_colour graph e) colour) (is_named part)
    (range_with_len 0 (length graph.edges)) (only-row graph allowed colour part) (leaving-row graph allowed colour part)

-- lists in rising order, by their members
abbrev Rises : List ℕ → Type 0
Rises [] = Unit {0}
Rises (x ∷ xs) = ((y : ℕ) → IsIn y xs → x < y) × Rises xs

Rises-from : (xs : List ℕ) → AllPairs (λ first later. first < later) xs → Rises xs
Rises-from [] pairs = tt
Rises-from (x ∷ xs) pairs =
    (first, Rises-from xs (λ i j d before within. pairs (suc i) (suc j) d (omega arith) (omega arith)))
  where
    first : (y : ℕ) → IsIn y xs → x < y
    first y is_in = found (place-in y xs is_in)
      where
        found : (place : ℕ) × (place < length xs) × (get_or xs place y ≡ y) → x < y
        found (place, within, is) =
            subst (λ (z : ℕ). x < z) is (pairs 0 (suc place) y (omega arith) (omega (arith, within)))

pub IsIn-at : (xs : List ℕ) (place d : ℕ) → place < length xs → IsIn (get_or xs place d) xs
IsIn-at [] place d within = absurd (omega arith)
IsIn-at (x ∷ xs) zero d within = inl refl
IsIn-at (x ∷ xs) (suc place) d within = inr (IsIn-at xs place d (omega arith))

IsIn-contained : (x : ℕ) (xs : List ℕ) → Contains xs x → IsIn x xs
IsIn-contained x xs (place, within, is) = subst (λ (y : ℕ). IsIn y xs) is (IsIn-at xs place x within)

filter-same : (p q : ℕ → Bool) (xs : List ℕ) → ((x : ℕ) → IsIn x xs → p x ≡ q x) → filter p xs ≡ filter q xs
filter-same p q [] same = refl
filter-same p q (x ∷ xs) same =
    rw (same x (inl refl), filter-same p q xs (λ y within. same y (inr within))) refl

named-not : (part : List ℕ) (x : ℕ) → ((y : ℕ) → IsIn y part → y ≢ x) → is_named part x ≡ false
named-not [] x apart = refl
named-not (p ∷ part) x apart =
    rw (ne_eqb p x (apart p (inl refl)), named-not part x (λ y within. apart y (inr within))) refl

-- a list in rising order names as many of another such list that has them as it has elements
named-count : (xs part : List ℕ) → Rises xs → Rises part → ((q : ℕ) → IsIn q part → IsIn q xs)
    → length (filter (is_named part) xs) ≡ length part
named-count [] [] rises others members = refl
named-count [] (p ∷ part) rises others members = absurd (members p (inl refl))
named-count (x ∷ xs) [] rises others members = named-count xs [] rises.1 tt (λ q within. absurd within)
named-count (x ∷ xs) (p ∷ part) rises others members =
    choose (λ within. named-count xs part rises.1 others.1 within)
    (λ within. named-count xs (p ∷ part) rises.1 others within) (cases_eq p x)
  where
    choose : (((q : ℕ) → IsIn q part → IsIn q xs) → length (filter (is_named part) xs) ≡ length part)
        → (((q : ℕ) → IsIn q (p ∷ part) → IsIn q xs) → length (filter (is_named (p ∷ part)) xs) ≡ suc (length part))
        → (p ≡ x) ⊎ (p ≡ x → ⊥) → length (filter (is_named (p ∷ part)) (x ∷ xs)) ≡ suc (length part)
    choose taken left (inl is) =
        ap (λ b. length (cond b (x ∷ filter (is_named (p ∷ part)) xs) (filter (is_named (p ∷ part)) xs))) named
        ∙ ap (λ n. suc n) (ap (λ ys. length ys) (filter-same (is_named (p ∷ part)) (is_named part) xs not_first)
        ∙ taken later)
      where
        named : is_named (p ∷ part) x ≡ true
        named = ap (λ b. b || is_named part x) (eq-eqb p x is)

        not_first : (y : ℕ) → IsIn y xs → is_named (p ∷ part) y ≡ is_named part y
        not_first y within =
            let less : x < y = rises.0 y within in
            ap (λ b. b || is_named part y) (ne_eqb p y (λ same. absurd (omega (arith, less, is, same))))

        later : (q : ℕ) → IsIn q part → IsIn q xs
        later q within = pick (members q (inr within))
          where
            pick : (q ≡ x) ⊎ IsIn q xs → IsIn q xs
            pick (inl same) = let less : p < q = others.0 q within in absurd (omega (arith, less, is, same))
            pick (inr there) = there
    choose taken left (inr apart) =
        ap (λ b. length (cond b (x ∷ filter (is_named (p ∷ part)) xs) (filter (is_named (p ∷ part)) xs))) named
        ∙ left later
      where
        less : x < p
        less = start (members p (inl refl))
          where
            start : (p ≡ x) ⊎ IsIn p xs → x < p
            start (inl same) = absurd (apart same)
            start (inr there) = rises.0 p there

        later : (q : ℕ) → IsIn q (p ∷ part) → IsIn q xs
        later q within = pick (members q within) within
          where
            pick : (q ≡ x) ⊎ IsIn q xs → IsIn q (p ∷ part) → IsIn q xs
            pick (inr there) w = there
            pick (inl same) (inl first) = absurd (apart (sym first ∙ same))
            pick (inl same) (inr rest) =
                let more : p < q = others.0 q rest in absurd (omega (arith, more, same, less))

        named : is_named (p ∷ part) x ≡ false
        named = named-not (p ∷ part) x differ
          where
            differ : (y : ℕ) → IsIn y (p ∷ part) → y ≢ x
            differ y (inl first) same = absurd (apart (sym first ∙ same))
            differ y (inr rest) same =
                let more : p < y = others.0 y rest in absurd (omega (arith, more, same, less))

filter-filter : (p t a : ℕ → Bool) (xs : List ℕ) → ((x : ℕ) → a x ≡ (p x && t x))
    → filter a xs ≡ filter t (filter p xs)
filter-filter p t a [] same = refl
filter-filter p t a (x ∷ xs) same = rw (same x) (choose (filter-filter p t a xs same) (cases_Bool (p x)))
  where
    choose : filter a xs ≡ filter t (filter p xs) → (p x ≡ true) ⊎ (p x ≡ false)
        → cond (p x && t x) (x ∷ filter a xs) (filter a xs) ≡ filter t (cond (p x) (x ∷ filter p xs) (filter p xs))
    choose rest (inl passes) = rw passes (ap (λ ys. cond (t x) (x ∷ ys) ys) rest)
    choose rest (inr fails) = rw fails rest

range-rises : (from count : ℕ) → AllPairs (λ first later. first < later) (range_with_len from count)
range-rises from count i j d before within =
    let few : j < count = omega (arith, within, length-range_with_len from count) in
    rises (get_or (range_with_len from count) i d) (get_or (range_with_len from count) j d)
    (get_or-range_with_len from count i d (omega (arith, few, before))) (get_or-range_with_len from count j d few)
  where
    rises : (a b : ℕ) → a ≡ from + i → b ≡ from + j → a < b
    rises a b one other = omega arith

-- the edges of a set into a colour stand in rising order
pub edges_into-rise : (graph : Graph) (allowed : List Bool) (colour : ℕ)
    → AllPairs (λ first later. first < later) (edges_into graph allowed colour)
edges_into-rise graph allowed colour =
    AllPairs-filter (λ first later. first < later) (λ e. is_allowed allowed e && eqb (head_colour graph e) colour)
    (range_with_len 0 (length graph.edges)) (range-rises 0 (length graph.edges))

-- the first side of a split has as many edges into its colour as the part names
pub split-only : (graph : Graph) (allowed : List Bool) (colour : ℕ) (part : List ℕ)
    → IsSplit graph allowed colour part
    → length (edges_into graph (only graph allowed colour part) colour) ≡ length part
split-only graph allowed colour part is =
    ap (λ (xs : List ℕ). length xs)
    (filter-filter (λ e. is_allowed allowed e && eqb (head_colour graph e) colour) (is_named part)
    (λ e. is_allowed (only graph allowed colour part) e && eqb (head_colour graph e) colour)
    (range_with_len 0 (length graph.edges)) (only-row graph allowed colour part))
    ∙ named-count (edges_into graph allowed colour) part
    (Rises-from (edges_into graph allowed colour) (edges_into-rise graph allowed colour))
    (Rises-from part is.rising)
    (λ q within. IsIn-contained q (edges_into graph allowed colour)
    (All-at (Contains (edges_into graph allowed colour)) q part is.members within))

-- the part of a split names edges of the graph
pub split-in_range : (graph : Graph) (allowed : List Bool) (colour : ℕ) (part : List ℕ)
    → IsSplit graph allowed colour part → IsSetOf graph allowed → All (λ edge. edge < length allowed) part
split-in_range graph allowed colour part is set k d within =
    let into = edges_into-in graph allowed colour (get_or part k d)
    (IsIn-contained (get_or part k d) (edges_into graph allowed colour) (is.members k d within)) in
    omega (arith, into.within, set)
