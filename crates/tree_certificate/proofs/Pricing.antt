-- Prices of colours bound the scores of all colourful lists of edges. A vertex has a gain for each colour, and a
-- potential
-- that is at least what it gains in all. Each edge is paid by the price of the colour that it goes to and the gain of
-- its
-- tail, of which the potential of its head is left.
use Rattle.std.proofs.Common.{◌≡◌, ◌+◌, ◌-◌, ◌<◌, ℕ, zero, suc, ℤ, pos, ◌+ℤ◌, ◌≤ℤ◌, Bool, true, false, cond, IsTrue}
use Rattle.std.proofs.Common.{List, [], ◌∷◌, length, replicate, ap, ap₂, sym, refl, subst, ◌∙◌, arith}
use Rattle.std.proofs.lemmas.Bool.{false≢true}
use Rattle.std.proofs.lemmas.Int.{ints}
use Rattle.std.proofs.lemmas.List.{length-replicate}
use Rattle.std.proofs.lemmas.List.Elements.{length_all_zip}
use Rattle.std.specs.List.{range_with_len}
use Rattle.colour_graph.specs.declared.edge.Edge.{Edge}
use Rattle.colour_graph.specs.Bounded.{IsBounded}
use Rattle.colour_graph.specs.EdgeSet.{colours_of}
use Rattle.colour_graph.specs.Graph.{Graph, IsGraph, colour_count, colour_of}
use Rattle.tree_certificate.specs.ColourSet.{IsPartOf, without}
use Rattle.tree_certificate.proofs.Bounding.{Bounds, colour_into}
use Rattle.tree_certificate.proofs.Sums.{sum_of}
use Rattle.tree_certificate.proofs.Trees.{IsOpenEdge, bounded_by}

-- what the colours of a set add up to, from the set's first colour on
abbrev pub amount : (ℕ → ℤ) → ℕ → List Bool → ℤ
amount each colour [] = pos 0
amount each colour (here ∷ set) = cond here (each colour) (pos 0) +ℤ amount each (colour + 1) set

-- sums of a few numbers
both_sums : (a b c d : ℤ) → (a +ℤ b) +ℤ (c +ℤ d) ≡ (a +ℤ c) +ℤ (b +ℤ d)
both_sums a b c d = omega (arith, ints)

front_more : (a b : ℤ) → pos 0 ≤ℤ a → b ≤ℤ (a +ℤ b)
front_more a b low = omega (arith, ints)

added : (a b c d : ℤ) → a ≤ℤ b → c ≤ℤ d → (a +ℤ c) ≤ℤ (b +ℤ d)
added a b c d one other = omega (arith, ints)

zero_and : (a b : ℤ) → pos 0 ≤ℤ a → pos 0 ≤ℤ b → pos 0 ≤ℤ (a +ℤ b)
zero_and a b one other = omega (arith, ints)

amount-sum : (f g : ℕ → ℤ) (colour : ℕ) (set : List Bool) → amount (λ c. f c +ℤ g c) colour set ≡ amount f colour set +ℤ
    amount g colour set
amount-sum f g colour [] = refl
amount-sum f g colour (true ∷ set) =
    ap (λ rest. (f colour +ℤ g colour) +ℤ rest) (amount-sum f g (colour + 1) set)
    ∙ both_sums (f colour) (g colour) (amount f (colour + 1) set) (amount g (colour + 1) set)
amount-sum f g colour (false ∷ set) =
    ap (λ rest. pos 0 +ℤ rest) (amount-sum f g (colour + 1) set)
    ∙ both_sums (pos 0) (pos 0) (amount f (colour + 1) set) (amount g (colour + 1) set)

-- All colours of a row add up to the row's total.
amount-all : (f : ℕ → ℤ) (colour count : ℕ) → amount f colour (replicate count true) ≡ sum_of f
    (range_with_len colour count)
amount-all f colour zero = refl
amount-all f colour (suc count) = ap (λ rest. f colour +ℤ rest) (amount-all f (colour + 1) count)

-- Fewer colours add up to no more.
amount-le : (f : ℕ → ℤ) → ((colour : ℕ) → pos 0 ≤ℤ f colour) → (colour : ℕ) (set : List Bool)
    → amount f colour set ≤ℤ sum_of f (range_with_len colour (length set))
amount-le f low colour [] = omega (arith, ints)
amount-le f low colour (true ∷ set) =
    added (f colour) (f colour) (amount f (colour + 1) set) (sum_of f (range_with_len (colour + 1) (length set)))
    (at_least (f colour)) (amount-le f low (colour + 1) set)
  where
    at_least : (n : ℤ) → n ≤ℤ n
    at_least n = omega (arith, ints)
amount-le f low colour (false ∷ set) =
    added (pos 0) (f colour) (amount f (colour + 1) set) (sum_of f (range_with_len (colour + 1) (length set)))
    (low colour) (amount-le f low (colour + 1) set)

trans : (a b c : ℤ) → a ≤ℤ b → b ≤ℤ c → a ≤ℤ c
trans a b c one other = omega (arith, ints)

-- So does a row that begins later.
sum_of-later : (f : ℕ → ℤ) → ((colour : ℕ) → pos 0 ≤ℤ f colour) → (skipped from first count whole : ℕ)
    → skipped + from ≡ first → skipped + count ≡ whole
    → sum_of f (range_with_len first count) ≤ℤ sum_of f (range_with_len from whole)
sum_of-later f low zero from first count whole starts ends =
    let front : from ≡ first = omega arith in
    let long : count ≡ whole = omega arith in
    subst (λ n. sum_of f (range_with_len first count) ≤ℤ sum_of f (range_with_len n whole)) (sym front)
    (subst (λ n. sum_of f (range_with_len first count) ≤ℤ sum_of f (range_with_len first n)) long
    (at_least (sum_of f (range_with_len first count))))
  where
    at_least : (n : ℤ) → n ≤ℤ n
    at_least n = omega (arith, ints)
sum_of-later f low (suc skipped) from first count zero starts ends = absurd (omega arith)
sum_of-later f low (suc skipped) from first count (suc whole) starts ends =
    trans (sum_of f (range_with_len first count)) (sum_of f (range_with_len (from + 1) whole))
    (f from +ℤ sum_of f (range_with_len (from + 1) whole))
    (sum_of-later f low skipped (from + 1) first count whole (omega arith) (omega arith))
    (front_more (f from) (sum_of f (range_with_len (from + 1) whole)) (low from))

-- What a part costs and what the rest costs and gains is within what the set costs and gains.
amount-part : (price gain : ℕ → ℤ) → ((colour : ℕ) → pos 0 ≤ℤ gain colour) → (colour : ℕ) (part set : List Bool)
    → IsPartOf part set
    → (amount price colour part +ℤ amount (λ c. price c +ℤ gain c) colour (without set part)) ≤ℤ amount
    (λ c. price c +ℤ gain c) colour set
amount-part price gain low colour [] [] is_part = omega (arith, ints)
amount-part price gain low colour [] (here ∷ set) is_part = absurd is_part
amount-part price gain low colour (taken ∷ part) [] is_part = absurd is_part
amount-part price gain low colour (true ∷ part) (true ∷ set) is_part =
    taken_here (price colour) (gain colour) (amount price (colour + 1) part)
    (amount (λ c. price c +ℤ gain c) (colour + 1) (without set part))
    (amount (λ c. price c +ℤ gain c) (colour + 1) set) (low colour)
    (amount-part price gain low (colour + 1) part set is_part.1)
  where
    taken_here : (p g a b c : ℤ) → pos 0 ≤ℤ g → (a +ℤ b) ≤ℤ c → ((p +ℤ a) +ℤ (pos 0 +ℤ b)) ≤ℤ ((p +ℤ g) +ℤ c)
    taken_here p g a b c low is = omega (arith, ints)
amount-part price gain low colour (true ∷ part) (false ∷ set) is_part = absurd (false≢true (is_part.0 refl))
amount-part price gain low colour (false ∷ part) (true ∷ set) is_part =
    left_here (price colour +ℤ gain colour) (amount price (colour + 1) part)
    (amount (λ c. price c +ℤ gain c) (colour + 1) (without set part))
    (amount (λ c. price c +ℤ gain c) (colour + 1) set)
    (amount-part price gain low (colour + 1) part set is_part.1)
  where
    left_here : (p a b c : ℤ) → (a +ℤ b) ≤ℤ c → ((pos 0 +ℤ a) +ℤ (p +ℤ b)) ≤ℤ (p +ℤ c)
    left_here p a b c is = omega (arith, ints)
amount-part price gain low colour (false ∷ part) (false ∷ set) is_part =
    none_here (amount price (colour + 1) part) (amount (λ c. price c +ℤ gain c) (colour + 1) (without set part))
    (amount (λ c. price c +ℤ gain c) (colour + 1) set)
    (amount-part price gain low (colour + 1) part set is_part.1)
  where
    none_here : (a b c : ℤ) → (a +ℤ b) ≤ℤ c → ((pos 0 +ℤ a) +ℤ (pos 0 +ℤ b)) ≤ℤ (pos 0 +ℤ c)
    none_here a b c is = omega (arith, ints)

-- Prices and potentials pay for all edges of a set.
pub record Pays (graph : Graph) (allowed : List Bool) (price : ℕ → ℤ) (gain : ℕ → ℕ → ℤ) (potential : ℕ → ℤ) : Type 0
  where
    pub price_low : (colour : ℕ) → pos 0 ≤ℤ price colour
    pub gain_low : (vertex colour : ℕ) → pos 0 ≤ℤ gain vertex colour
    pub gains : (vertex : ℕ) → vertex < length graph.colours
        → sum_of (gain vertex) (colours_of graph) ≤ℤ potential vertex
    pub edges : (edge : Edge) → IsOpenEdge graph allowed edge → (edge.weight +ℤ potential edge.head) ≤ℤ
        (price (colour_into graph edge) +ℤ gain edge.tail (colour_into graph edge))

length-without : (set part : List Bool) → IsPartOf part set → length (without set part) ≡ length set
length-without [] [] is_part = refl
length-without [] (taken ∷ part) is_part = absurd is_part
length-without (here ∷ set) [] is_part = absurd is_part
length-without (here ∷ set) (taken ∷ part) is_part = ap suc (length-without set part is_part.1)

module _ (graph : Graph) (allowed : List Bool) (price : ℕ → ℤ) (gain : ℕ → ℕ → ℤ) (potential : ℕ → ℤ)
    (pays : Pays graph allowed price gain potential) where
  -- what the prices and the vertex's gains of a set's colours add up to
  abbrev number : ℕ → List Bool → ℤ
  number vertex set = amount (λ colour. price colour +ℤ gain vertex colour) (suc (colour_count graph) - length set) set

  number-at : (vertex colour : ℕ) (set : List Bool) → colour + length set ≡ suc (colour_count graph)
      → number vertex set ≡ amount (λ c. price c +ℤ gain vertex c) colour set
  number-at vertex colour set is =
      ap (λ c. amount (λ at. price at +ℤ gain vertex at) c set)
      (first colour (length set) (suc (colour_count graph)) is)
    where
      first : (c size whole : ℕ) → c + size ≡ whole → whole - size ≡ c
      first c size whole is = omega arith

  worth_low : (vertex colour : ℕ) → pos 0 ≤ℤ (price colour +ℤ gain vertex colour)
  worth_low vertex colour =
      zero_and (price colour) (gain vertex colour) (pays.price_low colour) (pays.gain_low vertex colour)

  -- A head gains no more than its potential, whatever part it gets.
  part_gains : (head colour : ℕ) (part : List Bool) → head < length graph.colours
      → colour + length part ≡ colour_count graph → amount (gain head) (colour + 1) part ≤ℤ potential head
  part_gains head colour part within is =
      trans (amount (gain head) (colour + 1) part) (sum_of (gain head) (range_with_len (colour + 1) (length part)))
      (potential head) (amount-le (gain head) (pays.gain_low head) (colour + 1) part)
      (trans (sum_of (gain head) (range_with_len (colour + 1) (length part))) (sum_of (gain head) (colours_of graph))
      (potential head)
      (sum_of-later (gain head) (pays.gain_low head) colour 1 (colour + 1) (length part) (colour_count graph) refl is)
      (pays.gains head within))

  paid : (weight potential_of_head price_here gain_here price_part gain_part rest all : ℤ)
      → (weight +ℤ potential_of_head) ≤ℤ (price_here +ℤ gain_here) → gain_part ≤ℤ potential_of_head
      → (price_part +ℤ rest) ≤ℤ all → (weight +ℤ ((price_part +ℤ gain_part) +ℤ rest)) ≤ℤ
      ((price_here +ℤ gain_here) +ℤ all)
  paid weight potential_of_head price_here gain_here price_part gain_part rest all one two three = omega (arith, ints)

  Bounds-prices : IsGraph graph → Bounds graph (IsOpenEdge graph allowed) number
  Bounds-prices is = record { empty = λ vertex within. omega (arith, ints); grows = grows; takes = takes }
    where
      less : (number front rest : ℤ) → number ≡ rest → pos 0 ≤ℤ front → number ≤ℤ (front +ℤ rest)
      less number front rest is low = rw is (front_more front rest low)

      grows : (vertex : ℕ) (here : Bool) (set : List Bool) → vertex < length graph.colours
          → colour_of graph vertex + length set < colour_count graph → number vertex set ≤ℤ number vertex (here ∷ set)
      grows vertex here set within room =
          less (number vertex set) (cond here (price first +ℤ gain vertex first) (pos 0))
          (amount (λ c. price c +ℤ gain vertex c) (first + 1) set)
          (number-at vertex (first + 1) set (omega (arith, room))) (low here)
        where
          first : ℕ
          first = suc (colour_count graph) - suc (length set)

          low : (b : Bool) → pos 0 ≤ℤ cond b (price first +ℤ gain vertex first) (pos 0)
          low true = worth_low vertex first
          low false = omega (arith, ints)

      takes : (edge : Edge) (set part : List Bool) → IsOpenEdge graph allowed edge
          → colour_of graph edge.head + length set ≡ colour_count graph → IsPartOf part set
          → (edge.weight +ℤ (number edge.head part +ℤ number edge.tail (without set part))) ≤ℤ number edge.tail
          (true ∷ set)
      takes edge set part is_open next is_part =
          at_most edge.weight (number edge.head part) (amount price (colour + 1) part +ℤ amount (gain edge.head)
          (colour + 1) part) (number edge.tail (without set part))
          (amount (λ c. price c +ℤ gain edge.tail c) (colour + 1) (without set part)) (number edge.tail (true ∷ set))
          ((price colour +ℤ gain edge.tail colour) +ℤ amount (λ c. price c +ℤ gain edge.tail c) (colour + 1) set)
          (number-at edge.head (colour + 1) part (omega (arith, next, long))
          ∙ amount-sum price (gain edge.head) (colour + 1) part)
          (number-at edge.tail (colour + 1) (without set part) (omega (arith, next, length-without set part is_part)))
          (number-at edge.tail colour (true ∷ set) (omega (arith, next)))
          (paid edge.weight (potential edge.head) (price colour) (gain edge.tail colour)
          (amount price (colour + 1) part) (amount (gain edge.head) (colour + 1) part)
          (amount (λ c. price c +ℤ gain edge.tail c) (colour + 1) (without set part))
          (amount (λ c. price c +ℤ gain edge.tail c) (colour + 1) set) (pays.edges edge is_open)
          (part_gains edge.head colour part head_within (ap (λ n. colour + n) long ∙ next))
          (amount-part price (gain edge.tail) (pays.gain_low edge.tail) (colour + 1) part set is_part))
        where
          colour : ℕ
          colour = colour_into graph edge

          long : length part ≡ length set
          long = length_all_zip (λ taken here. IsTrue taken → IsTrue here) part set is_part

          head_within : edge.head < length graph.colours
          head_within =
              subst (λ (e : Edge). e.head < length graph.colours) is_open.at_place
              (is.edges is_open.place (record { tail = 0; head = 0; weight = pos 0 }) is_open.within).head

          at_most : (w a b c d e f : ℤ) → a ≡ b → c ≡ d → e ≡ f → (w +ℤ (b +ℤ d)) ≤ℤ f → (w +ℤ (a +ℤ c)) ≤ℤ e
          at_most w a b c d e f one two three most = rw (one, two, three) most

  pub prices_bound : (upper : ℤ) → IsGraph graph → (graph.root_score +ℤ
      (potential 0 +ℤ sum_of price (colours_of graph))) ≤ℤ upper → IsBounded graph allowed upper
  prices_bound upper is most =
      bounded_by graph allowed number upper is (Bounds-prices is)
      (at_most graph.root_score (number 0 (replicate (colour_count graph) true)) (sum_of price (colours_of graph))
      (sum_of (gain 0) (colours_of graph)) (potential 0) upper whole
      (pays.gains 0 is.colours.some) most)
    where
      whole : number 0 (replicate (colour_count graph) true)
          ≡ sum_of price (colours_of graph) +ℤ sum_of (gain 0) (colours_of graph)
      whole =
          number-at 0 1 (replicate (colour_count graph) true)
          (omega (arith, length-replicate {A = Bool} (colour_count graph) true))
          ∙ amount-sum price (gain 0) 1 (replicate (colour_count graph) true)
          ∙ ap₂ (λ a b. a +ℤ b) (amount-all price 1 (colour_count graph)) (amount-all (gain 0) 1 (colour_count graph))

      within : (root prices gains potential_of_root upper : ℤ) → gains ≤ℤ potential_of_root
          → (root +ℤ (potential_of_root +ℤ prices)) ≤ℤ upper → (root +ℤ (prices +ℤ gains)) ≤ℤ upper
      within root prices gains potential_of_root upper one other = omega (arith, ints)

      at_most : (root all prices gains potential_of_root upper : ℤ) → all ≡ prices +ℤ gains → gains ≤ℤ potential_of_root
          → (root +ℤ (potential_of_root +ℤ prices)) ≤ℤ upper → (root +ℤ all) ≤ℤ upper
      at_most root all prices gains potential_of_root upper same one other =
          rw same (within root prices gains potential_of_root upper one other)
