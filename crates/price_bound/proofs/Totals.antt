-- Of total: the sum of numbers of a certificate, one after another.
use Rattle.std.proofs.Common.{◌≡◌, ◌+◌, ◌-◌, ◌*◌, ◌<◌, ◌≤◌, ◌∙◌, ℕ, suc, ℤ, pos, negsuc, ◌+ℤ◌, ◌≤ℤ◌, true, List, [], ◌∷◌}
use Rattle.std.proofs.Common.{◌++◌, length, take, ap, arith, SFits, of_z, to_z, w64}
use Rattle.std.proofs.lemmas.Bool.{and_parts, leb-true}
use Rattle.std.proofs.lemmas.Int.{ints, to_z-of_z}
use Rattle.std.proofs.lemmas.List.{take_more}
use Rattle.std.proofs.lemmas.List.Sums.{AllPass-from_list_all}
use Rattle.std.specs.List.{list_all}
use Rattle.colour_graph.specs.Colourful.{total}
use Rattle.colour_graph.specs.Graph.{Graph, HasColours, IsScore, colour_count}
use Rattle.colour_graph.proofs.Order.{colour-le_vertex}
use Rattle.tree_certificate.specs.Number.{AreNear, greatest_number, is_near, number_in}

last_added : (n : ℤ) → n +ℤ pos 0 ≡ pos 0 +ℤ n
last_added n = omega (arith, ints)

regrouped : (a b c : ℤ) → a +ℤ (b +ℤ c) ≡ (a +ℤ b) +ℤ c
regrouped a b c = omega (arith, ints)

pub total-push : (ns : List ℤ) (n : ℤ) → total (ns ++ n ∷ []) ≡ total ns +ℤ n
total-push [] n = last_added n
total-push (first ∷ ns) n = ap (λ rest. first +ℤ rest) (total-push ns n) ∙ regrouped first (total ns) n

pub total-more : (ns : List ℤ) (count : ℕ) → count < length ns
    → total (take (count + 1) ns) ≡ total (take count ns) +ℤ number_in ns count
total-more ns count within = ap total (take_more ns count (pos 0) within)
    ∙ total-push (take count ns) (number_in ns count)

-- a number at most so far from 0 as a number of a certificate may be
pub record IsNear (number : ℤ) : Type 0 where
  pub not_below : negsuc 999999999999999 ≤ℤ number
  pub not_above : number ≤ℤ pos 1000000000000000

near : (z : ℤ) → is_near greatest_number z ≡ true → IsNear z
near (pos n) is = let low : n ≤ 1000000000000000 = leb-true n 1000000000000000 is in
    record { not_below = omega (arith, ints); not_above = omega (arith, ints) }
near (negsuc n) is = let low : suc n ≤ 1000000000000000 = leb-true (suc n) 1000000000000000 is in
    record { not_below = omega (arith, ints); not_above = omega (arith, ints) }

pub IsNear-at : (ns : List ℤ) (place : ℕ) → AreNear ns → place < length ns → IsNear (number_in ns place)
IsNear-at ns place are within = near (number_in ns place)
    (AllPass-from_list_all (is_near greatest_number) ns are place (pos 0) within)

pub SFits-near : (number : ℤ) → IsNear number → SFits w64 number
SFits-near number is = fits number is.not_below is.not_above
  where
    fits : (z : ℤ) → negsuc 999999999999999 ≤ℤ z → z ≤ℤ pos 1000000000000000 → SFits w64 z
    fits (pos n) low high = record { sfits = omega (arith, ints) }
    fits (negsuc n) low high = record { sfits = omega (arith, ints) }

-- a sum of so many of them
pub record IsSumNear (sum : ℤ) (count : ℕ) : Type 0 where
  pub not_below : pos 0 ≤ℤ (sum +ℤ pos (1000000000000000 * count))
  pub not_above : sum ≤ℤ pos (1000000000000000 * count)

pub IsSumNear-more : (sum number : ℤ) (count : ℕ) → IsSumNear sum count → IsNear number
    → IsSumNear (sum +ℤ number) (count + 1)
IsSumNear-more sum number count so_far is = record {
  not_below = omega (arith, ints, so_far.not_below, is.not_below);
  not_above = omega (arith, ints, so_far.not_above, is.not_above);
}

pub SFits-sum : (sum : ℤ) (count : ℕ) → IsSumNear sum count → count ≤ 4098 → SFits w64 sum
SFits-sum sum count is few = fits sum (low sum count is.not_below few) (high sum count is.not_above few)
  where
    low : (z : ℤ) (count : ℕ) → pos 0 ≤ℤ (z +ℤ pos (1000000000000000 * count)) → count ≤ 4098
        → pos 0 ≤ℤ (z +ℤ pos 4098000000000000000)
    low z count is few = omega (arith, ints)

    high : (z : ℤ) (count : ℕ) → z ≤ℤ pos (1000000000000000 * count) → count ≤ 4098 → z ≤ℤ pos 4098000000000000000
    high z count is few = omega (arith, ints)

    fits : (z : ℤ) → pos 0 ≤ℤ (z +ℤ pos 4098000000000000000) → z ≤ℤ pos 4098000000000000000 → SFits w64 z
    fits (pos n) low high = record { sfits = omega (arith, ints) }
    fits (negsuc n) low high = record { sfits = omega (arith, ints) }

IsSumNear-first : (first sum : ℤ) (count : ℕ) → IsNear first → IsSumNear sum count
    → IsSumNear (first +ℤ sum) (suc count)
IsSumNear-first first sum count is so_far = record {
  not_below = omega (arith, ints, so_far.not_below, is.not_below);
  not_above = omega (arith, ints, so_far.not_above, is.not_above);
}

pub IsSumNear-total : (ns : List ℤ) → AreNear ns → IsSumNear (total ns) (length ns)
IsSumNear-total [] are = record { not_below = omega (arith, ints); not_above = omega (arith, ints) }
IsSumNear-total (n ∷ ns) are =
    let parts = and_parts (is_near greatest_number n) (list_all (is_near greatest_number) ns) are in
    IsSumNear-first n (total ns) (length ns) (near n parts.0) (IsSumNear-total ns parts.1)

-- a graph has a price for each colour, so no more than vertices
pub few_prices : (graph : Graph) (prices : List ℤ) → HasColours graph.colours → length prices ≡ colour_count graph
    → length prices ≤ 4096
few_prices graph prices colours is =
    let low = colour-le_vertex graph colours (length graph.colours - 1) (omega (arith, colours.some)) in
    omega (arith, low, colours.few, is)

-- a sum, one more number of a certificate and a score
pub SFits-with : (sum number : ℤ) (count : ℕ) → IsSumNear sum count → IsNear number → count ≤ 4096
    → SFits w64 (number +ℤ sum)
SFits-with sum number count so_far is few =
    SFits-sum (number +ℤ sum) (suc count) (IsSumNear-first number sum count is so_far) (omega arith)

pub IsNear-score : (score : ℤ) → IsScore score → IsNear score
IsNear-score score is = record {
  not_below = omega (arith, ints, is.not_below);
  not_above = omega (arith, ints, is.not_above);
}

pub SFits-whole : (sum number score : ℤ) (count : ℕ) → IsSumNear sum count → IsNear number → IsScore score
    → count ≤ 4096 → SFits w64 (score +ℤ (number +ℤ sum))
SFits-whole sum number score count so_far is score_is few =
    SFits-sum (score +ℤ (number +ℤ sum)) (suc (suc count))
    (IsSumNear-first score (number +ℤ sum) (suc count) (IsNear-score score score_is)
    (IsSumNear-first number sum count is so_far)) (omega arith)

-- what the code makes of a potential and the prices, and with the root's score
pub with_prices : (sum number : ℤ) (count : ℕ) → IsSumNear sum count → IsNear number → count ≤ 4096
    → to_z w64 (of_z w64 number) +ℤ to_z w64 (of_z w64 sum) ≡ number +ℤ sum
with_prices sum number count so_far is few =
    ap (λ n. n +ℤ to_z w64 (of_z w64 sum)) (to_z-of_z w64 number (SFits-near number is))
    ∙ ap (λ n. number +ℤ n) (to_z-of_z w64 sum (SFits-sum sum count so_far (omega arith)))

pub with_root : (sum number score : ℤ) (count : ℕ) → IsSumNear sum count → IsNear number → IsScore score → count ≤ 4096
    → to_z w64 (of_z w64 score) +ℤ to_z w64 (of_z w64 (to_z w64 (of_z w64 number) +ℤ to_z w64 (of_z w64 sum)))
    ≡ score +ℤ (number +ℤ sum)
with_root sum number score count so_far is score_is few =
    ap (λ n. n +ℤ to_z w64 (of_z w64 (to_z w64 (of_z w64 number) +ℤ to_z w64 (of_z w64 sum))))
    (to_z-of_z w64 score (SFits-near score (IsNear-score score score_is)))
    ∙ ap (λ n. score +ℤ to_z w64 (of_z w64 n)) (with_prices sum number count so_far is few)
    ∙ ap (λ n. score +ℤ n) (to_z-of_z w64 (number +ℤ sum) (SFits-with sum number count so_far is few))
