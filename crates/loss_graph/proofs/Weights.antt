-- Of IsScore, union_of, Adds and greatest_intensity: scores of edges and counts of formulas fit their types.
use Rattle.std.proofs.Common.{◌≡◌, ◌+◌, ◌<◌, ◌≤◌, ℕ, zero, suc, ℤ, pos, negsuc, ◌+ℤ◌, ◌≤ℤ◌, Bool, true, false, cond}
use Rattle.std.proofs.Common.{List, [], ◌∷◌, ◌++◌, length, get_or, max, refl, rules, arith, w32}
use Rattle.std.specs.Prelude.{fold}
use Rattle.std.proofs.lemmas.Int.{ints}
use Rattle.std.proofs.lemmas.List.{length_push}
use Rattle.std.specs.List.{filter}
use Rattle.colour_graph.specs.Graph.{IsScore}
use Rattle.element_table.specs.Formula.{IsFormula, union_of}
use Rattle.element_table.specs.Rule.{IsNearZero}
use mir.Val.{SFits}

pub SFits-score : (score : ℤ) → IsScore score → SFits w32 score
SFits-score score is =
    let low : negsuc 99999 ≤ℤ score = is.not_below in
    let high : score ≤ℤ pos 100000 = is.not_above in
    search rules

pub IsScore-near : (score : ℤ) → IsNearZero 10000 score → IsScore score
IsScore-near score near = record { not_below = omega (arith, ints, near); not_above = omega (arith, ints, near) }

-- the score of a loss and that of a head together
pub IsScore-sum : (loss base : ℤ) → IsNearZero 10000 loss → IsNearZero 20000 base → IsScore (loss +ℤ base)
IsScore-sum loss base near base_near = record {
  not_below = omega (arith, ints, near, base_near);
  not_above = omega (arith, ints, near, base_near);
}

union-at : (one other : List ℕ) → length one ≡ length other → (place : ℕ)
    → get_or (union_of one other) place 0 ≡ get_or one place 0 + get_or other place 0
union-at [] [] same place = none
  where
    none : 0 ≡ 0 + 0
    none = omega arith
union-at [] (other ∷ others) same place = absurd (omega arith)
union-at (one ∷ ones) [] same place = absurd (omega arith)
union-at (one ∷ ones) (other ∷ others) same zero = refl
union-at (one ∷ ones) (other ∷ others) same (suc place) = union-at ones others (omega arith) place

-- the counts of two formulas that are one together are not too great
pub union-capped : (one other : List ℕ) → IsFormula one → IsFormula other → IsFormula (union_of one other)
    → (place : ℕ) → get_or one place 0 + get_or other place 0 ≤ 1999
union-capped one other first second both place =
    omega (arith, union-at one other (omega (arith, first.places, second.places)) place, both.capped place)

pub filter-short : (test : List ℕ → Bool) (formulas : List (List ℕ)) → length (filter test formulas) ≤ length formulas
filter-short test [] = omega arith
filter-short test (formula ∷ formulas) = choose (test formula) (filter-short test formulas)
  where
    choose : (passes : Bool) → length (filter test formulas) ≤ length formulas
        → length (cond passes (formula ∷ filter test formulas) (filter test formulas)) ≤ length (formula ∷ formulas)
    choose true shorter = omega arith
    choose false shorter = omega arith

pub named-few : (some : Bool) (peaks : List ℕ) (peak : ℕ)
    → length (cond some (peaks ++ peak ∷ []) peaks) ≤ length peaks + 1
named-few true peaks peak = omega (arith, length_push peaks peak)
named-few false peaks peak = omega arith

-- the greatest of some numbers is none below the others, and is at most what they all are
pub fold-above : (ns : List ℕ) (start : ℕ) → start ≤ fold max start ns
fold-above [] start = omega arith
fold-above (n ∷ ns) start = omega (arith, fold-above ns (max start n))

pub le-fold : (ns : List ℕ) (start place : ℕ) → place < length ns → get_or ns place 0 ≤ fold max start ns
le-fold [] start place within = absurd (omega arith)
le-fold (n ∷ ns) start zero within = omega (arith, fold-above ns (max start n))
le-fold (n ∷ ns) start (suc place) within = le-fold ns (max start n) place (omega arith)

pub fold-le : (ns : List ℕ) (start most : ℕ) → start ≤ most
    → ((place : ℕ) → place < length ns → get_or ns place 0 ≤ most) → fold max start ns ≤ most
fold-le [] start most small each = small
fold-le (n ∷ ns) start most small each =
    fold-le ns (max start n) most (omega (arith, each 0 (omega arith))) (λ place within. each (suc place) (omega arith))
