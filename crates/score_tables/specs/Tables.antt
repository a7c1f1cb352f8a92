-- The tables that scores are read from.
use Rattle.std.specs.Prelude.{◌≤◌, ◌≢◌, ℕ, ℤ, pos, int_lt, Bool, false, ◌&&◌, List, [], ◌∷◌, length, map, All, AllPairs}
use Rattle.std.specs.Prelude.{IsTrue}
use Rattle.std.specs.FinMap.{put}
use Rattle.std.specs.List.Sorted.{IsStrictlySortedBy}
use Rattle.std.specs.Map.{keys_of}
use Rattle.std.specs.Ordering.{int_eq}
use Rattle.element_table.specs.Formula.{IsFormula, empty_formula, formula_cmp}
use Rattle.element_table.specs.Rule.{IsNearZero}

-- A score for each share up to or from a bound, in thousandths.
abbrev pub ShareTable : Type 0
ShareTable = List (ℕ × ℤ)

-- A score for each of some losses, which are formulas.
abbrev pub LossTable : Type 0
LossTable = List (List ℕ × ℤ)

-- what the scores of a run are read from
pub record ScoresValue : Type 0 where
  -- a peak's score where its share of the greatest intensity is at least the bound, by the first such pair
  pub intensity : ShareTable
  -- an error's score where its share of half the window's width is at most the bound, by the first such pair
  pub error : ShareTable
  -- the scores of losses that are known to be common
  pub named : LossTable
  -- what is added for losses that hardly occur
  pub implausible : LossTable
  -- what is added for a radical: a loss of which twice the number of rings and double bonds is odd
  pub radical : ℤ
  -- what is added for a loss of which that number is below 0
  pub negative : ℤ
  -- the mass for which a loss costs one, in units of 10^-7 Da
  pub size : ℕ

-- no score of a table is further from 0
abbrev pub greatest_score : ℕ
greatest_score = 2000

-- the greatest bound of a share, which is the whole
abbrev pub greatest_share : ℕ
greatest_share = 1000

-- the greatest number of pairs in a table of shares
abbrev pub greatest_pairs : ℕ
greatest_pairs = 16

-- the greatest number of formulas in a table of losses
abbrev pub greatest_losses : ℕ
greatest_losses = 64

-- the range of the mass for which a loss costs one, in units of 10^-7 Da
abbrev pub least_size : ℕ
least_size = 10000000

abbrev pub greatest_size : ℕ
greatest_size = 1000000000

-- one number at least, each of which may come before the next, and the last of which is given
abbrev pub are_ordered : (ℤ → ℤ → Bool) → ℤ → List ℤ → Bool
are_ordered comes last [] = false
are_ordered comes last (only ∷ []) = int_eq only last
are_ordered comes last (first ∷ next ∷ rest) = comes first next && are_ordered comes last (next ∷ rest)

-- each number is below the one before it, and the last is 0
abbrev pub falls_to_nought : List ℤ → Bool
falls_to_nought = are_ordered (λ first next. int_lt next first) (pos 0)

-- each number is above the one before it, and the last is the whole
abbrev pub rises_to_whole : List ℤ → Bool
rises_to_whole = are_ordered int_lt (pos greatest_share)

-- the bounds of a table of shares
abbrev pub bounds_of : ShareTable → List ℤ
bounds_of pairs = map (λ pair. pos pair.0) pairs

-- what a table of shares is: sixteen pairs at most, their bounds in this order and in their range, each score near 0
pub record IsShareTable (are_ordered : List ℤ → Bool) (pairs : ShareTable) : Type 0 where
  pub few : length pairs ≤ greatest_pairs
  pub ordered : IsTrue (are_ordered (bounds_of pairs))
  pub bounds : All (λ pair. pair.0 ≤ greatest_share) pairs
  pub scores : All (λ pair. IsNearZero greatest_score pair.1) pairs

-- what a table of losses is: at most so many formulas, none of them empty, no two the same, each score near 0
pub record IsLossTable (losses : LossTable) : Type 0 where
  pub few : length losses ≤ greatest_losses
  pub formulas : All (λ entry. IsFormula entry.0) losses
  pub some_atom : All (λ entry. entry.0 ≢ empty_formula) losses
  pub distinct : AllPairs (λ first later. first.0 ≢ later.0) losses
  pub scores : All (λ entry. IsNearZero greatest_score entry.1) losses

-- what the tables of every run are
pub record IsScores (scores : ScoresValue) : Type 0 where
  pub intensity : IsShareTable falls_to_nought scores.intensity
  pub error : IsShareTable rises_to_whole scores.error
  pub named : IsLossTable scores.named
  pub implausible : IsLossTable scores.implausible
  pub radical : IsNearZero greatest_score scores.radical
  pub negative : IsNearZero greatest_score scores.negative
  pub not_small : least_size ≤ scores.size
  pub not_large : scores.size ≤ greatest_size

-- the losses of a table rise in formula order
abbrev pub LossesRise : LossTable → Type 0
LossesRise losses = IsStrictlySortedBy formula_cmp (keys_of losses)

-- what the tables are that a program holds
pub record AreSorted (scores : ScoresValue) : Type 0 where
  pub right : IsScores scores
  pub named : LossesRise scores.named
  pub implausible : LossesRise scores.implausible

-- the losses of a table, in formula order
abbrev pub sorted_losses : LossTable → LossTable
sorted_losses [] = []
sorted_losses (entry ∷ losses) = put formula_cmp entry.0 entry.1 (sorted_losses losses)

-- The same tables, the losses in formula order. No score tells in which order they were given.
abbrev pub in_formula_order : ScoresValue → ScoresValue
in_formula_order scores =
    record scores { named = sorted_losses scores.named; implausible = sorted_losses scores.implausible }
