-- Of totals_of and share_of: the totals of the elements, place by place.
use Rattle.std.proofs.Common.{◌≡◌, ◌≢◌, ◌<◌, ◌≤◌, ◌+◌, ◌∙◌, ℕ, Bool, true, false, ◌||◌, List, [], length, take, get_or}
use Rattle.std.proofs.Common.{get_or-set_other, get_or-set_same, set, min, below_more, refl, sym, arith}
use Rattle.std.proofs.lemmas.List.Folds.{list_any_more}
use Rattle.std.specs.List.{list_any}
use Rattle.std.specs.Str.{bytes_eq}
use Rattle.element_table.specs.Elements.{symbols}
use Rattle.element_table.specs.FormulaReading.{share_of}

-- the first i places have their share of a count, none of them more than too many, and the others are as they were
pub record Adds (symbol : List ℕ) (count : ℕ) (before totals : List ℕ) (i : ℕ) (known : Bool) : Type 0 where
  pub found : known ≡ list_any (λ known. bytes_eq known symbol) (take i symbols)
  pub added : (place : ℕ) → place < i
      → get_or totals place 0 ≡ min 2000 (get_or before place 0 + share_of (get_or symbols place []) symbol count)
  pub others : (place : ℕ) → i ≤ place → get_or totals place 0 ≡ get_or before place 0

or-true : (a b : Bool) → true ≡ b → true ≡ (a || b)
or-true true b holds = refl
or-true false b holds = holds

or-false : (a b : Bool) → false ≡ b → a ≡ (a || b)
or-false true b fails = refl
or-false false b fails = fails

share_of-same : (element symbol : List ℕ) (count : ℕ) → true ≡ bytes_eq element symbol
    → count ≡ share_of element symbol count
share_of-same element symbol count same = rw (← same) refl

share_of-other : (element symbol : List ℕ) (count : ℕ) → false ≡ bytes_eq element symbol
    → 0 ≡ share_of element symbol count
share_of-other element symbol count other = rw (← other) refl

-- the next place has the symbol
pub Adds-same : (symbol : List ℕ) (count : ℕ) (before totals : List ℕ) (i new : ℕ) (known : Bool) → i < 11
    → i < length totals
    → true ≡ bytes_eq (get_or symbols i []) symbol → new ≡ min (get_or totals i 0 + count) 2000
    → Adds symbol count before totals i known → Adds symbol count before (set totals i new) (i + 1) true
Adds-same symbol count before totals i new known within in_totals same new_is adds =
    let share : count ≡ share_of (get_or symbols i []) symbol count =
    share_of-same (get_or symbols i []) symbol count same in
    let was : get_or totals i 0 ≡ get_or before i 0 = adds.others i (omega arith) in
    let here : new ≡ min 2000 (get_or before i 0 + share_of (get_or symbols i []) symbol count) = omega arith in
    record {
      found = or-true _ _ same ∙ sym (list_any_more (λ known. bytes_eq known symbol) symbols i [] within);
      added =
          below_more _ _ (λ k h. let other : k ≢ i = omega arith in rw get_or-set_other (adds.added k h))
          (rw get_or-set_same here);
      others = λ k h. let other : k ≢ i = omega arith in rw get_or-set_other (adds.others k (omega arith));
    }

-- the next place has another symbol
pub Adds-other : (symbol : List ℕ) (count : ℕ) (before totals : List ℕ) (i : ℕ) (known : Bool) → i < 11
    → get_or before i 0 ≤ 2000
    → false ≡ bytes_eq (get_or symbols i []) symbol → Adds symbol count before totals i known
    → Adds symbol count before totals (i + 1) known
Adds-other symbol count before totals i known within capped other adds =
    let share : 0 ≡ share_of (get_or symbols i []) symbol count =
    share_of-other (get_or symbols i []) symbol count other in
    let was : get_or totals i 0 ≡ get_or before i 0 = adds.others i (omega arith) in
    record {
      found =
          adds.found ∙ or-false _ _ other ∙ sym (list_any_more (λ known. bytes_eq known symbol) symbols i [] within);
      added = below_more _ _ adds.added (omega arith);
      others = λ k h. adds.others k (omega arith);
    }
