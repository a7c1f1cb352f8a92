-- `SolvedIsRight`: entries of a spectrum's candidates, ranked.
use Rattle.std.proofs.Common.{◌≡◌, ◌≢◌, ◌∙◌, ℕ, List, map, get_or, sym, subst}
use Rattle.std.proofs.Common.{arith}
use Rattle.std.specs.List.{All, AllPairs}
use Rattle.std.specs.List.Sorted.{IsPermutation}
use Rattle.std.specs.Str.{bytes_eq}
use Rattle.std.specs.declared.cmp.Ordering.TheVariants.{Less}
use Rattle.std.proofs.lemmas.Bool.Decides.{same_from_decides}
use Rattle.std.proofs.lemmas.List.{get_or-map, length-map}
use Rattle.std.proofs.lemmas.List.Sorted.{All-permutation, IsPermutation-map}
use Rattle.std.proofs.lemmas.Map.Keys.{IsDistinct-IsPermutation}
use Rattle.std.proofs.lemmas.Map.Made.{AllPairs-from_IsDistinct, IsDistinct-from_AllPairs}
use Rattle.std.proofs.lemmas.Slice.Eq.{bytes_eq-Decides}
use Rattle.element_table.specs.FormulaList.{FormulaListValue}
use Rattle.loss_graph.specs.Lists.{list_at}
use Rattle.tree_entry.specs.Rank.{AreRanked, rank_cmp}
use Rattle.tree_document.specs.declared.document.Solved.{Solved}
use Rattle.tree_document.specs.declared.entry.Entry.{Entry}
use Rattle.right_document.specs.Candidates.{candidates_of}
use Rattle.right_document.specs.RightSection.{IsRightEntry, SolvedIsRight}
use Rattle.right_document.specs.SolveSettings.{SolveSettingsValue}
use Rattle.right_document.specs.Outlines.{AreOwnLists}
use Rattle.right_document.proofs.CandidatesOf.{IsBelow, candidates_rise, rising_apart}

-- what holds of every two in turn that are made of those of a list holds of these
AllPairs-from_map : {X Y : Type 0} (R : Y → Y → Type 0) (f : X → Y) (xs : List X) → AllPairs R (map f xs)
    → AllPairs (λ one later. R (f one) (f later)) xs
AllPairs-from_map R f xs pairs i j none earlier within =
    let made : R (get_or (map f xs) i (f none)) (get_or (map f xs) j (f none)) =
    pairs i j (f none) earlier (omega (arith, length-map xs f))
    in
    subst (R (f (get_or xs i none))) (get_or-map f xs j none (f none) within)
    (subst (λ one. R one (get_or (map f xs) j (f none))) (get_or-map f xs i none (f none) (omega arith)) made)

-- the candidates of a list whose formulas rise differ
candidates_apart : (settings : SolveSettingsValue) (formulas : List (List ℕ)) → AllPairs IsBelow formulas
    → AllPairs (λ one later. one ≢ later) (candidates_of settings formulas)
candidates_apart settings formulas rising =
    rising_apart (candidates_of settings formulas) (candidates_rise settings formulas rising)

abbrev candidate_of : Entry → List ℕ
candidate_of entry = entry.candidate

-- formulas that differ stay so in another order
apart_moved : (formulas moved : List (List ℕ)) → AllPairs (λ one later. one ≢ later) formulas
    → IsPermutation formulas moved
    → AllPairs (λ one later. one ≢ later) moved
apart_moved formulas moved apart same =
    AllPairs-from_IsDistinct bytes_eq-Decides moved
    (IsDistinct-IsPermutation bytes_eq flips formulas moved same
    (IsDistinct-from_AllPairs bytes_eq-Decides formulas apart))
  where
    flips : (x y : List ℕ) → bytes_eq x y ≡ bytes_eq y x
    flips x y =
        let turned = bytes_eq-Decides y x in
        same_from_decides (bytes_eq x y) (bytes_eq y x) (bytes_eq-Decides x y)
        ((λ is. sym (turned.0 is)), (λ is. turned.1 (sym is)))

module _ (settings : SolveSettingsValue) (lists : List FormulaListValue)
    (own : AreOwnLists settings.listing.choice lists) where
  abbrev formulas : List (List ℕ)
  formulas = (list_at lists 0).formulas

  -- the entries of the candidates, in the order of their ranks
  pub solved_is_right : (candidates : List (List ℕ)) (made : List Entry) (solved : Solved)
      → ((entries : List Entry) → AreRanked entries → AllPairs (λ one later. one.candidate ≢ later.candidate) entries
      → AllPairs (λ one later. rank_cmp one later ≡ Less) entries)
      → candidates ≡ candidates_of settings formulas → map candidate_of made ≡ candidates
      → All (IsRightEntry settings lists) made → solved.lists ≡ lists → IsPermutation made solved.entries
      → AreRanked solved.entries
      → SolvedIsRight settings lists solved
  solved_is_right candidates made solved rise are each right same_lists moved ranked = record {
    own_lists = same_lists;
    candidates = reordered;
    entries = All-permutation (IsRightEntry settings lists) made solved.entries moved right;
    ranked = rise solved.entries ranked (AllPairs-from_map (λ one later. one ≢ later) candidate_of solved.entries
        (apart_moved (candidates_of settings formulas) (map candidate_of solved.entries)
        (candidates_apart settings formulas (own.each 0 _ own.some).rising) reordered));
  }
    where
      reordered : IsPermutation (candidates_of settings formulas) (map candidate_of solved.entries)
      reordered =
          subst (λ items. IsPermutation items (map candidate_of solved.entries)) (each ∙ are)
          (IsPermutation-map candidate_of made solved.entries moved)
