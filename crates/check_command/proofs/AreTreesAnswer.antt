-- `AreTreesAnswer`: what is known of the first entries while a tree that is wrong may have been found.
use Rattle.std.proofs.Common.{◌≡◌, ◌+◌, ◌<◌, ℕ, List, Option, Some, None, arith, get_or, length, refl, subst, sym, take}
use Rattle.std.specs.List.{All}
use Rattle.std.specs.Option.{MatchOption, option_or}
use Rattle.std.proofs.lemmas.List.{take_all}
use Rattle.std.proofs.lemmas.List.Elements.{All-more, All-same}
use Rattle.std.proofs.lemmas.Option.{slice_get_read}
use Rattle.tree_entry.specs.declared.place.EntryPlace.{EntryPlace}
use Rattle.element_table.specs.FormulaList.{FormulaListValue}
use Rattle.tree_document.specs.declared.entry.Entry.{Entry}
use Rattle.right_document.specs.RightSection.{OutcomeIsRight, SizeIsRight, TreeIsRight}
use Rattle.right_document.specs.SolveSettings.{SolveSettingsValue}
use Rattle.check_command.specs.CheckPlaces.{IsFirstWrong, IsPlaceIn, IsTreePlace}
use Rattle.run_plan.specs.declared.reject.RejectPart.{RejectPart}
use Rattle.run_plan.specs.declared.reject.RejectPart.TheVariants as part
use Rattle.check_command.specs.inside.CheckAnswers.{AreTreesAnswer}

abbrev pub HasSize : SolveSettingsValue → List FormulaListValue → Entry → Type 0
HasSize settings lists entry = SizeIsRight settings lists entry.candidate entry.outcome

abbrev pub HasTree : SolveSettingsValue → List FormulaListValue → Entry → Type 0
HasTree settings lists entry = TreeIsRight settings lists entry.candidate entry.outcome

-- a part is the first tree that is wrong
pub record IsTreePart (settings : SolveSettingsValue) (lists : List FormulaListValue) (entries : List Entry)
    (found : RejectPart)
    : Type 0 where
  pub number : ℕ
  pub where_first : EntryPlace
  pub is : found ≡ part.Tree number where_first
  pub is_place : IsTreePlace settings lists entries number where_first

-- of the first entries, as many as are counted: all graphs have the right sizes, and no tree is wrong before one that
-- was found
pub record AreRightSoFar (settings : SolveSettingsValue) (lists : List FormulaListValue) (entries : List Entry)
    (count : ℕ)
    (first : Option RejectPart) : Type 0 where
  pub sizes : All (HasSize settings lists) (take count entries)
  pub trees : MatchOption first (All (HasTree settings lists) (take count entries)) (IsTreePart settings lists entries)

module _ (settings : SolveSettingsValue) (lists : List FormulaListValue) (entries : List Entry) where
  pub none_so_far : AreRightSoFar settings lists entries 0 None
  none_so_far = record {
    sizes = λ k none within. absurd (omega arith);
    trees = λ k none within. absurd (omega arith);
  }

  module _ (place : ℕ) (first : Option RejectPart) (entry : Entry) (within : place < length entries)
      (is : entry ≡ get_or entries place entry) (before : AreRightSoFar settings lists entries place first) where
    -- another size is wrong
    pub wrong_size : ¬ (HasSize settings lists entry) → IsFirstWrong (HasSize settings lists) entries (place + 1)
    wrong_size wrong = record {
      place = place;
      numbered = refl;
      item = entry;
      is_item = slice_get_read entries (length entries) place entry refl within is;
      wrong = wrong;
      before = before.sizes;
    }

    sizes_more : HasSize settings lists entry → All (HasSize settings lists) (take (place + 1) entries)
    sizes_more size =
        All-more (HasSize settings lists) entries place entry within before.sizes
        (subst (HasSize settings lists) is size)

    -- another entry is right
    pub right_more : OutcomeIsRight settings lists entry.candidate entry.outcome
        → AreRightSoFar settings lists entries (place + 1) first
    right_more right = record { sizes = sizes_more right.0; trees = trees_more first before.trees }
      where
        trees_more : (found : Option RejectPart)
            → MatchOption found (All (HasTree settings lists) (take place entries)) (IsTreePart settings lists entries)
            → MatchOption found (All (HasTree settings lists) (take (place + 1) entries))
            (IsTreePart settings lists entries)
        trees_more None trees =
            All-more (HasTree settings lists) entries place entry within trees
            (subst (HasTree settings lists) is right.1)
        trees_more (Some found) is_part = is_part

    -- another tree is wrong
    pub wrong_more : (where_first : EntryPlace) → HasSize settings lists entry
        → IsPlaceIn settings lists entry.candidate entry.outcome where_first
        → AreRightSoFar settings lists entries (place + 1) (option_or first (Some (part.Tree (place + 1) where_first)))
    wrong_more where_first size wrong = record { sizes = sizes_more size; trees = trees_more first before.trees }
      where
        trees_more : (found : Option RejectPart)
            → MatchOption found (All (HasTree settings lists) (take place entries)) (IsTreePart settings lists entries)
            → MatchOption (option_or found (Some (part.Tree (place + 1) where_first)))
            (All (HasTree settings lists) (take (place + 1) entries)) (IsTreePart settings lists entries)
        trees_more None trees = record {
          number = place + 1;
          where_first = where_first;
          is = refl;
          is_place = record {
            place = place;
            numbered = refl;
            entry = entry;
            is_entry = slice_get_read entries (length entries) place entry refl within is;
            wrong = wrong;
            before = trees;
          };
        }
        trees_more (Some found) is_part = is_part

  pub answer_of_all : (count : ℕ) (first : Option RejectPart) → length entries ≡ count
      → AreRightSoFar settings lists entries count first
      → AreTreesAnswer settings lists entries first
  answer_of_all count first all so_far = answer first so_far.trees
    where
      whole : entries ≡ take count entries
      whole = sym (take_all count entries (omega arith))

      sizes : All (HasSize settings lists) entries
      sizes = All-same (HasSize settings lists) entries (take count entries) whole so_far.sizes

      answer : (found : Option RejectPart)
          → MatchOption found (All (HasTree settings lists) (take count entries)) (IsTreePart settings lists entries)
          → AreTreesAnswer settings lists entries found
      answer None trees = λ k none within. (
        sizes k none within,
        All-same (HasTree settings lists) entries (take count entries) whole trees k none within,
      )
      answer (Some found) is_part =
          subst (λ found. AreTreesAnswer settings lists entries (Some found)) (sym is_part.is) (sizes, is_part.is_place)
