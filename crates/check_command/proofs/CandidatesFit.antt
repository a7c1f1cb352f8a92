-- `CandidatesFit`: entries of which the candidates are a spectrum's are few, and the graph of each can be built.
use Rattle.std.proofs.Common.{◌≤◌, ◌<◌, ℕ, List, arith, length, map, refl, subst}
use Rattle.std.specs.List.{All}
use Rattle.std.specs.List.Sorted.{IsPermutation}
use Rattle.std.proofs.lemmas.List.{get_or-map, length-map}
use Rattle.std.proofs.lemmas.List.Sorted.{All-permutation, length_permutation}
use Rattle.element_table.specs.FormulaList.{FormulaListValue, greatest_list}
use Rattle.loss_graph.specs.Lists.{AreLists, greatest_lists, list_at}
use Rattle.tree_document.specs.declared.entry.Entry.{Entry}
use Rattle.right_document.specs.Candidates.{candidates_of, ion_of}
use Rattle.right_document.specs.SolveSettings.{SolveSettingsValue}
use Rattle.right_document.specs.Outlines.{AreOwnLists}
use Rattle.right_document.proofs.CandidatesOf.{candidates_few, graphs_stand}

module _ (settings : SolveSettingsValue) (lists : List FormulaListValue)
    (own : AreOwnLists settings.listing.choice lists)
    (entries : List Entry)
    (same : IsPermutation (candidates_of settings (list_at lists 0).formulas) (map (λ entry. entry.candidate) entries))
  where
    abbrev candidates : List (List ℕ)
    candidates = candidates_of settings (list_at lists 0).formulas

    abbrev told : List (List ℕ)
    told = map (λ (entry : Entry). entry.candidate) entries

    pub entries_few : length entries ≤ greatest_list
    entries_few =
        let formulas_few : length (list_at lists 0).formulas ≤ greatest_list = (own.each 0 _ own.some).few in
        omega (
          arith,
          length-map entries (λ (entry : Entry). entry.candidate),
          length_permutation candidates told same,
          candidates_few settings (list_at lists 0).formulas,
        )

    pub entries_stand : length lists < greatest_lists
        → All (λ entry. AreLists settings.listing.choice (ion_of settings entry.candidate) lists) entries
    entries_stand few k none within =
        subst Stands (get_or-map (λ (entry : Entry). entry.candidate) entries k none none.candidate within)
        (all k none.candidate (omega (arith, length-map entries (λ (entry : Entry). entry.candidate))))
      where
        Stands : List ℕ → Type 0
        Stands candidate = AreLists settings.listing.choice (ion_of settings candidate) lists

        all : All Stands told
        all = All-permutation Stands candidates told same (graphs_stand settings lists own candidates refl few)
