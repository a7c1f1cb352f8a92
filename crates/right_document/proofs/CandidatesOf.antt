-- `candidates_of`: the ion of each candidate is in the precursor's list; the candidates are no more than its formulas,
-- and rise as they do.
use Rattle.std.proofs.Common.{◌≡◌, ◌≢◌, ◌≤◌, ◌∙◌, ◌+◌, ◌-◌, ℕ, true, leb, List, [], ◌∷◌, get_or, length, map, refl, sym}
use Rattle.std.proofs.Common.{ap, subst, arith, ◌<◌}
use Rattle.std.specs.List.{All, AllPairs, Contains, filter}
use Rattle.std.specs.Ordering.{nat_cmp}
use Rattle.std.specs.declared.cmp.Ordering.TheVariants.{Less, Equal}
use Rattle.std.proofs.lemmas.Bool.{and_parts, leb-true}
use Rattle.std.proofs.lemmas.Bool.Decides.{nat_tests}
use Rattle.std.proofs.lemmas.Cmp.{nat_list_cmp_total, tied_itself}
use Rattle.std.proofs.lemmas.List.{length-map, get_or_default}
use Rattle.std.proofs.lemmas.List.Elements.{All-contains_itself, All-filter, All-map, filter_passes}
use Rattle.std.proofs.lemmas.List.Kept.{AllPairs-filter}
use Rattle.element_table.specs.Formula.{formula_cmp, is_within, loss_of, union_of}
use Rattle.element_table.specs.Listed.{passes}
use Rattle.loss_graph.proofs.Weights.{filter-short}
use Rattle.right_document.specs.Candidates.{candidates_of, ion_of}
use Rattle.right_document.specs.SolveSettings.{SolveSettingsValue}
use Rattle.right_document.proofs.AllPairs.{AllPairs-map}
use Rattle.element_table.specs.FormulaList.{FormulaListValue}
use Rattle.loss_graph.specs.Lists.{AreLists, greatest_lists, list_at}
use Rattle.right_document.specs.Outlines.{AreOwnLists}

abbrev pub IsBelow : List ℕ → List ℕ → Type 0
IsBelow one later = formula_cmp one later ≡ Less

-- a whole is what it loses to a part of it, and the part
whole_of_loss : (part whole : List ℕ) → is_within part whole ≡ true → union_of (loss_of whole part) part ≡ whole
whole_of_loss [] [] within = refl
whole_of_loss [] (count ∷ whole) within = (cc)
whole_of_loss (less ∷ part) [] within = (cc)
whole_of_loss (less ∷ part) (count ∷ whole) within =
    let both = and_parts (leb less count) (is_within part whole) within in
    let first : (count - less) + less ≡ count = omega (arith, leb-true less count both.0) in
    let rest : union_of (loss_of whole part) part ≡ whole = whole_of_loss part whole both.1 in
    cc

less_cmp : (less count other : ℕ) → less ≤ count → less ≤ other
    → nat_cmp (count - less) (other - less) ≡ nat_cmp count other
less_cmp less count other below below_other = grind (arith, nat_tests)

-- two wholes stand in the order of what they lose to a part of both
loss_cmp : (part one later : List ℕ) → is_within part one ≡ true → is_within part later ≡ true
    → formula_cmp (loss_of one part) (loss_of later part) ≡ formula_cmp one later
loss_cmp [] [] [] within within_later = refl
loss_cmp [] [] (other ∷ later) within within_later = (cc)
loss_cmp [] (count ∷ one) later within within_later = (cc)
loss_cmp (less ∷ part) [] later within within_later = (cc)
loss_cmp (less ∷ part) (count ∷ one) [] within within_later = (cc)
loss_cmp (less ∷ part) (count ∷ one) (other ∷ later) within within_later =
    let both = and_parts (leb less count) (is_within part one) within in
    let both_later = and_parts (leb less other) (is_within part later) within_later in
    let first = less_cmp less count other (leb-true less count both.0) (leb-true less other both_later.0) in
    let rest : formula_cmp (loss_of one part) (loss_of later part) ≡ formula_cmp one later =
    loss_cmp part one later both.1 both_later.1 in
    rw (first, rest) refl

-- formulas that rise strictly differ
pub rising_apart : (formulas : List (List ℕ)) → AllPairs IsBelow formulas → AllPairs (λ one later. one ≢ later) formulas
rising_apart formulas rising i j none earlier within same =
    let below : formula_cmp (get_or formulas i none) (get_or formulas j none) ≡ Less = rising i j none earlier within in
    let tied : formula_cmp (get_or formulas i none) (get_or formulas j none) ≡ Equal =
    ap (formula_cmp (get_or formulas i none)) (sym same) ∙ tied_itself nat_list_cmp_total (get_or formulas i none)
    in
    cc

module _ (settings : SolveSettingsValue) (formulas : List (List ℕ)) where
  abbrev extra : List ℕ
  extra = settings.listing.choice.adduct.extra

  abbrev without : List ℕ → List ℕ
  without formula = loss_of formula extra

  -- the formulas of the list that hold what the adduct adds
  abbrev holding : List (List ℕ)
  holding = filter (is_within extra) formulas

  pub ions_listed : All (λ candidate. Contains formulas (ion_of settings candidate)) (candidates_of settings formulas)
  ions_listed =
      All-filter (passes settings.candidate_rules) Listed (map without holding)
      (All-map Listed without holding (λ k d within.
      subst (Contains formulas)
      (sym (whole_of_loss extra (get_or holding k d) (filter_passes (is_within extra) formulas k d within)))
      (All-filter (is_within extra) (Contains formulas) formulas (All-contains_itself formulas) k d within)))
    where
      Listed : List ℕ → Type 0
      Listed candidate = Contains formulas (ion_of settings candidate)

  pub candidates_few : length (candidates_of settings formulas) ≤ length formulas
  candidates_few =
      omega (
        arith,
        filter-short (passes settings.candidate_rules) (map without holding),
        length-map holding without,
        filter-short (is_within extra) formulas,
      )

  pub candidates_rise : AllPairs IsBelow formulas → AllPairs IsBelow (candidates_of settings formulas)
  candidates_rise rising =
      AllPairs-filter IsBelow (passes settings.candidate_rules) (map without holding)
      (AllPairs-map IsBelow without holding losses)
    where
      losses : AllPairs (λ one later. IsBelow (without one) (without later)) holding
      losses i j none earlier within =
          let held = filter_passes (is_within extra) formulas in
          loss_cmp extra (get_or holding i none) (get_or holding j none) (held i none (omega arith))
          (held j none within)
          ∙ AllPairs-filter IsBelow (is_within extra) formulas rising i j none earlier within

module _ (settings : SolveSettingsValue) (lists : List FormulaListValue)
    (own : AreOwnLists settings.listing.choice lists) where
  abbrev formulas : List (List ℕ)
  formulas = (list_at lists 0).formulas

  -- candidates that were made of the first list, as it was read
  pub candidates_of_read : (read : FormulaListValue) (told : List (List ℕ)) (candidates : List (List ℕ))
      → read ≡ get_or lists 0 read → told ≡ read.formulas → candidates ≡ candidates_of settings told
      → candidates ≡ candidates_of settings formulas
  candidates_of_read read told candidates is are made =
      made ∙ ap (candidates_of settings)
      (are ∙ ap (λ (list : FormulaListValue). list.formulas) (is ∙ get_or_default lists 0 read _ own.some))

  -- of each candidate a graph can be built
  pub graphs_stand : (candidates : List (List ℕ)) → candidates ≡ candidates_of settings formulas
      → length lists < greatest_lists
      → All (λ candidate. AreLists settings.listing.choice (ion_of settings candidate) lists) candidates
  graphs_stand candidates are few k d within =
      own.roots few (ion_of settings (get_or candidates k d))
      (subst (All (λ candidate. Contains formulas (ion_of settings candidate))) (sym are)
      (ions_listed settings formulas) k d within)
