-- Of IsBestBefore: one edge more is looked at.
use Rattle.std.proofs.Common.{◌≡◌, ◌⊎◌, inl, inr, ◌<◌, ◌+◌, ℕ, ℤ, ◌≤ℤ◌, Bool, List, Option, Some, None, subst, sym}
use Rattle.std.proofs.Common.{arith}
use Rattle.std.proofs.lemmas.Bool.{cases_eq}
use Rattle.std.proofs.lemmas.Int.{ints}
use Rattle.colour_graph.specs.Graph.{Graph}
use Rattle.tree_certificate.specs.BoundValue.{PriceValue}
use Rattle.tree_certificate.specs.PriceHolds.{gain_by}
use Rattle.branch_search.specs.inside.Choosing.{IsBestBefore, IsCandidate}

module _ (graph : Graph) (allowed : List Bool) (cert : PriceValue) (marks : List Bool) (colour place : ℕ) where
  -- an edge that may not be taken
  pub best-passed : (found : Option ℕ) → (IsCandidate graph allowed cert marks colour place → ⊥)
      → IsBestBefore graph allowed cert marks colour place found
      → IsBestBefore graph allowed cert marks colour (place + 1) found
  best-passed None not is = each
    where
      each : (edge : ℕ) → edge < place + 1 → IsCandidate graph allowed cert marks colour edge → ⊥
      each edge within candidate = choose (cases_eq edge place)
        where
          choose : (edge ≡ place) ⊎ (edge ≡ place → ⊥) → ⊥
          choose (inl same) = not (subst (IsCandidate graph allowed cert marks colour) same candidate)
          choose (inr apart) = is edge (omega (arith, within, apart)) candidate
  best-passed (Some best) not is = (is.0, each)
    where
      each : (edge : ℕ) → edge < place + 1 → IsCandidate graph allowed cert marks colour edge
          → gain_by graph cert colour edge ≤ℤ gain_by graph cert colour best
      each edge within candidate = choose (cases_eq edge place)
        where
          choose : (edge ≡ place) ⊎ (edge ≡ place → ⊥)
              → gain_by graph cert colour edge ≤ℤ gain_by graph cert colour best
          choose (inl same) = absurd (not (subst (IsCandidate graph allowed cert marks colour) same candidate))
          choose (inr apart) = is.1 edge (omega (arith, within, apart)) candidate

  -- an edge that gains no more than the best one
  pub best-kept : (best : ℕ) → gain_by graph cert colour place ≤ℤ gain_by graph cert colour best
      → IsBestBefore graph allowed cert marks colour place (Some best)
      → IsBestBefore graph allowed cert marks colour (place + 1) (Some best)
  best-kept best low is = (is.0, each)
    where
      each : (edge : ℕ) → edge < place + 1 → IsCandidate graph allowed cert marks colour edge
          → gain_by graph cert colour edge ≤ℤ gain_by graph cert colour best
      each edge within candidate = choose (cases_eq edge place)
        where
          choose : (edge ≡ place) ⊎ (edge ≡ place → ⊥)
              → gain_by graph cert colour edge ≤ℤ gain_by graph cert colour best
          choose (inl same) =
              subst (λ (e : ℕ). gain_by graph cert colour e ≤ℤ gain_by graph cert colour best) (sym same) low
          choose (inr apart) = is.1 edge (omega (arith, within, apart)) candidate

  self : (a : ℤ) → a ≤ℤ a
  self a = omega (arith, ints)

  joined : (a b c : ℤ) → a ≤ℤ b → b ≤ℤ c → a ≤ℤ c
  joined a b c one other = omega (arith, ints)

  with-place : ((edge : ℕ) → edge < place → IsCandidate graph allowed cert marks colour edge
      → gain_by graph cert colour edge ≤ℤ gain_by graph cert colour place)
      → IsCandidate graph allowed cert marks colour place
      → IsBestBefore graph allowed cert marks colour (place + 1) (Some place)
  with-place before is = (is, each)
    where
      each : (edge : ℕ) → edge < place + 1 → IsCandidate graph allowed cert marks colour edge
          → gain_by graph cert colour edge ≤ℤ gain_by graph cert colour place
      each edge within candidate = choose (cases_eq edge place)
        where
          choose : (edge ≡ place) ⊎ (edge ≡ place → ⊥)
              → gain_by graph cert colour edge ≤ℤ gain_by graph cert colour place
          choose (inl same) =
              subst (λ (e : ℕ). gain_by graph cert colour e ≤ℤ gain_by graph cert colour place) (sym same)
              (self (gain_by graph cert colour place))
          choose (inr apart) = before edge (omega (arith, within, apart)) candidate

  -- an edge that gains more, and the first one
  pub best-new : (best : ℕ) → gain_by graph cert colour best ≤ℤ gain_by graph cert colour place
      → IsCandidate graph allowed cert marks colour place
      → IsBestBefore graph allowed cert marks colour place (Some best)
      → IsBestBefore graph allowed cert marks colour (place + 1) (Some place)
  best-new best low is before =
      with-place (λ edge within candidate. joined (gain_by graph cert colour edge) (gain_by graph cert colour best)
      (gain_by graph cert colour place) (before.1 edge within candidate) low) is

  pub best-first : IsCandidate graph allowed cert marks colour place
      → IsBestBefore graph allowed cert marks colour place None
      → IsBestBefore graph allowed cert marks colour (place + 1) (Some place)
  best-first is none = with-place (λ edge within candidate. absurd (none edge within candidate)) is
