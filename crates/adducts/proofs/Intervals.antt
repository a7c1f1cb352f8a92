-- Of LiesBelow, AreApart and IsSelectable: what tells whether one interval lies below another, and whether two are
-- apart.
use Rattle.std.proofs.Common.{ℕ, ◌+◌, ◌-◌, ◌≤◌, ◌<◌, ◌⊎◌, inl, inr, max, List, [], ◌∷◌, map, length, refl, ltb, arith}
use Rattle.std.specs.Bool.{Decides}
use Rattle.std.specs.List.{AllByRecursion, list_all}
use Rattle.std.proofs.lemmas.Bool.{cases_lt}
use Rattle.std.proofs.lemmas.Bool.Decides.{Decides-and, Decides-like, Decides-ltb, Decides-or}
use Rattle.element_table.specs.Window.{half_width_of}
use Rattle.mgf_reader.specs.Spectrum.{PeakValue}
use Rattle.adducts.specs.inside.Choosing.{interval_of, is_apart, is_chosen}
use Rattle.adducts.specs.Selected.{AreApart, IsSelectable, LiesBelow}
use Rattle.adducts.specs.declared.choice.Choice.{Choice}

abbrev half : Choice → ℕ → ℕ
half choice mz = half_width_of choice.ppm choice.abs mz

below_from_ends : (low high h k n m : ℕ) → low + h < high - k → n ≤ low + h → high ≤ m + k → n < m
below_from_ends low high h k n m ends not_above not_below = omega arith

to_top : (mz h : ℕ) → mz ≤ (mz + h) + h
to_top mz h = omega arith

to_bottom : (mz h : ℕ) → mz ≤ (mz - h) + h
to_bottom mz h = omega arith

bottom_below_top : (mz h : ℕ) → mz - h ≤ mz + h
bottom_below_top mz h = omega arith

apart_from_ends : (one other h k n : ℕ) → (one + h < other - k) ⊎ (other + k < one - h) → one ≤ n + h → n ≤ one + h
    → other ≤ n + k → n ≤ other + k → ⊥
apart_from_ends one other h k n (inl ends) a b c d = omega arith
apart_from_ends one other h k n (inr ends) a b c d = omega arith

-- the least number that neither interval lies above
abbrev meeting : ℕ → ℕ → ℕ → ℕ → ℕ
meeting one other h k = max (one - h) (other - k)

meets_above_one : (one other h k : ℕ) → one ≤ meeting one other h k + h
meets_above_one one other h k = omega arith

meets_below_one : (one other h k : ℕ) → other - k ≤ one + h → meeting one other h k ≤ one + h
meets_below_one one other h k reached = omega arith

meets_above_other : (one other h k : ℕ) → other ≤ meeting one other h k + k
meets_above_other one other h k = omega arith

meets_below_other : (one other h k : ℕ) → one - h ≤ other + k → meeting one other h k ≤ other + k
meets_below_other one other h k reached = omega arith

Decides-lies_below : (choice : Choice) (low high : ℕ)
    → Decides (ltb (low + half choice low) (high - half choice high)) (LiesBelow choice low high)
Decides-lies_below choice low high = Decides-like _
    (λ ends n m in_low in_high. below_from_ends low high (half choice low) (half choice high) n m ends in_low.not_above
    in_high.not_below)
    (λ below. below (low + half choice low) (high - half choice high)
    (record { not_below = to_top low (half choice low); not_above = omega arith })
    (record { not_below = to_bottom high (half choice high); not_above = bottom_below_top high (half choice high) }))
    (Decides-ltb _ _)

ends_from_apart : (choice : Choice) (one other : ℕ) → AreApart choice one other
    → (one + half choice one < other - half choice other) ⊎ (other + half choice other < one - half choice one)
ends_from_apart choice one other apart = by_first (cases_lt (one + half choice one) (other - half choice other))
  where
    by_second : other - half choice other ≤ one + half choice one
        → (other + half choice other < one - half choice one) ⊎ (one - half choice one ≤ other + half choice other)
        → (one + half choice one < other - half choice other) ⊎ (other + half choice other < one - half choice one)
    by_second reached (inl ends) = inr ends
    by_second reached (inr met) = absurd (apart (meeting one other (half choice one) (half choice other))
        (record {
          not_below = meets_above_one one other (half choice one) (half choice other);
          not_above =
              meets_below_one one other (half choice one) (half choice other) reached;
        })
        (record {
          not_below = meets_above_other one other (half choice one) (half choice other);
          not_above =
              meets_below_other one other (half choice one) (half choice other) met;
        }))

    by_first : (one + half choice one < other - half choice other)
        ⊎ (other - half choice other ≤ one + half choice one) → (one + half choice one < other - half choice other)
        ⊎ (other + half choice other < one - half choice one)
    by_first (inl ends) = inl ends
    by_first (inr reached) = by_second reached (cases_lt (other + half choice other) (one - half choice one))

pub Decides-is_apart : (choice : Choice) (one other : ℕ)
    → Decides (is_apart (interval_of choice one) (interval_of choice other)) (AreApart choice one other)
Decides-is_apart choice one other = Decides-like _
    (λ ends n in_one in_other. apart_from_ends one other (half choice one) (half choice other) n ends in_one.not_below
    in_one.not_above in_other.not_below in_other.not_above)
    (ends_from_apart choice one other)
    (Decides-or _ _ (Decides-ltb _ _) (Decides-ltb _ _))

Decides-all_apart : (choice : Choice) (peak : PeakValue) (earlier : List PeakValue)
    → Decides (list_all (λ other. is_apart (interval_of choice peak.mz) other)
    (map (λ other. interval_of choice other.mz) earlier))
    (AllByRecursion (λ other. AreApart choice peak.mz other.mz) earlier)
Decides-all_apart choice peak [] = ((λ is. tt), (λ h. refl))
Decides-all_apart choice peak (other ∷ earlier) =
    Decides-and _ _ (Decides-is_apart choice peak.mz other.mz) (Decides-all_apart choice peak earlier)

-- a peak is chosen exactly where it is selectable
pub Decides-is_chosen : (choice : Choice) (precursor : ℕ) (earlier : List PeakValue) (peak : PeakValue)
    → Decides (is_chosen choice precursor earlier peak) (IsSelectable choice precursor earlier peak)
Decides-is_chosen choice precursor earlier peak = Decides-like _
    (λ all. record { below = all.1.0; apart = all.1.1; room = all.0 })
    (λ selectable. (selectable.room, (selectable.below, selectable.apart)))
    (Decides-and _ _ (Decides-ltb (length earlier) choice.peaks)
    (Decides-and _ _ (Decides-lies_below choice peak.mz precursor) (Decides-all_apart choice peak earlier)))
