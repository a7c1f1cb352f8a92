-- Of the scores: worked examples under the default tables, computed.
use Rattle.std.specs.Prelude.{◌≡◌, ◌^◌, ◌++◌, ℕ, ℤ, pos, neg_ℤ, List, [], ◌∷◌, map, replicate, refl}
use Rattle.score_tables.specs.Default.{atoms, default_scores, default_tables}
use Rattle.score_tables.specs.Scores.{error_score_of, loss_score_of, peak_score_of}

-- two numbers, and the score that they have
abbrev Table : Type 0
Table = List ((ℕ × ℕ) × ℤ)

-- intensities, and the greatest one: the bounds of the shares belong to them
abbrev intensities : Table
intensities =
    ((1, 1), pos 30)
    ∷ ((500, 1000), pos 30)
    ∷ ((499, 1000), pos 24)
    ∷ ((200, 1000), pos 24)
    ∷ ((199, 1000), pos 16)
    ∷ ((50, 1000), pos 16)
    ∷ ((49, 1000), pos 8)
    ∷ ((10, 1000), pos 8)
    ∷ ((9, 1000), pos 2)
    ∷ ((1, 10 ^ 18), pos 2)
    ∷ ((499999999999999999, 10 ^ 18), pos 24)
    ∷ ((500000000000000000, 10 ^ 18), pos 30)
    ∷ []

peaks_score_so : map (λ row. peak_score_of default_scores row.0.0 row.0.1) intensities ≡ map (λ row. row.1) intensities
peaks_score_so = refl

-- errors, and half the width of the window: shares are whole thousandths, so that 200.9 are 200
abbrev errors : Table
errors =
    ((0, 0), pos 10)
    ∷ ((0, 2000000), pos 10)
    ∷ ((200, 1000), pos 10)
    ∷ ((201, 1000), pos 6)
    ∷ ((500, 1000), pos 6)
    ∷ ((501, 1000), pos 2)
    ∷ ((800, 1000), pos 2)
    ∷ ((801, 1000), neg_ℤ (pos 4))
    ∷ ((1000, 1000), neg_ℤ (pos 4))
    ∷ ((2009, 10000), pos 10)
    ∷ []

errors_score_so : map (λ row. error_score_of default_scores row.0.0 row.0.1) errors ≡ map (λ row. row.1) errors
errors_score_so = refl

-- the named losses, in the order of the default tables, each less what its mass costs
named_score_so : map (λ entry. loss_score_of default_scores entry.0) default_tables.named
    ≡ pos 12 ∷ pos 9 ∷ pos 8 ∷ pos 10 ∷ pos 7 ∷ pos 7 ∷ pos 7 ∷ pos 6 ∷ pos 3 ∷ pos 5 ∷ pos 6 ∷ pos 3 ∷ pos 2 ∷ pos 2
    ∷ pos 7 ∷ pos 7 ∷ pos 5 ∷ pos 3 ∷ pos 3 ∷ pos 5 ∷ pos 4 ∷ pos 0 ∷ []
named_score_so = refl

-- those that hardly occur, of which the third, N, is a radical too
implausible_score_so : map (λ entry. loss_score_of default_scores entry.0) default_tables.implausible
    ≡ map neg_ℤ (pos 30 ∷ pos 31 ∷ pos 42 ∷ pos 20 ∷ pos 21 ∷ pos 11 ∷ [])
implausible_score_so = refl

-- losses in no table: H, CH2 and C2H6
others_score_so : map (loss_score_of default_scores)
    (atoms 1 0 0 0 0 0 0 0 ∷ atoms 2 1 0 0 0 0 0 0 ∷ atoms 6 2 0 0 0 0 0 0 ∷ [])
    ≡ neg_ℤ (pos 12) ∷ pos 0 ∷ neg_ℤ (pos 1) ∷ []
others_score_so = refl

-- the mass costs 2,000 at most: of as much bromine and iodine as there may be
heavy_scores_so : loss_score_of default_scores (replicate 8 0 ++ 1999 ∷ 1999 ∷ replicate 6 0) ≡ neg_ℤ (pos 2040)
heavy_scores_so = refl
