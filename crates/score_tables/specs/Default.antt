-- The tables that count where a profile gives no others.
use Rattle.std.specs.Prelude.{◌++◌, ℕ, ℤ, pos, neg_ℤ, List, [], ◌∷◌, codes, replicate}
use Rattle.score_tables.specs.Tables.{LossTable, ScoresValue, ShareTable, in_formula_order}

-- a formula of so many H, C, N, O, P, S, F and Cl
abbrev pub atoms : ℕ → ℕ → ℕ → ℕ → ℕ → ℕ → ℕ → ℕ → List ℕ
atoms h c n o p s f cl = (h ∷ c ∷ n ∷ o ∷ p ∷ s ∷ f ∷ cl ∷ []) ++ replicate 8 0

abbrev pub default_intensity : ShareTable
default_intensity = (500, pos 30) ∷ (200, pos 24) ∷ (50, pos 16) ∷ (10, pos 8) ∷ (0, pos 2) ∷ []

abbrev pub default_error : ShareTable
default_error = (200, pos 10) ∷ (500, pos 6) ∷ (800, pos 2) ∷ (1000, neg_ℤ (pos 4)) ∷ []

-- the losses that are known to be common
abbrev pub default_named : LossTable
default_named =
    (atoms 2 0 0 1 0 0 0 0, pos 12)
    ∷ (atoms 0 1 0 1 0 0 0 0, pos 10)
    ∷ (atoms 0 1 0 2 0 0 0 0, pos 10)
    ∷ (atoms 3 0 1 0 0 0 0 0, pos 10)
    ∷ (atoms 1 1 1 0 0 0 0 0, pos 8)
    ∷ (atoms 2 1 0 1 0 0 0 0, pos 8)
    ∷ (atoms 4 1 0 1 0 0 0 0, pos 8)
    ∷ (atoms 2 1 0 2 0 0 0 0, pos 8)
    ∷ (atoms 2 2 0 0 0 0 0 0, pos 4)
    ∷ (atoms 4 2 0 0 0 0 0 0, pos 6)
    ∷ (atoms 2 2 0 1 0 0 0 0, pos 8)
    ∷ (atoms 4 2 0 2 0 0 0 0, pos 6)
    ∷ (atoms 6 3 0 0 0 0 0 0, pos 4)
    ∷ (atoms 8 4 0 0 0 0 0 0, pos 4)
    ∷ (atoms 1 0 0 0 0 0 0 1, pos 8)
    ∷ (atoms 1 0 0 0 0 0 1 0, pos 8)
    ∷ (atoms 2 0 0 0 0 1 0 0, pos 6)
    ∷ (atoms 0 0 0 2 0 1 0 0, pos 6)
    ∷ (atoms 0 0 0 3 0 1 0 0, pos 6)
    ∷ (atoms 1 0 0 3 1 0 0 0, pos 8)
    ∷ (atoms 3 0 0 4 1 0 0 0, pos 8)
    ∷ (atoms 3 1 0 0 0 0 0 0, pos 0)
    ∷ []

-- how the named losses are spelled
abbrev pub default_named_texts : List (List ℕ)
default_named_texts =
    codes "H2O" ∷ codes "CO" ∷ codes "CO2" ∷ codes "H3N" ∷ codes "CHN" ∷ codes "CH2O" ∷ codes "CH4O"
    ∷ codes "CH2O2" ∷ codes "C2H2" ∷ codes "C2H4" ∷ codes "C2H2O" ∷ codes "C2H4O2" ∷ codes "C3H6" ∷ codes "C4H8"
    ∷ codes "HCl" ∷ codes "HF" ∷ codes "H2S" ∷ codes "O2S" ∷ codes "O3S" ∷ codes "HO3P" ∷ codes "H3O4P"
    ∷ codes "CH3" ∷ []

-- the losses that hardly occur
abbrev pub default_implausible : LossTable
default_implausible =
    (atoms 0 1 0 0 0 0 0 0, neg_ℤ (pos 30))
    ∷ (atoms 0 2 0 0 0 0 0 0, neg_ℤ (pos 30))
    ∷ (atoms 0 0 1 0 0 0 0 0, neg_ℤ (pos 30))
    ∷ (atoms 0 0 0 1 0 0 0 0, neg_ℤ (pos 20))
    ∷ (atoms 0 0 0 2 0 0 0 0, neg_ℤ (pos 20))
    ∷ (atoms 0 0 2 0 0 0 0 0, neg_ℤ (pos 10))
    ∷ []

-- how the implausible losses are spelled
abbrev pub default_implausible_texts : List (List ℕ)
default_implausible_texts = codes "C" ∷ codes "C2" ∷ codes "N" ∷ codes "O" ∷ codes "O2" ∷ codes "N2" ∷ []

abbrev pub default_tables : ScoresValue
default_tables = record {
  intensity = default_intensity;
  error = default_error;
  named = default_named;
  implausible = default_implausible;
  radical = neg_ℤ (pos 12);
  negative = neg_ℤ (pos 40);
  size = 200000000;
}

-- the scores that count where a profile gives no others
abbrev pub default_scores : ScoresValue
default_scores = in_formula_order default_tables

-- worked examples: H2O, CO, HN4, C and H3
abbrev pub some_losses : List (List ℕ)
some_losses =
    atoms 2 0 0 1 0 0 0 0 ∷ atoms 0 1 0 1 0 0 0 0 ∷ atoms 1 0 4 0 0 0 0 0
    ∷ atoms 0 1 0 0 0 0 0 0 ∷ atoms 3 0 0 0 0 0 0 0 ∷ []

-- their scores under the default tables
abbrev pub some_loss_scores : List ℤ
some_loss_scores = pos 12 ∷ pos 9 ∷ neg_ℤ (pos 14) ∷ neg_ℤ (pos 30) ∷ neg_ℤ (pos 52) ∷ []
