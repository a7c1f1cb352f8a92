-- Of IsPlain: for prices of 0 the least potentials always fit a certificate, with few colours or on a decided set.
use Rattle.std.proofs.Common.{◌≡◌, ◌≤◌, ◌⊎◌, inl, inr, ℕ, zero, suc, ℤ, pos, ◌+ℤ◌, ◌≤ℤ◌, Bool, true, false, List}
use Rattle.std.proofs.Common.{length, replicate, ap, refl, ◌∙◌, arith}
use Rattle.std.proofs.lemmas.Bool.{cases_Bool}
use Rattle.std.proofs.lemmas.Int.{ints}
use Rattle.std.proofs.lemmas.List.{get_or_default, length-replicate}
use Rattle.colour_graph.specs.Colourful.{total}
use Rattle.colour_graph.specs.Graph.{Graph, IsGraph, colour_count}
use Rattle.tree_certificate.specs.BoundHolds.{IsDecided}
use Rattle.tree_certificate.specs.PriceHolds.{FitsPrices, PriceHolds, price_total}
use Rattle.price_bound.specs.Plain.{IsPlain, IsTreeScore}
use Rattle.tree_certificate.specs.Number.{number_in}
use Rattle.price_bound.specs.inside.Exact.{AreAmounts, AreExactAbove, IsTooHigh, cert_with}
use Rattle.price_bound.proofs.Keeping.{clear-replicate, holds-exact, needed-is}
use Rattle.price_bound.proofs.LowPotentials.{not_high-few}
use Rattle.price_bound.proofs.Numbers.{IsAmount-zero}
use Rattle.price_bound.proofs.Owning.{not_high-decided}
use Rattle.price_bound.proofs.PlainTrees.{tree-plain}

total-replicate : (count : ℕ) → total (replicate count (pos 0)) ≡ pos 0
total-replicate zero = refl
total-replicate (suc count) = nothing (total (replicate count (pos 0))) ∙ total-replicate count
  where
    nothing : (n : ℤ) → pos 0 +ℤ n ≡ n
    nothing n = omega (arith, ints)

-- what is known once the potentials are written
pub record AreWritten (graph : Graph) (allowed : List Bool) (prices potentials : List ℤ) (low : Bool) : Type 0 where
  pub exact : low ≡ true → AreExactAbove graph allowed (cert_with prices potentials) 0
  pub amounts : low ≡ true → AreAmounts potentials
  pub high : low ≡ false → IsTooHigh graph allowed prices

-- what follows for prices of 0
pub record ArePlain (graph : Graph) (allowed : List Bool) (prices potentials : List ℤ) : Type 0 where
  pub price_amounts : AreAmounts prices
  pub potential_amounts : AreAmounts potentials
  pub plain : IsPlain graph allowed (cert_with prices potentials)
  pub holds : PriceHolds graph allowed (cert_with prices potentials)
  pub tree : IsDecided graph allowed → IsTreeScore graph allowed (price_total graph (cert_with prices potentials))

pub ArePlain-written : (graph : Graph) (allowed : List Bool) (count : ℕ) (prices potentials : List ℤ) (low : Bool)
    → prices ≡ replicate count (pos 0) → count ≡ colour_count graph
    → length potentials ≡ length graph.colours → IsGraph graph → length graph.colours ≤ 512
    → (colour_count graph ≤ 12) ⊎ IsDecided graph allowed
    → AreWritten graph allowed prices potentials low → ArePlain graph allowed prices potentials
ArePlain-written graph allowed count prices potentials low zeros counted long is few decided written =
    choose (cases_Bool low)
  where
    free : (place : ℕ) → number_in prices place ≡ pos 0
    free = rw zeros (clear-replicate count)

    not_below : (place : ℕ) → pos 0 ≤ℤ number_in prices place
    not_below place = rw (free place) (omega (arith, ints))

    not_high : IsTooHigh graph allowed prices → ⊥
    not_high high = pick decided
      where
        pick : (colour_count graph ≤ 12) ⊎ IsDecided graph allowed → ⊥
        pick (inl twelve) = not_high-few graph allowed prices is twelve not_below high
        pick (inr one) = not_high-decided graph allowed prices is few one free high

    fits : FitsPrices graph (cert_with prices potentials)
    fits = record { price_count = ap length zeros ∙ length-replicate count (pos 0) ∙ counted; potential_count = long }

    amounts : AreAmounts prices
    amounts place = rw (free place) IsAmount-zero

    made : low ≡ true → ArePlain graph allowed prices potentials
    made true_is = record {
      price_amounts = amounts;
      potential_amounts = written.amounts true_is;
      plain = record {
        fits = fits;
        prices = λ k d within. get_or_default prices k d (pos 0) within ∙ free k;
        potentials = λ vertex within. written.exact true_is vertex within
            ∙ needed-is graph allowed prices potentials vertex;
      };
      holds = holds-exact graph allowed prices potentials fits amounts (written.exact true_is);
      tree = λ one. tree-plain graph allowed prices potentials is one free (ap total zeros ∙ total-replicate count)
          (written.exact true_is);
    }

    choose : (low ≡ true) ⊎ (low ≡ false) → ArePlain graph allowed prices potentials
    choose (inl true_is) = made true_is
    choose (inr false_is) = absurd (not_high (written.high false_is))
