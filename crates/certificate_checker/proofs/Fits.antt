-- Numbers of a table and what edges gain fit their type, and tests of two numbers say what they are.
use Rattle.std.proofs.Common.{◌≡◌, ℤ, pos, negsuc, ◌+ℤ◌, ◌≤ℤ◌, ◌<ℤ◌, true, false, arith, rules, SFits, w32, w64}
use lib.Signed.{le_z, lt_z}
use Rattle.std.proofs.lemmas.Int.{ints}
use Rattle.colour_graph.specs.Graph.{IsScore}
use Rattle.certificate_checker.specs.inside.Enough.{IsGain, IsNumber}

-- Numbers and gains fit their type.
fits : (z : ℤ) → negsuc 1999999999999999 ≤ℤ z → z ≤ℤ pos 1000000000100000 → SFits w64 z
fits (pos n) low high = record { sfits = omega (arith, ints) }
fits (negsuc n) low high = record { sfits = omega (arith, ints) }

pub SFits-gain : (gain : ℤ) → IsGain gain → SFits w64 gain
SFits-gain gain is = fits gain is.not_below is.not_above

pub SFits-number : (number : ℤ) → IsNumber number → SFits w64 number
SFits-number number is = fits number (low number is.not_below) (high number is.not_above)
  where
    low : (z : ℤ) → negsuc 999999999999999 ≤ℤ z → negsuc 1999999999999999 ≤ℤ z
    low z is = omega (arith, ints)

    high : (z : ℤ) → z ≤ℤ pos 1000000000000000 → z ≤ℤ pos 1000000000100000
    high z is = omega (arith, ints)

-- A test of two numbers, by what they are.
less : (a b : ℤ) → lt_z a b ≡ true → a <ℤ b
less a b is = grind (arith, ints)

not_less : (a b : ℤ) → lt_z a b ≡ false → b ≤ℤ a
not_less a b is = grind (arith, ints)

pub less-as : (a b one other : ℤ) → a ≡ one → b ≡ other → lt_z a b ≡ true → one <ℤ other
less-as a b one other same equal is = less one other (rw (← same, ← equal) is)

pub not_less-as : (a b one other : ℤ) → a ≡ one → b ≡ other → lt_z a b ≡ false → other ≤ℤ one
not_less-as a b one other same equal is = not_less one other (rw (← same, ← equal) is)

at_most : (a b : ℤ) → le_z a b ≡ true → a ≤ℤ b
at_most a b is = grind (arith, ints)

pub at_most-as : (a b one other : ℤ) → a ≡ one → b ≡ other → le_z a b ≡ true → one ≤ℤ other
at_most-as a b one other same equal is = at_most one other (rw (← same, ← equal) is)

-- the root's score, as a type of fewer bits has it
pub SFits-score : (score : ℤ) → IsScore score → SFits w32 score
SFits-score score is =
    let low : negsuc 99999 ≤ℤ score = is.not_below in
    let high : score ≤ℤ pos 100000 = is.not_above in
    search rules

pub SFits-total : (score number : ℤ) → IsScore score → IsNumber number → SFits w64 (score +ℤ number)
SFits-total score number is near = fits (score +ℤ number) (low score number is.not_below near.not_below)
    (high score number is.not_above near.not_above)
  where
    low : (a b : ℤ) → negsuc 99999 ≤ℤ a → negsuc 999999999999999 ≤ℤ b → negsuc 1999999999999999 ≤ℤ (a +ℤ b)
    low a b one other = omega (arith, ints)

    high : (a b : ℤ) → a ≤ℤ pos 100000 → b ≤ℤ pos 1000000000000000 → (a +ℤ b) ≤ℤ pos 1000000000100000
    high a b one other = omega (arith, ints)
