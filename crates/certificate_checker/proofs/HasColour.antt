-- Of HasColour: the sets with a colour stand in blocks of as many as its place says, and between two blocks as many
-- stand that do without it.
use Rattle.std.proofs.Common.{◌≡◌, ◌∙◌, ◌⊎◌, inl, inr, ◌+◌, ◌-◌, ◌*◌, ◌/◌, ◌%◌, ◌^◌, ◌<◌, ◌≤◌, ℕ, suc, ap, arith}
use Rattle.std.proofs.Common.{mul_comm, pow-suc}
use Rattle.std.specs.Int.{IsPowerOfTwo}
use Rattle.std.proofs.lemmas.Bool.{cases_lt}
use Rattle.std.proofs.lemmas.Nat.{div-add-mod', pow-add, row_fits}
use Rattle.std.proofs.Math.Nat.{add-mod_right, div-eq_of_lt, div-eq_of_lt-le, lt_of_mul-lt-mul_right, mod-eq_of_lt}
use Rattle.std.proofs.Math.Nat.{mul-mod_right, pow-le-pow_right}
use Rattle.certificate_checker.specs.inside.Enough.{HasColour}

pub first_block : (colour : ℕ) → 0 < colour → colour % (2 * colour) ≡ colour
first_block colour some = mod-eq_of_lt (omega arith)

pub next_block : (base colour : ℕ) → base % (2 * colour) ≡ colour → (base + 2 * colour) % (2 * colour) ≡ colour
next_block base colour block = add-mod_right base (2 * colour) ∙ block

-- A block ends where all blocks do, or before.
pub block_within : (base colour count : ℕ) → base % (2 * colour) ≡ colour → count % (2 * colour) ≡ 0 → base < count
    → (colour ≤ base) × (base + colour ≤ count)
block_within base colour count block whole within = one (2 * colour) (omega arith) block whole
  where
    one : (double : ℕ) → colour + colour ≡ double → base % double ≡ colour → count % double ≡ 0
        → (colour ≤ base) × (base + colour ≤ count)
    one double is start end =
        let base_is = div-add-mod' base double in
        let count_is = div-add-mod' count double in
        let less : base / double < count / double = lt_of_mul-lt-mul_right double (omega (arith, base_is, count_is)) in
        let fits = row_fits (base / double) double (count / double) double less (omega arith) in
        (omega (arith, base_is), omega (arith, base_is, count_is, fits))

-- no set has the colour before the first block, nor between two blocks
none_before : (place colour : ℕ) → place < colour → HasColour place colour → ⊥
none_before place colour within has = none (place / colour) (div-eq_of_lt within) has
  where
    none : (n : ℕ) → n ≡ 0 → n % 2 ≡ 1 → ⊥
    none n is odd = omega arith

none_between : (base place colour : ℕ) → base % (2 * colour) ≡ colour → base + colour ≤ place
    → place < base + 2 * colour
    → HasColour place colour → ⊥
none_between base place colour block from past has =
    let sum = blocks half colour in
    let next = more (2 * (half + 1)) colour in
    even (place / colour) (div-eq_of_lt-le {k = 2 * (half + 1)} colour (omega (arith, start, sum))
    (omega (arith, start, sum, next))) has
  where
    half : ℕ
    half = base / (2 * colour)

    start : half * (2 * colour) + colour ≡ base
    start = rw block at (div-add-mod' base (2 * colour))

    blocks : (n one : ℕ) → 2 * (n + 1) * one ≡ n * (2 * one) + 2 * one
    blocks n one = omega arith

    more : (n one : ℕ) → (n + 1) * one ≡ n * one + one
    more n one = omega arith

    even : (n : ℕ) → n ≡ 2 * (half + 1) → n % 2 ≡ 1 → ⊥
    even n is odd = omega arith

-- what holds of all sets with the colour, block by block
pub blocks-none : (P : ℕ → Type 0) (colour place : ℕ) → place < colour → HasColour place colour → P place
blocks-none P colour place within has = absurd (none_before place colour within has)

pub blocks-more : (P : ℕ → Type 0) (base colour : ℕ) → base % (2 * colour) ≡ colour
    → ((place : ℕ) → place < base → HasColour place colour → P place)
    → ((place : ℕ) → base ≤ place → place < base + colour → P place)
    → (place : ℕ) → place < base + 2 * colour → HasColour place colour → P place
blocks-more P base colour block before here place within has =
    choose (cases_lt place base) (cases_lt place (base + colour))
  where
    choose : (place < base) ⊎ (base ≤ place) → (place < base + colour) ⊎ (base + colour ≤ place) → P place
    choose (inl earlier) other = before place earlier has
    choose (inr from) (inl past) = here place from past
    choose (inr from) (inr beyond) = absurd (none_between base place colour block beyond within has)

-- All sets of some colours are whole blocks.
pub whole_blocks : (count at : ℕ) → IsPowerOfTwo count → 2 ^ at < count → count % (2 * 2 ^ at) ≡ 0
whole_blocks count at power within =
    rw (power.1 ∙ blocks power.0 (smaller (cases_lt at power.0))) (mul-mod_right (2 * 2 ^ at) (2 ^ (power.0 - suc at)))
  where
    smaller : (at < power.0) ⊎ (power.0 ≤ at) → at < power.0
    smaller (inl less) = less
    smaller (inr most) =
        let no_more : 2 ^ power.0 ≤ 2 ^ at = pow-le-pow_right {n = 2} (omega arith) {i = power.0} {j = at} most in
        absurd (omega (arith, no_more, power.1, within))

    blocks : (size : ℕ) → at < size → 2 ^ size ≡ 2 * 2 ^ at * 2 ^ (size - suc at)
    blocks size less = ap (λ n. 2 ^ n) (rest size less) ∙ pow-add 2 (suc at) (size - suc at)
        ∙ ap (λ n. n * 2 ^ (size - suc at)) (pow-suc 2 at ∙ mul_comm (2 ^ at) 2)
      where
        rest : (n : ℕ) → at < n → n ≡ suc at + (n - suc at)
        rest n is_less = omega arith
