-- The levels of counts of two elements.
use Rattle.std.proofs.Common.{◌≡◌, ℕ, ◌+◌, ◌-◌, ◌*◌, ◌<◌, ◌≤◌, inl, inr, ap, arith}
use Rattle.std.proofs.lemmas.Bool.{cases_lt}
use Rattle.std.proofs.Math.Nat.{mul-le-mul_right}

-- the mass of a level is that of its counts and their defects
pub level_mass : (per mass other defect count atoms : ℕ) → per * other ≡ mass + defect
    → (per * count + atoms) * other ≡ count * mass + atoms * other + count * defect
level_mass per mass other defect count atoms whole = omega (arith, ap (λ n. count * n) whole)

-- of two products that are close the factors are no less close
pub factor-le : (first second size : ℕ) → first * size < second * size + size → first ≤ second
factor-le first second size close = elim (cases_lt second first) [
  | inl less ↦
      let one_more : second + 1 ≤ first = omega arith in
      absurd (omega (arith, mul-le-mul_right size one_more))
  | inr not ↦ omega arith
]

-- where the last element alone reaches a mass, no counts with the mass have a lower level than that
pub first_level-by_last : (per mass other defect least level count atoms : ℕ) → per * other ≡ mass + defect
    → level * other < least + other → least ≤ count * mass + atoms * other → level ≤ per * count + atoms
first_level-by_last per mass other defect least level count atoms whole close reached =
    factor-le level (per * count + atoms) other
    (omega (arith, close, reached, level_mass per mass other defect count atoms whole))

-- where it does not, atoms of the next element have to
pub first_level-by_next : (per mass other defect limit missing further count atoms : ℕ)
    → per * other ≡ mass + defect → further * mass < per * missing + mass → atoms ≤ limit
    → limit * other + missing ≤ count * mass + atoms * other → limit + further ≤ per * count + atoms
first_level-by_next per mass other defect limit missing further count atoms whole close within reached =
    let scaled : (limit * other + missing) * per ≤ (count * mass + atoms * other) * per = mul-le-mul_right per reached in
    let full : limit * (per * other) ≡ limit * (mass + defect) = ap (λ n. limit * n) whole in
    let part : atoms * (per * other) ≡ atoms * (mass + defect) = ap (λ n. atoms * n) whole in
    factor-le (limit + further) (per * count + atoms) mass
    (omega (arith, close, scaled, full, part, mul-le-mul_right defect within))

pub first_level-enough : (per mass other defect limit missing further : ℕ)
    → per * other ≡ mass + defect → 1 ≤ per → per * missing ≤ further * mass
    → limit * other + missing ≤ (limit + further) * other
first_level-enough per mass other defect limit missing further whole several enough =
    elim (cases_lt (further * other) missing) [
      | inl less ↦
          let one_more : further * other + 1 ≤ missing = omega arith in
          let whole_atoms : further * (per * other) ≡ further * (mass + defect) = ap (λ n. further * n) whole in
          absurd (omega (arith, several, enough, mul-le-mul_right per one_more, whole_atoms))
      | inr not ↦ omega arith
    ]

-- less than one defect is none
pub none_of_less : (count defect : ℕ) → count * defect < defect → count ≡ 0
none_of_less count defect less = omega (arith, factor-le count 0 defect (omega arith))

-- counts with a mass of at most so much have as many defects as their level is above it
pub first_count : (per mass other defect level weight rest ahead first count atoms : ℕ) → per * other ≡ mass + defect
    → level ≤ per * count + atoms → weight ≡ level * other → weight ≤ rest + ahead → (rest < weight → rest + ahead ≡ weight)
    → (weight ≤ rest → ahead ≡ 0) → first * defect < ahead + defect → count * mass + atoms * other ≤ rest → first ≤ count
first_count per mass other defect level weight rest ahead first count atoms whole lower is enough above below close
    light =
    let reached = mul-le-mul_right other lower in
    let ahead_of : ahead ≤ count * defect = elim (cases_lt rest weight) [
      | inl more ↦ omega (arith, above more, is, reached, light, level_mass per mass other defect count atoms whole)
      | inr not ↦ omega (arith, below (omega arith))
    ] in
    factor-le first count defect (omega (arith, close, ahead_of))

-- a jump and one more where the rest over is less than the spare keep the sum
pub jump_same : (level other over count jump more defect spare now : ℕ) → other ≡ jump * defect + spare
    → (over < spare → (more ≡ 1) × (now + spare ≡ over + defect)) → (spare ≤ over → (more ≡ 0) × (now + spare ≡ over))
    → (level + 1) * other + now + count * defect ≡ level * other + over + (count + jump + more) * defect
jump_same level other over count jump more defect spare now jumps borrowed enough = elim (cases_lt over spare) [
  | inl less ↦
      omega (arith, jumps, (borrowed less).1, ap (λ n. n * defect) (borrowed less).0)
  | inr not ↦ omega (arith, jumps, (enough (omega arith)).1, ap (λ n. n * defect) (enough (omega arith)).0)
]

-- a whole is divided in one way
pub same_level : (other level over more left : ℕ) → over < other → left < other
    → level * other + over ≡ more * other + left → over ≡ left
same_level other level over more left small small_left same =
    let up = factor-le level more other (omega (arith, same, small, small_left)) in
    let down = factor-le more level other (omega (arith, same, small, small_left)) in
    let is : level ≡ more = omega (arith, up, down) in
    omega (arith, same, ap (λ n. n * other) is)

-- all counts of a jump but the first leave too much over
pub jump_none : (level other over count jump more defect spare width later further left : ℕ)
    → other ≡ jump * defect + spare → over < defect → (over < spare → more ≡ 1) → (spare ≤ over → more ≡ 0)
    → 1 ≤ jump → width < over + defect → width < other → left ≤ width → count < further
    → later * other + left + count * defect ≡ level * other + over + further * defect → count + jump + more ≤ further
jump_none level other over count jump more defect spare width later further left jumps small borrowed enough some wide
    narrow fits after same = elim (cases_lt further (count + jump + more)) [
      | inl less ↦
          let steps = further - count in
          let is : further ≡ count + steps = omega arith in
          let one : 1 ≤ steps = omega arith in
          let few : steps + 1 ≤ jump + more = omega (arith, less) in
          let product : further * defect ≡ (count + steps) * defect = ap (λ n. n * defect) is in
          let here : later * other + left ≡ level * other + (over + steps * defect) = omega (arith, same, product) in
          let within : over + steps * defect < other = elim (cases_lt over spare) [
            | inl small_over ↦
                omega (
                  arith,
                  jumps,
                  ap (λ n. n * defect) (borrowed small_over),
                  mul-le-mul_right defect few,
                )
            | inr not ↦
                omega (
                  arith,
                  jumps,
                  ap (λ n. n * defect) (enough (omega arith)),
                  mul-le-mul_right defect few,
                )
          ] in
          let over_is =
          same_level other later left level (over + steps * defect) (omega (arith, fits, narrow)) within here in
          absurd (omega (arith, over_is, fits, wide, mul-le-mul_right defect one))
      | inr not ↦ omega arith
    ]
