-- Of the definitions: worked examples, computed.
use Rattle.std.specs.Prelude.{◌≡◌, ◌/◌, ℕ, List, [], ◌∷◌, ◌++◌, replicate, refl}
use Rattle.blowup_bounds.specs.Coarse.{coarse_at, coarse_sum, coarse_unit, greatest_rest, least_coarse, rest_at}

-- the places of hydrogen, carbon, nitrogen and oxygen
abbrev hcno : List ℕ
hcno = 1 ∷ 0 ∷ 2 ∷ 3 ∷ []

abbrev water : List ℕ
water = (2 ∷ 0 ∷ 0 ∷ 1 ∷ []) ++ replicate 12 0

coarse_at-hydrogen : coarse_at 0 ≡ 10078
coarse_at-hydrogen = refl

rest_at-hydrogen : rest_at 0 ≡ 250
rest_at-hydrogen = refl

-- within 100 units of water
least_coarse-water : least_coarse 180105546 180105746 hcno ≡ 180102
least_coarse-water = refl

most_coarse-water : 180105746 / coarse_unit ≡ 180105
most_coarse-water = refl

coarse_sum-water : coarse_sum water ≡ 180105
coarse_sum-water = refl

-- without hydrogen's rest the range would begin above water's coarse sum
greatest_rest-without_hydrogen : greatest_rest 180105746 (1 ∷ 3 ∷ []) ≡ 164
greatest_rest-without_hydrogen = refl
