-- Sets of the last colours of a graph: a truth value for each of them, the smaller colour first. A list of n stands for
-- the n greatest colours, whatever the number of colours is; so the least colour of a set that holds it is the head of
-- its list, and the rest the tail.
use Rattle.std.specs.Prelude.{◌+◌, ◌*◌, ℕ, Bool, true, false, not, ◌&&◌, IsTrue, List, [], ◌∷◌}
use Rattle.std.specs.List.{AllZip}

-- each colour of a part is one of the set's
abbrev pub IsPartOf : List Bool → List Bool → Type 0
IsPartOf part set = AllZip (λ taken here. IsTrue taken → IsTrue here) part set

-- the set without a part
abbrev pub without : List Bool → List Bool → List Bool
without (here ∷ set) (taken ∷ part) = (here && not taken) ∷ without set part
without set part = []

-- the number whose bits are the truth values, the smallest colour lowest
abbrev pub place_of : List Bool → ℕ
place_of [] = 0
place_of (true ∷ set) = 1 + 2 * place_of set
place_of (false ∷ set) = 2 * place_of set
