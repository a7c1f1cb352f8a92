-- One for each, in order.
use Rattle.std.specs.Prelude.{List, [], ◌∷◌, ⊤}

-- the others are as many as the items, and each is right for the item at its place
abbrev pub OneEach : {X Y : Type 0} → (X → Y → Type 0) → List X → List Y → Type 0
OneEach IsRight [] [] = ⊤
OneEach IsRight (item ∷ items) (other ∷ others) = IsRight item other × OneEach IsRight items others
OneEach IsRight items others = ⊥
