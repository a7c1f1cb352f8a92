-- Counts of two elements by their levels.
use Rattle.std.specs.Prelude.{◌≡◌, ◌≤◌, ◌<◌, ◌+◌, ◌*◌, ℕ}
use Rattle.formula_lister.specs.declared.element.Element.{Element}
use Rattle.formula_lister.specs.declared.levels.Rest.{Rest}
use Rattle.formula_lister.specs.inside.Elements.{ArePaired, IsKnown}

-- two elements, of which the second alone is counted after the first
pub record IsPair (next last : Element) : Type 0 where
  pub known : IsKnown next
  pub last_known : IsKnown last
  pub paired : ArePaired next.mass last.mass next.levels
  pub reach : next.after ≡ last.limit * last.mass

-- beside the chosen mass, the count and the level leave so much over of the greatest mass
pub record IsLevel (most chosen : ℕ) (next last : Element) (rest : Rest) : Type 0 where
  pub parts : most + rest.count * next.levels.defect.number ≡ chosen + (rest.level * last.mass + rest.over)
  pub small : rest.over < last.mass

-- counts of both elements whose mass is within bounds, beside the chosen mass
pub record Fits (least most chosen : ℕ) (next last : Element) (count atoms : ℕ) : Type 0 where
  pub within_limit : atoms ≤ last.limit
  pub not_below : least ≤ chosen + (count * next.mass + atoms * last.mass)
  pub not_above : chosen + (count * next.mass + atoms * last.mass) ≤ most
