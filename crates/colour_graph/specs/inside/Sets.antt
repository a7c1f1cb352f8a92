-- What putting edges back leaves of a set.
use Rattle.std.specs.Prelude.{◌≡◌, ◌&&◌, ◌||◌, ℕ, Bool, List, length}
use Rattle.colour_graph.specs.EdgeSet.{is_allowed, is_named}

-- an edge is in the set where it was, or where the part names it and it is in the other set
pub record AreBack (old new other : List Bool) (part : List ℕ) : Type 0 where
  pub long : length new ≡ length old
  pub each : (edge : ℕ) → is_allowed new edge ≡ (is_allowed old edge || (is_allowed other edge && is_named part edge))
