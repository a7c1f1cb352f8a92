-- What the parts of the lister say of counts, and of the list that they add to.
use Rattle.std.specs.Prelude.{◌≡◌, ◌≢◌, ◌≤◌, ◌<◌, ◌+◌, ◌*◌, ◌↔◌, ℕ, List, [], ◌∷◌, ◌++◌, length, slice_index}
use Rattle.std.specs.List.{AllPairs, Contains}
use Rattle.element_table.specs.Elements.{formula_places}
use Rattle.element_table.specs.Formula.{IsWithin, mass_of}
use Rattle.element_table.specs.Rule.{Rule, Passes}
use Rattle.formula_lister.specs.declared.chosen.Bounds.{Bounds}
use Rattle.formula_lister.specs.declared.element.Element.{Element}
use Rattle.element_table.specs.FormulaList.{greatest_list}
use Rattle.formula_lister.specs.inside.Elements.{AreElements, IsUncounted, NoneChosen}

-- counts within the limits, to which those of some elements may be added
pub record IsReady (bounds : Bounds) (elements : List Element) (chosen : List ℕ) : Type 0 where
  pub known : AreElements bounds.limits elements
  pub none : NoneChosen elements chosen
  pub places : length chosen ≡ formula_places
  pub within_limits : IsWithin chosen bounds.limits

-- beside the chosen counts and one of the next element, the rest of the greatest mass holds so many atoms of the last
-- element, and less than one more
pub record IsRest (bounds : Bounds) (next last : Element) (chosen : List ℕ) (count atoms over : ℕ) : Type 0 where
  pub ready : IsReady bounds (next ∷ last ∷ []) chosen
  pub within_limit : count ≤ next.limit
  pub parts : bounds.most ≡ mass_of chosen + count * next.mass + (atoms * last.mass + over)
  pub small : over < last.mass

-- a formula that the bounds and the rules allow
pub record IsCandidate (bounds : Bounds) (rules : List Rule) (counts : List ℕ) : Type 0 where
  pub places : length counts ≡ formula_places
  pub within_limits : IsWithin counts bounds.limits
  pub not_below : bounds.least ≤ mass_of counts
  pub not_above : mass_of counts ≤ bounds.most
  pub passes : Passes rules counts

-- a candidate with the chosen count at every place but those of some elements
pub record Completes (bounds : Bounds) (rules : List Rule) (elements : List Element) (chosen counts : List ℕ)
    : Type 0 where
  pub candidate : IsCandidate bounds rules counts
  pub shares : (place : ℕ) → IsUncounted elements place → slice_index counts place ≡ slice_index chosen place

-- counts that are these, and pass the rules
abbrev pub IsOne : List Rule → List ℕ → List ℕ → Type 0
IsOne rules one counts = (one ≡ counts) × Passes rules counts

-- A list gains at its end exactly the count lists of which something holds, each once.
pub record Gains (IsNew : List ℕ → Type 0) (before now : List (List ℕ)) : Type 0 where
  pub added : List (List ℕ)
  pub is : now ≡ before ++ added
  pub members : (counts : List ℕ) → Contains added counts ↔ IsNew counts
  pub distinct : AllPairs (λ first later. first ≢ later) added

-- Different count lists, of each of which something holds, that are more than there is room for after a list.
pub record Overfills (IsNew : List ℕ → Type 0) (before : List (List ℕ)) : Type 0 where
  pub found : List (List ℕ)
  pub members : (counts : List ℕ) → Contains found counts → IsNew counts
  pub distinct : AllPairs (λ first later. first ≢ later) found
  pub too_many : greatest_list < length before + length found
