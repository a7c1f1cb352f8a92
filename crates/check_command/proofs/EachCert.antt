-- `EachCert`: a fact of each certificate of a document, of one at a place.
use Rattle.std.proofs.Common.{◌≡◌, ℕ, zero, suc, List, [], ◌∷◌, Some, subst}
use Rattle.std.proofs.lemmas.Option.{same_Some}
use Rattle.std.specs.List.{AllByRecursion}
use Rattle.std.specs.Prelude.{slice_get}

-- what holds of all items holds of the one at a place
pub each_at : {X : Type 0} (Is : X → Type 0) (items : List X) (place : ℕ) (item : X) → AllByRecursion Is items
    → slice_get items place ≡ Some item → Is item
each_at Is [] place item each at = absurd (cc)
each_at Is (first ∷ items) zero item each at = subst Is (same_Some first item at) each.0
each_at Is (first ∷ items) (suc place) item each at = each_at Is items place item each.1 at
