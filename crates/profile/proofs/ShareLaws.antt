-- The first of the pairs that are left of an array, and of the losses of a table. It serves `shares_of`, `losses_of`.
use Rattle.std.proofs.Common.{◌≡◌, ◌+◌, ◌<◌, ℕ, ℤ, List, [], ◌∷◌, ◌++◌, append_assoc, drop, get_or, length, pos, sym}
use Rattle.std.proofs.Common.{unwrap_or}
use Rattle.element_table.specs.Rule.{IsNearZero}
use Rattle.score_tables.specs.Tables.{greatest_score}
use Rattle.toml.proofs.Views.{items_view-drop}
use Rattle.toml.specs.Data.{Data, Members, as_integer, member}
use Rattle.toml.specs.View.{items_view, view}
use Rattle.toml.specs.declared.value.Value.{Value}
use Rattle.profile.specs.Values.{loss_said, losses_said, pair_said, shares_said}
use Rattle.profile.specs.inside.Fine.{AreNearScores, AreShareItems, IsShareItem}

pub first_share : (items : List Value) (i : ℕ) (item : Value) → i < length items → item ≡ get_or items i item
    → AreShareItems (items_view (drop i items))
    → IsShareItem (view item) × AreShareItems (items_view (drop (i + 1) items))
first_share items i item inside is right = rw (items_view-drop items i item inside, sym is) at right

pub share_more : (items : List Value) (i : ℕ) (item : Value) (pairs : List (ℕ × ℤ)) → i < length items
    → item ≡ get_or items i item
    → (pairs ++ pair_said (view item) ∷ []) ++ shares_said (items_view (drop (i + 1) items))
    ≡ pairs ++ shares_said (items_view (drop i items))
share_more items i item pairs inside is = rw (items_view-drop items i item inside, sym is) (append_assoc pairs _ _)

pub first_score : (left : Members) (key : List ℕ) (value : Data) (rest : Members) → left ≡ member key value rest
    → AreNearScores left → IsNearZero greatest_score (unwrap_or (as_integer value) (pos 0)) × AreNearScores rest
first_score left key value rest steps near = rw steps at near

pub score_more : (left : Members) (key : List ℕ) (value : Data) (rest : Members) (losses : List (List ℕ × ℤ))
    → left ≡ member key value rest
    → (losses ++ loss_said key value ∷ []) ++ losses_said rest ≡ losses ++ losses_said left
score_more left key value rest losses steps = rw steps (append_assoc losses _ _)
