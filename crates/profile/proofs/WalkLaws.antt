-- What one key or item more adds to the places of a walk. It serves `add_keys`, `add_items` and `add_losses`.
use Rattle.std.proofs.Common.{◌≡◌, ◌∙◌, ◌+◌, ◌<◌, ℕ, suc, List, ◌∷◌, ◌++◌, get_or, length, drop, sym, ap}
use Rattle.std.proofs.Common.{append_assoc, drop-cons, add-one}
use Rattle.std.specs.Prelude.{decimal}
use Rattle.toml.specs.Data.{Data, Members, member}
use Rattle.toml.specs.View.{items_view, view}
use Rattle.toml.specs.declared.value.Value.{Value}
use Rattle.profile.specs.Form.{Form, Known, form_at, item_form, loss}
use Rattle.profile.specs.Losses.{is_free, key_formula, taken_with}
use Rattle.profile.specs.Places.{Place, places_of_items, places_of_keys, places_of_losses, places_under, point_after}
use Rattle.profile.specs.inside.Searched.{one_place}

pub key_more : (known : Known) (form : Form) (before key : List ℕ) (value : Data) (rest : Members)
    (places added more : List Place) (own : Form) (name under : List ℕ)
    → added ≡ places ++ one_place name own value → more ≡ added ++ places_under known own under value
    → under ≡ point_after name → own ≡ form_at known form key → name ≡ before ++ key
    → more ++ places_of_keys known form before rest
    ≡ places ++ places_of_keys known form before (member key value rest)
key_more known form before key value rest places added more own name under at_place below is_under at_key named =
    rw (below, at_place, is_under, at_key, named) (append_assoc (places ++ _) _ _ ∙ append_assoc places _ _)

pub item_more : (known : Known) (form : Form) (before : List ℕ) (items : List Value) (i : ℕ) (item : Value)
    (places added more : List Place) (own : Form) (under : List ℕ) → i < length items → item ≡ get_or items i item
    → added ≡ places ++ one_place (before ++ decimal i) own (view item)
    → more ≡ added ++ places_under known own under (view item)
    → under ≡ point_after (before ++ decimal i) → own ≡ item_form form i
    → more ++ places_of_items known form before (i + 1) (items_view (drop (i + 1) items))
    ≡ places ++ places_of_items known form before i (items_view (drop i items))
item_more known form before items i item places added more own under inside is at_place below is_under at_item =
    let parted : drop i items ≡ item ∷ drop (i + 1) items =
    rw add-one (drop-cons items i item inside ∙ ap (λ first. first ∷ drop (suc i) items) (sym is)) in
    rw (parted, below, at_place, is_under, at_item) (append_assoc (places ++ _) _ _ ∙ append_assoc places _ _)

pub loss_more : (taken taken' : List (List ℕ)) (before key : List ℕ) (value : Data) (rest : Members)
    (places added : List Place)
    → added ≡ places ++ one_place (before ++ key) (loss (is_free taken (key_formula key))) value
    → taken' ≡ taken_with taken (key_formula key)
    → added ++ places_of_losses taken' before rest ≡ places ++ places_of_losses taken before (member key value rest)
loss_more taken taken' before key value rest places added at_place takes =
    rw (at_place, takes) (append_assoc places _ _)
