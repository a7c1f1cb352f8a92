-- Of formula_text: a text that is made of a part for each place.
use Rattle.std.proofs.Common.{◌≡◌, ◌<◌, ◌+◌, ℕ, List, [], ◌++◌, length, take, get_or, ap, sym, ◌∙◌}
use Rattle.std.proofs.lemmas.List.{flat_map_more, take_more}
use Rattle.std.specs.List.{flat_map}

-- the text so far and the next part are the text one place further
pub flat_map-next : (part : ℕ → List ℕ) (places so_far next : List ℕ) (i : ℕ) → i < length places
    → so_far ≡ flat_map part (take i places) → next ≡ so_far ++ part (get_or places i 0) → next
    ≡ flat_map part (take (i + 1) places)
flat_map-next part places so_far next i within before more =
    more
    ∙ ap (λ text. text ++ part (get_or places i 0)) before
    ∙ flat_map_more part [] (take i places) (get_or places i 0)
    ∙ ap (flat_map part) (sym (take_more places i 0 within))
