-- `OneEach`: how it grows, how many there are, and how items are handed out one after the other.
use Rattle.std.proofs.Common.{◌≡◌, ◌++◌, ℕ, suc, List, [], ◌∷◌, length, sym, ◌∙◌, ap, subst}
use Rattle.std.proofs.Common.{refl, append_assoc, append-nil}
use Rattle.std.specs.List.{flat_map}
use Rattle.right_document.specs.OneEach.{OneEach}

-- one more of each
push : {X Y : Type 0} (IsRight : X → Y → Type 0) (items : List X) (others : List Y) (item : X) (other : Y)
    → OneEach IsRight items others → IsRight item other → OneEach IsRight (items ++ item ∷ []) (others ++ other ∷ [])
push IsRight [] [] item other each is = (is, tt)
push IsRight [] (one ∷ others) item other each is = absurd each
push IsRight (first ∷ items) [] item other each is = absurd each
push IsRight (first ∷ items) (one ∷ others) item other each is =
    (each.0, push IsRight items others item other each.1 is)

pub length-OneEach : {X Y : Type 0} (IsRight : X → Y → Type 0) (items : List X) (others : List Y)
    → OneEach IsRight items others → length others ≡ length items
length-OneEach IsRight [] [] each = refl
length-OneEach IsRight [] (other ∷ others) each = absurd each
length-OneEach IsRight (first ∷ items) [] each = absurd each
length-OneEach IsRight (first ∷ items) (other ∷ others) each = ap suc (length-OneEach IsRight items others each.1)

-- what is told of others and of one more
pub flat_map-push : {Y : Type 0} (told : Y → List ℕ) (others : List Y) (other : Y)
    → flat_map told (others ++ other ∷ []) ≡ flat_map told others ++ told other
flat_map-push told [] other = append-nil (told other)
flat_map-push told (first ∷ others) other =
    ap (λ (bytes : List ℕ). told first ++ bytes) (flat_map-push told others other)
    ∙ sym (append_assoc (told first) (flat_map told others) (told other))

-- One each was made of the items that were handed out; the others wait.
pub record HandedOut {X Y : Type 0} (IsRight : X → Y → Type 0) (all waiting : List X) (made : List Y) : Type 0 where
  pub out : List X
  pub whole : all ≡ out ++ waiting
  pub each : OneEach IsRight out made

pub handed_none : {X Y : Type 0} (IsRight : X → Y → Type 0) (all : List X) → HandedOut IsRight all all []
handed_none IsRight all = record { out = []; whole = refl; each = tt }

pub handed_more : {X Y : Type 0} (IsRight : X → Y → Type 0) (all waiting rest : List X) (made : List Y) (item : X)
    (other : Y)
    → HandedOut IsRight all waiting made → waiting ≡ item ∷ rest → IsRight item other
    → HandedOut IsRight all rest (made ++ other ∷ [])
handed_more {X = X} IsRight all waiting rest made item other handed taken is = record {
  out = handed.out ++ item ∷ [];
  whole = handed.whole ∙ ap (λ (later : List X). handed.out ++ later) taken
      ∙ sym (append_assoc handed.out (item ∷ []) rest);
  each = push IsRight handed.out made item other handed.each is;
}

pub handed_all : {X Y : Type 0} (IsRight : X → Y → Type 0) (all waiting : List X) (made : List Y)
    → HandedOut IsRight all waiting made → waiting ≡ [] → OneEach IsRight all made
handed_all {X = X} IsRight all waiting made handed none =
    subst (λ (items : List X). OneEach IsRight items made)
    (sym (handed.whole ∙ ap (λ (later : List X). handed.out ++ later) none ∙ append-nil handed.out)) handed.each

-- what is told of what was made, and of one more
pub told_more : {Y : Type 0} (told : Y → List ℕ) (made : List Y) (other : Y) (before now next : List ℕ)
    → now ≡ before ++ flat_map told made → next ≡ now ++ told other
    → next ≡ before ++ flat_map told (made ++ other ∷ [])
told_more told made other before now next is more =
    more ∙ ap (λ (bytes : List ℕ). bytes ++ told other) is ∙ append_assoc before (flat_map told made) (told other)
    ∙ ap (λ (bytes : List ℕ). before ++ bytes) (sym (flat_map-push told made other))
