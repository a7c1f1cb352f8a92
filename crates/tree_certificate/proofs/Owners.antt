-- Owners: each of the last colours has a vertex that owns it, and the colours of a vertex are a set.
use Rattle.std.proofs.Common.{◌≡◌, ◌≢◌, ◌⊎◌, inl, inr, ℕ, suc, Bool, true, false, cond, not, ◌&&◌, eqb, IsTrue, List}
use Rattle.std.proofs.Common.{[], ◌∷◌, length, replicate, ap, sym, refl, ap₂, ◌∙◌}
use Rattle.std.proofs.lemmas.Bool.{cases_eq, cond-false, cond-true, eq-eqb, ne_eqb}
use Rattle.tree_certificate.specs.ColourSet.{IsPartOf, without}
use Rattle.tree_certificate.proofs.Sums.{IsIn}

-- the colours that a vertex owns
abbrev pub owned : ℕ → List ℕ → List Bool
owned vertex [] = []
owned vertex (owner ∷ owners) = eqb owner vertex ∷ owned vertex owners

-- One vertex passes all its colours to another.
abbrev pub pass : ℕ → ℕ → List ℕ → List ℕ
pass from to [] = []
pass from to (owner ∷ owners) = cond (eqb owner from) to owner ∷ pass from to owners

pub length-owned : (vertex : ℕ) (owners : List ℕ) → length (owned vertex owners) ≡ length owners
length-owned vertex [] = refl
length-owned vertex (owner ∷ owners) = ap suc (length-owned vertex owners)

pub length-pass : (from to : ℕ) (owners : List ℕ) → length (pass from to owners) ≡ length owners
length-pass from to [] = refl
length-pass from to (owner ∷ owners) = ap suc (length-pass from to owners)

-- the cases of one owner
passed-other : (from to vertex owner : ℕ) → vertex ≢ from → vertex ≢ to
    → eqb (cond (eqb owner from) to owner) vertex ≡ eqb owner vertex
passed-other from to vertex owner not_from not_to = choose (cases_eq owner from)
  where
    choose : (owner ≡ from) ⊎ (owner ≡ from → ⊥) → eqb (cond (eqb owner from) to owner) vertex ≡ eqb owner vertex
    choose (inl is) =
        ap (λ o. eqb o vertex) (cond-true (eqb owner from) to owner (eq-eqb owner from is))
        ∙ ne_eqb to vertex (λ same. not_to (sym same))
        ∙ sym (ne_eqb owner vertex (λ same. not_from (sym same ∙ is)))
    choose (inr apart) = ap (λ o. eqb o vertex) (cond-false (eqb owner from) to owner (ne_eqb owner from apart))

passed-part : (from to owner : ℕ) → IsTrue (eqb owner from) → IsTrue (eqb (cond (eqb owner from) to owner) to)
passed-part from to owner is = ap (λ o. eqb o to) (cond-true (eqb owner from) to owner is) ∙ eq-eqb to to refl

passed-without : (from to owner : ℕ) → from ≢ to → (eqb (cond (eqb owner from) to owner) to && not (eqb owner from)) ≡
    eqb owner to
passed-without from to owner apart = choose (cases_eq owner from)
  where
    choose : (owner ≡ from) ⊎ (owner ≡ from → ⊥) → (eqb (cond (eqb owner from) to owner) to && not (eqb owner from)) ≡
        eqb owner to
    choose (inl is) = rw (eq-eqb owner from is) (and_false (eqb to to)
        ∙ sym (ne_eqb owner to (λ same. apart (sym is ∙ same))))
      where
        and_false : (b : Bool) → (b && false) ≡ false
        and_false true = refl
        and_false false = refl
    choose (inr other) = rw (ne_eqb owner from other) (and_true (eqb owner to))
      where
        and_true : (b : Bool) → (b && true) ≡ b
        and_true true = refl
        and_true false = refl

-- All others own what they did.
pub owned-pass_other : (from to vertex : ℕ) (owners : List ℕ) → vertex ≢ from → vertex ≢ to
    → owned vertex (pass from to owners) ≡ owned vertex owners
owned-pass_other from to vertex [] not_from not_to = refl
owned-pass_other from to vertex (owner ∷ owners) not_from not_to =
    ap₂ (λ b bs. b ∷ bs) (passed-other from to vertex owner not_from not_to)
    (owned-pass_other from to vertex owners not_from not_to)

-- What was passed is a part of what the other owns then, and the rest is what it owned before.
pub IsPartOf-pass : (from to : ℕ) (owners : List ℕ) → IsPartOf (owned from owners) (owned to (pass from to owners))
IsPartOf-pass from to [] = tt
IsPartOf-pass from to (owner ∷ owners) = (passed-part from to owner, IsPartOf-pass from to owners)

pub without-pass : (from to : ℕ) (owners : List ℕ) → from ≢ to
    → without (owned to (pass from to owners)) (owned from owners) ≡ owned to owners
without-pass from to [] apart = refl
without-pass from to (owner ∷ owners) apart =
    ap₂ (λ b bs. b ∷ bs) (passed-without from to owner apart) (without-pass from to owners apart)

-- One vertex owns all.
pub owned-all : (vertex : ℕ) (owners : List ℕ) (size : ℕ) → length owners ≡ size
    → ((owner : ℕ) → IsIn owner owners → owner ≡ vertex) → owned vertex owners ≡ replicate size true
owned-all vertex [] size long each = rw (← long) refl
owned-all vertex (owner ∷ owners) size long each =
    rw (← long) (ap₂ (λ b bs. b ∷ bs) (eq-eqb owner vertex (each owner (inl refl)))
    (owned-all vertex owners (length owners) refl (λ o within. each o (inr within))))

-- An owner after the passing is the one that was passed to, or an owner from before that did not pass.
pub IsIn-pass : (from to owner : ℕ) (owners : List ℕ) → IsIn owner (pass from to owners)
    → (owner ≡ to) ⊎ ((IsIn owner owners) × (owner ≢ from))
IsIn-pass from to owner [] within = absurd within
IsIn-pass from to owner (first ∷ owners) (inl is) = choose (cases_eq first from)
  where
    choose : (first ≡ from) ⊎ (first ≡ from → ⊥) → (owner ≡ to) ⊎ ((IsIn owner (first ∷ owners)) × (owner ≢ from))
    choose (inl same) = inl (is ∙ cond-true (eqb first from) to first (eq-eqb first from same))
    choose (inr apart) =
        let same : owner ≡ first = is ∙ cond-false (eqb first from) to first (ne_eqb first from apart) in
        inr (inl same, λ other. apart (sym same ∙ other))
IsIn-pass from to owner (first ∷ owners) (inr later) = choose (IsIn-pass from to owner owners later)
  where
    choose : (owner ≡ to) ⊎ ((IsIn owner owners) × (owner ≢ from))
        → (owner ≡ to) ⊎ ((IsIn owner (first ∷ owners)) × (owner ≢ from))
    choose (inl is) = inl is
    choose (inr (within, apart)) = inr (inr within, apart)
