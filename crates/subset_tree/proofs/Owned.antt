-- What vertices own after a part of one's colours was given to another, for reading a best list out of a table.
use Rattle.std.proofs.Common.{◌≡◌, ◌≢◌, ◌⊎◌, inl, inr, ℕ, zero, suc, Bool, true, false, ◌&&◌, eqb, List, [], ◌∷◌}
use Rattle.std.proofs.Common.{length, replicate, ap, ap₂, sym, refl, ◌∙◌}
use Rattle.std.proofs.lemmas.Bool.{eq-eqb, eqb-true, ne_eqb}
use Rattle.tree_certificate.specs.ColourSet.{IsPartOf, without}
use Rattle.tree_certificate.proofs.Sums.{IsIn}
use Rattle.subset_tree.specs.inside.Rebuilding.{given, owned}

pub length-owned : (vertex : ℕ) (owners : List ℕ) → length (owned vertex owners) ≡ length owners
length-owned vertex [] = refl
length-owned vertex (owner ∷ owners) = ap suc (length-owned vertex owners)

pub length-given : (part : List Bool) (vertex : ℕ) (owners : List ℕ) → length (given part vertex owners) ≡ length owners
length-given part vertex [] = refl
length-given [] vertex (owner ∷ owners) = refl
length-given (taken ∷ part) vertex (owner ∷ owners) = ap suc (length-given part vertex owners)

-- A part has a truth value for each of the set's.
pub length-part : (part set : List Bool) → IsPartOf part set → length part ≡ length set
length-part [] [] is_part = refl
length-part [] (here ∷ set) is_part = absurd is_part
length-part (taken ∷ part) [] is_part = absurd is_part
length-part (taken ∷ part) (here ∷ set) is_part = ap suc (length-part part set is_part.1)

-- An owner after the giving is the one that was given to, or was one before.
pub IsIn-given : (part : List Bool) (vertex owner : ℕ) (owners : List ℕ) → IsIn owner (given part vertex owners)
    → (owner ≡ vertex) ⊎ IsIn owner owners
IsIn-given part vertex owner [] within = absurd within
IsIn-given [] vertex owner (first ∷ owners) within = inr within
IsIn-given (true ∷ part) vertex owner (first ∷ owners) (inl is) = inl is
IsIn-given (false ∷ part) vertex owner (first ∷ owners) (inl is) = inr (inl is)
IsIn-given (taken ∷ part) vertex owner (first ∷ owners) (inr later) = choose (IsIn-given part vertex owner owners later)
  where
    choose : (owner ≡ vertex) ⊎ IsIn owner owners → (owner ≡ vertex) ⊎ IsIn owner (first ∷ owners)
    choose (inl is) = inl is
    choose (inr within) = inr (inr within)

-- One that owned nothing owns the part.
pub owned-given_new : (part : List Bool) (vertex : ℕ) (owners : List ℕ) → length part ≡ length owners
    → ((owner : ℕ) → IsIn owner owners → owner ≢ vertex)
    → owned vertex (given part vertex owners) ≡ part
owned-given_new [] vertex [] long apart = refl
owned-given_new [] vertex (owner ∷ owners) long apart = cc
owned-given_new (taken ∷ part) vertex [] long apart = cc
owned-given_new (true ∷ part) vertex (owner ∷ owners) long apart =
    ap₂ (λ b bs. b ∷ bs) (eq-eqb vertex vertex refl)
    (owned-given_new part vertex owners (cc) (λ o within. apart o (inr within)))
owned-given_new (false ∷ part) vertex (owner ∷ owners) long apart =
    ap₂ (λ b bs. b ∷ bs) (ne_eqb owner vertex (apart owner (inl refl)))
    (owned-given_new part vertex owners (cc) (λ o within. apart o (inr within)))

-- The one that gave owns the rest.
pub owned-given_from : (part : List Bool) (from vertex : ℕ) (owners : List ℕ) → from ≢ vertex
    → IsPartOf part (owned from owners)
    → owned from (given part vertex owners) ≡ without (owned from owners) part
owned-given_from [] from vertex [] apart is_part = refl
owned-given_from [] from vertex (owner ∷ owners) apart is_part = absurd is_part
owned-given_from (taken ∷ part) from vertex [] apart is_part = absurd is_part
owned-given_from (true ∷ part) from vertex (owner ∷ owners) apart is_part =
    ap₂ (λ b bs. b ∷ bs) (ne_eqb vertex from (λ same. apart (sym same)) ∙ sym (and_false (eqb owner from)))
    (owned-given_from part from vertex owners apart is_part.1)
  where
    and_false : (b : Bool) → (b && false) ≡ false
    and_false true = refl
    and_false false = refl
owned-given_from (false ∷ part) from vertex (owner ∷ owners) apart is_part =
    ap₂ (λ b bs. b ∷ bs) (sym (and_true (eqb owner from))) (owned-given_from part from vertex owners apart is_part.1)
  where
    and_true : (b : Bool) → (b && true) ≡ b
    and_true true = refl
    and_true false = refl

-- All others own what they did.
pub owned-given_other : (part : List Bool) (from vertex other : ℕ) (owners : List ℕ) → other ≢ from → other ≢ vertex
    → IsPartOf part (owned from owners)
    → owned other (given part vertex owners) ≡ owned other owners
owned-given_other [] from vertex other [] not_from not_vertex is_part = refl
owned-given_other [] from vertex other (owner ∷ owners) not_from not_vertex is_part = refl
owned-given_other (taken ∷ part) from vertex other [] not_from not_vertex is_part = refl
owned-given_other (true ∷ part) from vertex other (owner ∷ owners) not_from not_vertex is_part =
    ap₂ (λ b bs. b ∷ bs)
    (ne_eqb vertex other (λ same. not_vertex (sym same))
    ∙ sym (ne_eqb owner other (λ same. not_from (sym same ∙ eqb-true owner from (is_part.0 refl)))))
    (owned-given_other part from vertex other owners not_from not_vertex is_part.1)
owned-given_other (false ∷ part) from vertex other (owner ∷ owners) not_from not_vertex is_part =
    ap (λ bs. eqb owner other ∷ bs) (owned-given_other part from vertex other owners not_from not_vertex is_part.1)

-- At first one vertex owns all.
pub owned-all : (vertex size : ℕ) → owned vertex (replicate size vertex) ≡ replicate size true
owned-all vertex zero = refl
owned-all vertex (suc size) = ap₂ (λ b bs. b ∷ bs) (eq-eqb vertex vertex refl) (owned-all vertex size)

pub IsIn-replicate : (vertex owner size : ℕ) → IsIn owner (replicate size vertex) → owner ≡ vertex
IsIn-replicate vertex owner zero within = absurd within
IsIn-replicate vertex owner (suc size) (inl is) = is
IsIn-replicate vertex owner (suc size) (inr later) = IsIn-replicate vertex owner size later
