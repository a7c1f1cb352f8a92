-- How a list gains count lists, none twice, and how they become too many.
use Rattle.std.proofs.Common.{◌≡◌, ◌≢◌, ℕ, suc, ◌≤◌, ◌⊎◌, inl, inr, List, [], ◌∷◌, ◌++◌, length, get_or, refl, subst}
use Rattle.std.proofs.Common.{sym, ap, ◌∙◌, append_assoc, length-append, arith}
use Rattle.std.proofs.lemmas.List.{append-nil}
use Rattle.std.proofs.lemmas.List.Elements.{All-append, Contains-get_or, Contains-append_left, Contains-append_right}
use Rattle.std.proofs.lemmas.List.Elements.{Contains-append_cases}
use Rattle.std.proofs.lemmas.List.Kept.{AllPairs-cons}
use Rattle.std.specs.List.{AllPairs, Contains}
use Rattle.element_table.specs.FormulaList.{greatest_list}
use Rattle.formula_lister.specs.inside.Counting.{Gains, Overfills}

Contains-cons : {X : Type 0} (x y : X) (xs : List X) → Contains xs y → Contains (x ∷ xs) y
Contains-cons x y xs h = (suc h.0, omega (arith, h.1), h.2)

AllPairs-append : {X : Type 0} (R : X → X → Type 0) (xs ys : List X) → AllPairs R xs → AllPairs R ys
    → ((x y : X) → Contains xs x → Contains ys y → R x y) → AllPairs R (xs ++ ys)
AllPairs-append R [] ys first second across = second
AllPairs-append R (x ∷ xs) ys first second across =
    AllPairs-cons R x (xs ++ ys)
    (All-append (R x) xs ys
    (λ k d below. first 0 (suc k) d (omega arith) (omega arith))
    (λ k d below. across x (get_or ys k d) (0, (omega arith), refl) (Contains-get_or ys k d below)))
    (AllPairs-append R xs ys
    (λ i j d before below. first (suc i) (suc j) d (omega arith) (omega arith))
    second
    (λ a b in_first in_second. across a b (Contains-cons x a xs in_first) in_second))

pub Gains-none : (P : List ℕ → Type 0) (list : List (List ℕ)) → ((counts : List ℕ) → P counts → ⊥) → Gains P list list
Gains-none P list none = record {
  added = [];
  is = sym (append-nil list);
  members = λ counts. (λ h. absurd (omega (arith, h.1)), λ p. absurd (none counts p));
  distinct = λ i j d before below. absurd (omega arith);
}

pub Gains-one : (list : List (List ℕ)) (one : List ℕ) → Gains (λ counts. one ≡ counts) list (list ++ one ∷ [])
Gains-one list one = record {
  added = one ∷ [];
  is = refl;
  members = λ counts. (
    λ h. let P : ℕ → Type 0 =
        λ k. get_or (one ∷ []) k counts ≡ counts in let first : h.0 ≡ 0 = omega (arith, h.1) in subst P first h.2,
    λ e. (0, (omega arith), e),
  );
  distinct = λ i j d before below. absurd (omega arith);
}

-- first what P holds of and then what Q holds of, where R holds of both
pub Gains-more : (P Q R : List ℕ → Type 0) (before middle now : List (List ℕ)) → Gains P before middle
    → Gains Q middle now → ((counts : List ℕ) → P counts → Q counts → ⊥)
    → ((counts : List ℕ) → R counts → P counts ⊎ Q counts) → ((counts : List ℕ) → P counts → R counts)
    → ((counts : List ℕ) → Q counts → R counts) → Gains R before now
Gains-more P Q R before middle now g h apart either left right = record {
  added = g.added ++ h.added;
  is = h.is ∙ (ap (λ l. l ++ h.added) g.is ∙ append_assoc before g.added h.added);
  members = λ counts. (
    λ c. elim (Contains-append_cases g.added h.added counts c) [
      | inl a ↦ left counts ((g.members counts).0 a)
      | inr b ↦ right counts ((h.members counts).0 b)
    ],
    λ r. elim (either counts r) [
      | inl p ↦ Contains-append_left g.added h.added counts ((g.members counts).1 p)
      | inr q ↦ Contains-append_right g.added h.added counts ((h.members counts).1 q)
    ],
  );
  distinct = AllPairs-append (λ first later. first ≢ later) g.added h.added g.distinct h.distinct
      (λ x y in_first in_second same. apart y (subst P same ((g.members x).0 in_first)) ((h.members y).0 in_second));
}

-- another way to say what was gained
pub Gains-as : (P Q : List ℕ → Type 0) (before now : List (List ℕ)) → Gains P before now
    → ((counts : List ℕ) → P counts → Q counts) → ((counts : List ℕ) → Q counts → P counts) → Gains Q before now
Gains-as P Q before now g to from = record {
  added = g.added;
  is = g.is;
  members = λ counts. (λ c. to counts ((g.members counts).0 c), λ q. (g.members counts).1 (from counts q));
  distinct = g.distinct;
}

-- one more after a list that has as many as it may
pub Overfills-one : (P : List ℕ → Type 0) (before : List (List ℕ)) (one : List ℕ) → greatest_list ≤ length before
    → P one → Overfills P before
unfolding Gains-one
Overfills-one P before one full new = record {
  found = one ∷ [];
  members = λ counts h. subst P (((Gains-one before one).members counts).0 h) new;
  distinct = (Gains-one before one).distinct;
  too_many = omega arith;
}

-- first what P holds of and then too many of which Q holds, where R holds of both
pub Overfills-later : (P Q R : List ℕ → Type 0) (before middle : List (List ℕ)) → Gains P before middle
    → Overfills Q middle → ((counts : List ℕ) → P counts → Q counts → ⊥) → ((counts : List ℕ) → P counts → R counts)
    → ((counts : List ℕ) → Q counts → R counts) → Overfills R before
Overfills-later P Q R before middle g h apart left right = record {
  found = g.added ++ h.found;
  members = λ counts c. elim (Contains-append_cases g.added h.found counts c) [
    | inl a ↦ left counts ((g.members counts).0 a)
    | inr b ↦ right counts (h.members counts b)
  ];
  distinct = AllPairs-append (λ first later. first ≢ later) g.added h.found g.distinct h.distinct
      (λ x y in_first in_second same. apart y (subst P same ((g.members x).0 in_first)) (h.members y in_second));
  too_many = omega (arith, h.too_many, ap length g.is, length-append before g.added, length-append g.added h.found);
}

-- another way to say what was found
pub Overfills-as : (P Q : List ℕ → Type 0) (before : List (List ℕ)) → Overfills P before
    → ((counts : List ℕ) → P counts → Q counts) → Overfills Q before
Overfills-as P Q before h to = record {
  found = h.found;
  members = λ counts c. to counts (h.members counts c);
  distinct = h.distinct;
  too_many = h.too_many;
}
