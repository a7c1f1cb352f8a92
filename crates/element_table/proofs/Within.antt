-- Of IsWithin and is_within, IsProperPart and is_proper_part; and of IsFormula over lists of formulas.
use Rattle.std.proofs.Common.{◌≡◌, ◌≤◌, ◌<◌, ◌+◌, ◌∙◌, ℕ, zero, suc, Bool, true, false, not, leb, inl, inr, List, []}
use Rattle.std.proofs.Common.{◌∷◌, length, get_or, refl, sym, ap, subst, arith}
use Rattle.std.specs.Prelude.{◌↔◌, IsTrue}
use Rattle.std.specs.Bool.{Decides}
use Rattle.std.specs.Str.{bytes_eq}
use Rattle.std.proofs.lemmas.Bool.{and_from, and_parts, cases_lt, le-leb, leb-true}
use Rattle.std.proofs.lemmas.Bool.Decides.{Decides-and, Decides-not}
use Rattle.std.proofs.lemmas.List.{get_or_default}
use Rattle.std.proofs.lemmas.Slice.Eq.{bytes_eq-Decides}
use Rattle.element_table.specs.Formula.{IsFormula, IsProperPart, IsWithin, is_proper_part, is_within}

-- the test of a part answers whether each count is at most the whole's
pub Decides-is_within : (part whole : List ℕ) → length part ≡ length whole
    → Decides (is_within part whole) (IsWithin part whole)
Decides-is_within [] [] same = ((λ is place. omega arith), (λ within. refl))
Decides-is_within [] (most ∷ whole) same = absurd (omega arith)
Decides-is_within (count ∷ part) [] same = absurd (omega arith)
Decides-is_within (count ∷ part) (most ∷ whole) same =
    let rest = Decides-is_within part whole (omega arith) in (
      (λ is. let both = and_parts (leb count most) (is_within part whole) is in at_place (leb-true count most both.0)
          (rest.0 both.1)),
      (λ within. and_from (leb count most) (is_within part whole) (le-leb count most (within 0))
          (rest.1 (λ place. within (suc place)))),
    )
  where
    at_place : count ≤ most → IsWithin part whole → IsWithin (count ∷ part) (most ∷ whole)
    at_place small within zero = small
    at_place small within (suc place) = within place

-- and the test of a proper part, whether it is a part and not the whole
pub Decides-is_proper_part : (part whole : List ℕ) → length part ≡ length whole
    → Decides (is_proper_part part whole) (IsProperPart part whole)
Decides-is_proper_part part whole same =
    Decides-and (is_within part whole) (not (bytes_eq part whole)) (Decides-is_within part whole same)
    (Decides-not (bytes_eq part whole) (bytes_eq-Decides part whole))

-- two tests of one fact answer the same
pub same_answer : (one other : Bool) (P : Type 0) → IsTrue one ↔ P → Decides other P → one ≡ other
same_answer true true P first second = refl
same_answer true false P first second = sym (second.1 (first.0 refl))
same_answer false true P first second = first.1 (second.0 refl)
same_answer false false P first second = refl

-- one more item is a formula
pub All-more : (formulas : List (List ℕ)) (one : List ℕ) (index : ℕ) → index < length formulas
    → one ≡ get_or formulas index one
    → ((place : ℕ) (none : List ℕ) → place < index → IsFormula (get_or formulas place none)) → IsFormula one
    → (place : ℕ) (none : List ℕ) → place < index + 1 → IsFormula (get_or formulas place none)
All-more formulas one index in_list is before formula place none within = elim (cases_lt place index) [
  | inl below ↦ before place none below
  | inr past ↦
      let here : place ≡ index = omega arith in
      let found : one ≡ get_or formulas place none =
      is ∙ get_or_default formulas index one none in_list ∙ sym (ap (λ k. get_or formulas k none) here) in
      subst IsFormula found formula
]
