-- The test of two endings is true exactly where they are one.
use Rattle.std.proofs.Common.{◌≡◌, ◌≢◌, ◌∙◌, ◌&&◌, ℕ, Bool, true, false, not, eqb, refl, sym, subst, rules}
use Rattle.std.proofs.lemmas.Bool.{not-false, not-true}
use Rattle.tree_document.specs.declared.document.Ending.{Ending}
use Rattle.tree_document.specs.declared.document.Ending.TheVariants.{Clean, Refused}
use Rattle.tree_document.specs.contracts.document.EndingPartialEq.TheImpl.{ghosts}

both : (a b c d : ℕ) → (eqb a b && eqb c d) ≡ true → (a ≡ b) × (c ≡ d)
both a b c d is = search rules

same_refusal : (line other_line kind other_kind : ℕ) → line ≡ other_line → kind ≡ other_kind
    → Refused (record { line = line; kind = kind }) ≡ Refused (record { line = other_line; kind = other_kind })
same_refusal line other_line kind other_kind same also = cc

equal_same : (one other : Ending) → ghosts.eq one other ≡ true → one ≡ other
equal_same Clean Clean is = refl
equal_same Clean (Refused there) is = cc
equal_same (Refused here) Clean is = cc
equal_same (Refused here) (Refused there) is =
    let parts = both here.line there.line here.kind there.kind is in
    same_refusal here.line there.line here.kind there.kind parts.0 parts.1

equal_self : (one : Ending) → ghosts.eq one one ≡ true
equal_self Clean = refl
equal_self (Refused there) = search rules

-- what is known where the test that they differ answered no, and where it answered yes
pub no_difference : (one other : Ending) (differ : Bool) → differ ≡ not (ghosts.eq one other) → differ ≡ false
    → one ≡ other
no_difference one other differ told is = equal_same one other (not-false (ghosts.eq one other) (sym told ∙ is))

pub difference : (one other : Ending) (differ : Bool) → differ ≡ not (ghosts.eq one other) → differ ≡ true → one ≢ other
difference one other differ told is same = apart (sym equal ∙ not-true (ghosts.eq one other) (sym told ∙ is))
  where
    equal : ghosts.eq one other ≡ true
    equal = subst (λ next. ghosts.eq one next ≡ true) same (equal_self one)

    apart : true ≡ false → ⊥
    apart wrong = cc
