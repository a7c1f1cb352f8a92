use Rattle.std.proofs.Common.{◌≡◌, ◌∙◌, List, ℕ, ap, sym, subst}
use Rattle.std.specs.List.{AllPairs}
use Rattle.std.specs.List.Sorted.{IsPermutation}
use Rattle.std.specs.Ordering.{ordering_reverse}
use Rattle.std.specs.declared.cmp.Ordering.TheVariants.{Greater}
use Rattle.std.proofs.lemmas.Cmp.{nat_list_cmp_total}
use Rattle.std.proofs.lemmas.List.Sorted.{Contains-permutation, IsPermutation-sym, IsPermutation-trans}
use Rattle.element_table.specs.Formula.{formula_cmp}
use Rattle.element_table.proofs.Members.{Contains-from_In, In-from_Contains, Rising-from_AllPairs, same_from_members}
use Rattle.right_document.proofs.CandidatesOf.{IsBelow, rising_apart}
use Rattle.check_command.proofs.entries.are_candidates.Goals as goal

one_way : (one later : List ℕ) → IsBelow one later → IsBelow later one → ⊥
one_way one later below above =
    let turned : formula_cmp one later ≡ Greater = nat_list_cmp_total.antisymm one later ∙ ap ordering_reverse above in
    cc

-- formulas that rise strictly stand in one order alone
same_order : (formulas moved : List (List ℕ)) → AllPairs IsBelow formulas → AllPairs IsBelow moved
    → IsPermutation formulas moved
    → moved ≡ formulas
same_order formulas moved rising rises same =
    same_from_members IsBelow one_way moved formulas
    (Rising-from_AllPairs IsBelow moved rises)
    (Rising-from_AllPairs IsBelow formulas rising)
    (λ formula there. In-from_Contains formula formulas
    (Contains-permutation moved formulas formula (IsPermutation-sym formulas moved same)
    (Contains-from_In formula moved there)))
    (λ formula there. In-from_Contains formula moved
    (Contains-permutation formulas moved formula same (Contains-from_In formula formulas there)))

pub returns : goal.returns
returns c =
    let candidates = c.args.candidates.now in
    let told = c.in_ok-own.own.items in
    let sorted = c.sort_unstable.new.self.items in
    let moved : IsPermutation told sorted = c.sort_unstable.ensures.permutation in
    let read : c.deref.result.now ≡ sorted = c.deref.ensures.value in
    rw (← c.in_ok-own.ensures) (
      (λ is. subst (λ own. IsPermutation own told) (sym read ∙ c.are_same_formulas.ensures.0 is)
          (IsPermutation-sym told sorted moved)),
      (λ same.
          let all = IsPermutation-trans candidates told sorted same moved in
          let apart = rising_apart candidates c.requires.rising in
          let rises = c.sorted_formulas_rise.ensures candidates sorted apart all c.sort_unstable.ensures.sorted in
          c.are_same_formulas.ensures.1 (read ∙ same_order candidates sorted c.requires.rising rises all)),
    )
