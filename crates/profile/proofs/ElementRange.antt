-- The integers at the symbols of the elements in a table of which nothing is refused.
use Rattle.std.proofs.Common.{◌≡◌, ◌∙◌, ◌-◌, ◌<◌, ◌≤◌, ◌≤ℤ◌, ℕ, ℤ, pos, true, List, [], ◌++◌, length, get_or, take}
use Rattle.std.proofs.Common.{replicate, refl, ap, arith, inl, inr, append-nil}
use Rattle.std.specs.Prelude.{bytes_eq}
use Rattle.std.proofs.lemmas.Bool.{cases_lt}
use Rattle.std.proofs.lemmas.List.{take_all}
use Rattle.std.proofs.lemmas.List.Folds.{list_any_at}
use Rattle.std.proofs.lemmas.Slice.Eq.{bytes_eq-Decides}
use Rattle.element_table.specs.Elements.{symbols}
use Rattle.toml.specs.Data.{Members}
use Rattle.profile.specs.Form.{Form, Known, number, form_at, is_symbol, number_of_element}
use Rattle.profile.specs.inside.Fine.{IsFine}
use Rattle.profile.specs.Table.{element_numbers}
use Rattle.profile.proofs.ElementLaws.{get_or-element_numbers, get_or-element_numbers_past}
use Rattle.profile.proofs.FineLaws.{number_in_range}

own_symbol : (place : ℕ) → place < 11 → is_symbol symbols (get_or symbols place []) ≡ true
own_symbol place within =
    let symbol = get_or symbols place [] in
    list_any_at (bytes_eq symbol) symbols place [] within ((bytes_eq-Decides symbol symbol).1 refl)

pub number_of_symbol : (key : List ℕ) (least most : ℤ) → is_symbol symbols key ≡ true
    → number_of_element symbols key least most ≡ number least most
number_of_symbol key least most is = rw is

-- where a form has a range at each symbol, the integers of a table of that form are in it
pub element_in_range : (form : Form) (entries : Members) (least most : ℤ) (place : ℕ) → IsFine form entries
    → ((known : Known) (key : List ℕ) → form_at known form key ≡ number_of_element known.symbols key least most)
    → least ≤ℤ pos 0 → pos 0 ≤ℤ most
    → (least ≤ℤ get_or (element_numbers entries) place (pos 0))
    × (get_or (element_numbers entries) place (pos 0) ≤ℤ most)
element_in_range form entries least most place fine ranged low high =
    elim (cases_lt place 11) [
      | inl within ↦
          rw (get_or-element_numbers entries place within)
          (number_in_range form entries (get_or symbols place []) least most (pos 0) fine
          (λ known is. ranged known (get_or symbols place [])
          ∙ rw is (number_of_symbol (get_or symbols place []) least most (own_symbol place within))) low high)
      | inr past ↦ rw (get_or-element_numbers_past entries place past) (low, high)
    ]

-- a list that is filled to its end
pub filled_whole : {X : Type 0} (items filled : List X) (blank : X) (n i : ℕ) → n ≤ i → length items ≡ n
    → filled ≡ take i items ++ replicate (n - i) blank → filled ≡ items
filled_whole items filled blank n i reached len so_far =
    let over : n - i ≡ 0 = omega arith in
    let whole : take i items ≡ items = take_all i items (omega arith) in
    so_far ∙ ap (λ k. take i items ++ replicate k blank) over ∙ append-nil (take i items) ∙ whole
