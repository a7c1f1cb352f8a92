-- The rules of a text of which nothing is refused.
use Rattle.std.proofs.Common.{◌≡◌, ℕ, ℤ, pos, negsuc, List, [], ◌∷◌, ◌++◌, get_or, length, map, Option, Some, None}
use Rattle.std.proofs.Common.{replicate, refl, arith, codes, Bool, true, false, not, if◌then◌else◌, nat_le, suc, ◌+◌}
use Rattle.std.proofs.Common.{◌≤◌, inl, inr}
use Rattle.std.proofs.lemmas.Bool.{cases_lt, lt-leb}
use Rattle.std.proofs.lemmas.List.Elements.{All-append, All-cons, All-nil}
use Rattle.std.specs.Prelude.{All, filter, option_and_then, unwrap_or}
use Rattle.element_table.specs.Rule.{Rule, Parity, IsRule, IsNearZero}
use Rattle.toml.specs.Data.{Data, array, as_table, get_member, Items, no_items, item, Members, no_members}
use Rattle.profile.specs.Form.{rule, rules, coefficients, excess_of, items_len}
use Rattle.profile.specs.inside.Fine.{AreFine, IsFine, alone}
use Rattle.profile.specs.Profile.{greatest_rules}
use Rattle.profile.specs.Table.{element_numbers, table_at}
use Rattle.profile.specs.Values.{rule_of, rules_said, is_kept, is_neutral, put_table, tables_in}
use Rattle.profile.proofs.ElementLaws.{length-element_numbers, noughts}
use Rattle.profile.proofs.ElementRange.{element_in_range}
use Rattle.profile.proofs.FineLaws.{fine_others, fine_rule, fine_table, number_in_range}

pub element_numbers-none : element_numbers no_members ≡ replicate 16 (pos 0)
unfolding element_numbers
element_numbers-none = refl

noughts_near : (place : ℕ) → IsNearZero 1000 (get_or (replicate 16 (pos 0)) place (pos 0))
noughts_near place = rw (noughts 16 place) (omega arith, omega arith)

coefficients_near : (entries : Members) (found : Option Members) (place : ℕ) → IsFine rule entries
    → option_and_then as_table (get_member (codes "coefficients") entries) ≡ found
    → IsNearZero 1000 (get_or (element_numbers (unwrap_or found no_members)) place (pos 0))
coefficients_near entries None place fine is = rw element_numbers-none (noughts_near place)
coefficients_near entries (Some inner) place fine is =
    element_in_range coefficients inner (negsuc 999) (pos 1000) place
    (fine_table rule coefficients entries (codes "coefficients") inner fine (λ known. refl) refl is).1
    (λ known key. refl) (omega arith) (omega arith)

-- what a table of which nothing is refused gives is a rule
pub rule_of_is_rule : (entries : Members) → IsFine rule entries → IsRule (rule_of entries)
rule_of_is_rule entries fine = record {
  places = length-element_numbers (table_at entries (codes "coefficients"));
  coefficients = λ place. coefficients_near entries
      (option_and_then as_table (get_member (codes "coefficients") entries)) place fine refl;
  constant = number_in_range rule entries (codes "constant") (negsuc 999999) (pos 1000000) (pos 0) fine
      (λ known is. refl) (omega arith) (omega arith);
}

kept_or_not : (kept : Bool) (first : Members) (tables : List Members)
    → map rule_of (if kept then first ∷ tables else tables)
    ≡ map rule_of (if kept then first ∷ [] else []) ++ map rule_of tables
kept_or_not true first tables = refl
kept_or_not false first tables = refl

filter_put : (neutral : Bool) (first : Option Members) (tables : List Members)
    → map rule_of (filter (is_kept neutral) (put_table first tables))
    ≡ map rule_of (filter (is_kept neutral) (put_table first [])) ++ map rule_of (filter (is_kept neutral) tables)
filter_put neutral None tables = refl
filter_put neutral (Some entries) tables =
    kept_or_not (is_kept neutral entries) entries (filter (is_kept neutral) tables)

-- the rules of some items, the first by itself
pub rules_said-first : (neutral : Bool) (value : Data) (items : Items)
    → rules_said neutral (item value items) ≡ rules_said neutral (alone value) ++ rules_said neutral items
rules_said-first neutral value items = filter_put neutral (as_table value) (tables_in items)

-- a rule by its parts
pub same_rule : (whole : Rule) (numbers : List ℤ) (constant : ℤ) (parity : Parity) → numbers ≡ whole.coefficients
    → constant ≡ whole.constant → parity ≡ whole.parity
    → record { coefficients = numbers; constant = constant; parity = parity } ≡ whole
same_rule whole numbers constant parity a b d = rw (a, b, d)

-- what a text gives are rules
pub all_rules : (neutral : Bool) (items : Items) → AreFine rules items → All IsRule (rules_said neutral items)
all_rules neutral no_items fine = All-nil IsRule
all_rules neutral (item value items) fine =
    let rest = all_rules neutral items (fine_others rules value items fine) in
    rw (rules_said-first neutral value items)
    (All-append IsRule (rules_said neutral (alone value)) (rules_said neutral items)
    (first_rule (as_table value) refl) rest)
  where
    kept_rule : (kept : Bool) (entries : Members) → IsRule (rule_of entries)
        → All IsRule (map rule_of (if kept then entries ∷ [] else []))
    kept_rule true entries is = All-cons IsRule (rule_of entries) [] is (All-nil IsRule)
    kept_rule false entries is = All-nil IsRule

    first_rule : (found : Option Members) → as_table value ≡ found
        → All IsRule (map rule_of (filter (is_kept neutral) (put_table found [])))
    first_rule None is = All-nil IsRule
    first_rule (Some entries) is = kept_rule (is_kept neutral entries) entries
        (rule_of_is_rule entries (fine_rule value items entries fine is))

one_of_two : (kept : Bool) (first : Members) (all neutral : List Members)
    → length (map rule_of (if not kept then first ∷ all else all))
    + length (map rule_of (if kept then first ∷ neutral else neutral))
    ≡ suc (length (map rule_of all) + length (map rule_of neutral))
one_of_two true first all neutral = omega arith
one_of_two false first all neutral = omega arith

counted_once : (found : Option Members) (items : Items) (n : ℕ)
    → length (rules_said false items) + length (rules_said true items) ≤ n
    → length (map rule_of (filter (is_kept false) (put_table found (tables_in items))))
    + length (map rule_of (filter (is_kept true) (put_table found (tables_in items)))) ≤ suc n
counted_once None items n few = omega arith
counted_once (Some entries) items n few =
    let split = one_of_two (is_neutral entries) entries (filter (is_kept false) (tables_in items))
    (filter (is_kept true) (tables_in items)) in
    omega arith

-- no item gives two of them
pub few_rules_of : (items : Items) → length (rules_said false items) + length (rules_said true items) ≤ items_len items
few_rules_of no_items = omega arith
few_rules_of (item value items) = counted_once (as_table value) items (items_len items) (few_rules_of items)

few_from_test : (count : ℕ) → (if nat_le count greatest_rules then None else Some (pos count)) ≡ None
    → count ≤ greatest_rules
few_from_test count is =
    elim (cases_lt greatest_rules count) [
      | inl many ↦ let both : Some (pos count) ≡ None = rw (lt-leb count greatest_rules many) at is in cc
      | inr few ↦ few
    ]

-- where their number is not out of range
pub few_from_excess : (items : Items) → excess_of rules (array items) ≡ None
    → length (rules_said false items) + length (rules_said true items) ≤ greatest_rules
few_from_excess items is =
    let some = few_from_test (items_len items) is in
    let few = few_rules_of items in
    omega arith
