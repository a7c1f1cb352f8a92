-- The rows of a table, filled one after another, and what their entries decide.
use Rattle.std.proofs.Common.{◌≡◌, ◌≢◌, ◌≤◌, ◌<◌, ◌+◌, ◌-◌, ◌*◌, ◌/◌, ◌%◌, ◌∙◌, ◌↔◌, ℕ, zero, suc}
use Rattle.std.proofs.Common.{List, [], ◌∷◌, ◌++◌, length, slice_index, slice_set, take, replicate, inl, inr}
use Rattle.std.proofs.Common.{arith, refl, sym, ap, subst, leb, get_or-set_same, get_or-set_other, length-append}
use Rattle.std.proofs.Common.{le-leb}
use Rattle.std.proofs.lemmas.Bool.{cases_eq, leb-true}
use Rattle.std.proofs.lemmas.List.{get_or-append_right, get_or-replicate, get_or_append_left, length-replicate}
use Rattle.std.proofs.lemmas.List.{length-set}
use Rattle.std.proofs.lemmas.Nat.{mul-add-lt, mul-le}
use Rattle.std.proofs.Math.Nat.{add-mul, add-mul-mod_self_left, div-add-mod, div-mul-le_self, le-div_iff_mul-le}
use Rattle.std.proofs.Math.Nat.{eq-or-lt_of_le}
use Rattle.std.proofs.Math.Nat.{mod-add-mod, mod-eq_of_lt, mod-lt, mul-mod_left, mul_assoc, mul_comm}
use Rattle.std.specs.Prelude.{IsTrue}
use Rattle.residue_table.specs.Least.{AreMasses, IsMember, IsSum, greatest_mass}
use Rattle.residue_table.specs.inside.Entries.{AreEntries, IsEntry, IsRow, nothing}
use Rattle.residue_table.specs.inside.Rounds.{AreAdded, IsClosedAt}
use Rattle.residue_table.proofs.Sums.{IsSum-more_of_first, IsSum-pop, IsSum-push, take-next}

-- a number that is no less than another of its residue class is that with more of the modulus
more_of : (first less number : ℕ) → 0 < first → less % first ≡ number % first → less ≤ number
    → number ≡ less + (number / first - less / first) * first
more_of first less number some same below =
    let k = number / first - less / first in
    let product : less / first * first ≤ number = omega (arith, div-mul-le_self less first, below) in
    let fewer : less / first ≤ number / first =
    (le-div_iff_mul-le {k = first} {x = less / first} {y = number} some).1 product in
    let parts : number / first ≡ less / first + k = omega (arith, fewer) in
    let spread : number / first * first ≡ less / first * first + k * first =
    ap (λ n. n * first) parts ∙ add-mul (less / first) k first in
    omega (
      arith,
      spread,
      same,
      div-add-mod number first,
      div-add-mod less first,
      mul_comm first (number / first),
      mul_comm first (less / first),
    )

-- Numbers of a residue class are sums exactly from its least sum on.
pub IsSum-decided : (masses : List ℕ) (number places entry : ℕ) → AreMasses masses → 1 ≤ places → entry < nothing
    → IsEntry masses (number % slice_index masses 0) places entry
    → IsTrue (leb entry number) ↔ IsSum (take places masses) number
IsSum-decided [] number places entry are some small is = absurd (omega (arith, are.some))
IsSum-decided (first ∷ masses) number zero entry are some small is = absurd (omega (arith, some))
IsSum-decided (first ∷ masses) number (suc places) entry are some small is = (
  λ test.
      let below : entry ≤ number = leb-true entry number test in
      let member = is.member small in
      subst (λ (n : ℕ). IsSum (first ∷ take places masses) n)
      (sym (more_of first entry number (are.not_zero 0 (omega arith)) member.residue_is below))
      (IsSum-more_of_first first (take places masses) entry (number / first - entry / first) member.sum),
  λ sum. le-leb entry number (is.least number record { sum = sum; residue_is = refl }),
)

-- the first mass alone has sums in one class only
no_residue : {first : ℕ} {masses : List ℕ} (number residue : ℕ) → IsMember (first ∷ masses) residue 1 number
    → residue ≡ 0
no_residue {first} {masses} number residue member =
    sym member.residue_is
    ∙ ap (λ n. n % first) (member.sum.2 ∙ omega (arith, member.sum.3))
    ∙ mul-mod_left member.sum.0 first

-- the row of the first mass alone
pub IsRow-first : (masses : List ℕ) → AreMasses masses
    → IsRow masses 1 (slice_set (replicate (slice_index masses 0) nothing) 0 0)
IsRow-first [] are = absurd (omega (arith, are.some))
IsRow-first (first ∷ masses) are = record {
  size = length-set (replicate first nothing) 0 0 ∙ length-replicate first nothing;
  entries = λ residue below. elim (cases_eq residue 0) [
    | inl e ↦
        subst (λ (n : ℕ). IsEntry (first ∷ masses) n 1 (slice_index (slice_set (replicate first nothing) 0 0) n))
        (sym e)
        (subst (λ (n : ℕ). IsEntry (first ∷ masses) 0 1 n)
        (sym (get_or-set_same (replicate first nothing) 0 0 0 (omega (arith, length-replicate first nothing, some))))
        none)
    | inr other ↦
        let inside : residue < first =
        omega
        (arith, below, length-set (replicate first nothing) 0 0, length-replicate first nothing) in
        subst (λ (n : ℕ). IsEntry (first ∷ masses) residue 1 n)
        (sym (get_or-set_other (replicate first nothing) 0 residue 0 0 other
        ∙ get_or-replicate first residue nothing 0 inside))
        (apart residue other)
  ];
}
  where
    some : 0 < first
    some = are.not_zero 0 (omega arith)

    none : IsEntry (first ∷ masses) 0 1 0
    none = record {
      member = λ small. record { sum = (0, 0, omega arith, refl); residue_is = mod-eq_of_lt some };
      least = λ number member. omega arith;
      small = λ number member. omega arith;
    }

    apart : (residue : ℕ) → residue ≢ 0 → IsEntry (first ∷ masses) residue 1 nothing
    apart residue other = record {
      member = λ small. absurd (omega (arith, small));
      least = λ number member. absurd (other (no_residue number residue member));
      small = λ number member. absurd (other (no_residue number residue member));
    }

-- adding masses one after another
closed_times : (mass : ℕ) (row : List ℕ) → ((residue : ℕ) → residue < length row → IsClosedAt mass row residue)
    → (count residue : ℕ) → residue < length row
    → slice_index row ((residue + count * mass) % length row) ≤ slice_index row residue + count * mass
closed_times mass row closed zero residue below =
    let same : (residue + zero * mass) % length row ≡ residue =
    ap (λ n. n % length row) (omega arith) ∙ mod-eq_of_lt below in
    rw same (omega arith)
closed_times mass row closed (suc count) residue below =
    let middle = (residue + count * mass) % length row in
    let within : middle < length row = mod-lt (residue + count * mass) (omega arith) in
    let spread : residue + suc count * mass ≡ (residue + count * mass) + mass = omega arith in
    let follows : (residue + suc count * mass) % length row ≡ (middle + mass) % length row =
    ap (λ n. n % length row) spread ∙ sym (mod-add-mod (residue + count * mass) (length row) mass) in
    rw follows (omega (arith, closed middle within, closed_times mass row closed count residue below))

-- A whole number of times the modulus changes no class.
class_of_few : (first class count mass : ℕ) → (class + count % first * mass) % first ≡ (class + count * mass) % first
class_of_few first class count mass =
    let parts : count * mass ≡ first * (count / first * mass) + count % first * mass =
    ap (λ n. n * mass) (sym (div-add-mod count first))
    ∙ add-mul (first * (count / first)) (count % first) mass
    ∙ ap (λ n. n + count % first * mass) (mul_assoc first (count / first) mass) in
    sym (add-mul-mod_self_left (class + count % first * mass) first (count / first * mass))
    ∙ ap (λ n. n % first) (omega (arith, parts))

-- A row with one mass more.
pub IsRow-more : (masses : List ℕ) (places : ℕ) (before now : List ℕ) → AreMasses masses → places < length masses
    → IsRow masses places before → AreAdded (slice_index masses places) before now → IsRow masses (places + 1) now
IsRow-more masses places before now are inside row added =
    let first = slice_index masses 0 in
    let mass = slice_index masses places in
    record {
      size = size;
      entries = λ residue below. record {
        member = λ small. let is = added.reached.reached residue (omega (arith, below, added.reached.size)) in
            let from = slice_index before is.from in
            let sum = (row.entries is.from is.within).member (omega (arith, small, is.is)) in
            record {
              sum =
                  rw (take-next masses places inside)
                  (subst (λ (n : ℕ). IsSum (take places masses ++ mass ∷ []) n)
                  (omega (arith, is.is))
                  (IsSum-push (take places masses) mass is.count from sum.sum));
              residue_is =
                  ap (λ n. n % first) is.is
                  ∙ sym (mod-add-mod from first (is.count * mass))
                  ∙ ap (λ n. (n + is.count * mass) % first) sum.residue_is
                  ∙ subst (λ (n : ℕ). (is.from + is.count * mass) % n ≡ residue) row.size is.class;
            };
        least = λ number member. (bounds residue number member).0;
        small = λ number member. (bounds residue number member).1;
      };
    }
  where
    size : length now ≡ slice_index masses 0
    size = added.reached.size ∙ row.size

    some : 0 < slice_index masses 0
    some = are.not_zero 0 (omega (arith, inside))

    bounds : (residue number : ℕ) → IsMember masses residue (places + 1) number
        → (slice_index now residue ≤ number)
        × (slice_index now residue ≤ (places + 1) * (greatest_mass * greatest_mass))
    bounds residue number member =
        let first = slice_index masses 0 in
        let mass = slice_index masses places in
        let parts = IsSum-pop (take places masses) mass number (rw (take-next masses places inside) at member.sum) in
        let count = parts.0 in
        let rest = parts.1 in
        let class = rest % first in
        let within : class < first = mod-lt rest some in
        let entry = row.entries class (omega (arith, within, row.size)) in
        let old : IsMember masses class places rest = record { sum = parts.3; residue_is = refl } in
        let lower = added.reached.lower class in
        let few = count % first in
        let is : (class + count * mass) % first ≡ residue =
        mod-add-mod rest first (count * mass)
        ∙ ap (λ n. n % first) (omega (arith, parts.2))
        ∙ member.residue_is in
        let is_few : (class + few * mass) % first ≡ residue = class_of_few first class count mass ∙ is in
        let all : slice_index now residue ≤ slice_index now class + count * mass =
        subst (λ (n : ℕ). slice_index now n ≤ slice_index now class + count * mass)
        (subst (λ (n : ℕ). (class + count * mass) % n ≡ residue) (sym size) is)
        (closed_times mass now added.closed count class (omega (arith, within, size))) in
        let some_few : slice_index now residue ≤ slice_index now class + few * mass =
        subst (λ (n : ℕ). slice_index now n ≤ slice_index now class + few * mass)
        (subst (λ (n : ℕ). (class + few * mass) % n ≡ residue) (sym size) is_few)
        (closed_times mass now added.closed few class (omega (arith, within, size))) in
        let product : few * mass ≤ greatest_mass * greatest_mass =
        mul-le few mass greatest_mass greatest_mass
        (omega (arith, mod-lt count some, are.small 0 (omega (arith, inside))))
        (are.small places inside) in (
          omega (arith, all, lower, entry.least rest old, parts.2),
          omega (arith, some_few, lower, entry.small rest old, product),
        )

-- one row more
pub AreEntries-more : (masses : List ℕ) (rows : ℕ) (entries row : List ℕ) → AreEntries masses rows entries
    → IsRow masses (rows + 1) row → AreEntries masses (rows + 1) (entries ++ row)
AreEntries-more masses rows entries row are is =
    let first = slice_index masses 0 in
    record {
      size = omega (arith, length-append entries row, are.size, is.size);
      are = λ k residue below within. elim (eq-or-lt_of_le {n = k} {m = rows} (omega (arith, below))) [
        | inl e ↦
            subst (λ (n : ℕ). IsEntry masses residue (n + 1) (slice_index (entries ++ row) (n * first + residue)))
            (sym e)
            (subst (λ (n : ℕ). IsEntry masses residue (rows + 1) n)
            (sym (get_or-append_right entries row (rows * first) (rows * first + residue) 0 are.size (omega arith)
            ∙ ap (λ n. slice_index row n) (omega arith)))
            (is.entries residue (omega (arith, within, is.size))))
        | inr less ↦
            let inside : k * first + residue < length entries =
            omega (arith, mul-add-lt k first residue rows less within, mul_comm first rows, are.size) in
            subst (λ (n : ℕ). IsEntry masses residue (k + 1) n)
            (sym (get_or_append_left entries row 0 (k * first + residue) inside))
            (are.are k residue less within)
      ];
    }

pub AreEntries-none : (masses : List ℕ) → AreEntries masses 0 []
AreEntries-none masses = record { size = omega arith; are = λ k residue below within. absurd (omega (arith, below)) }
