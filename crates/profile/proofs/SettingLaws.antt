-- The numbers of a profile text of which nothing is refused.
use Rattle.std.proofs.Common.{◌≡◌, ◌≤◌, ◌≤ℤ◌, ℕ, ℤ, pos, List, arith}
use Rattle.std.proofs.lemmas.Int.{ints}
use Rattle.toml.specs.Data.{Members}
use Rattle.profile.specs.Form.{Known, whole, number, form_at}
use Rattle.profile.specs.inside.Fine.{IsFine, IsSmallCount}
use Rattle.profile.specs.Table.{number_at}
use Rattle.profile.specs.Values.{as_count}
use Rattle.profile.proofs.FineLaws.{number_in_range}
use Rattle.profile.proofs.LimitLaws.{pos-as_count}

-- an integer whose count is in a range, and that fits
pub record IsSetting (least most : ℕ) (z : ℤ) : Type 0 where
  pub fits : IsSmallCount z
  pub from : least ≤ as_count z
  pub to : as_count z ≤ most

within : (z : ℤ) (least most : ℕ) → most ≤ 2000000 → pos least ≤ℤ z → z ≤ℤ pos most → IsSetting least most z
within z least most small low high =
    let not_negative : pos 0 ≤ℤ z = omega (arith, ints, low) in
    let is = pos-as_count z not_negative in
    record {
      fits = record { not_negative = not_negative; small = omega (arith, ints, high) };
      from = omega (arith, ints, is, low);
      to = omega (arith, ints, is, high);
    }

pub setting : (entries : Members) (key : List ℕ) (least most other : ℕ) → IsFine whole entries
    → ((known : Known) → form_at known whole key ≡ number (pos least) (pos most)) → pos least ≤ℤ pos other
    → pos other ≤ℤ pos most → most ≤ 2000000
    → IsSetting least most (number_at entries key (pos other))
setting entries key least most other fine is low high small =
    let (from, to) = number_in_range whole entries key (pos least) (pos most) (pos other) fine
    (λ known same. is known) low high in
    within (number_at entries key (pos other)) least most small from to
