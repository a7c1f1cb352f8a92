-- For `signed`: the digits of a charge, as a number that is read.
use Rattle.std.proofs.Common.{◌≡◌, ◌≤◌, ◌<◌, ◌^◌, ℕ, Bool, true, false, ◌&&◌, cond, nat_lt, List, Some, None, length}
use Rattle.std.proofs.Common.{refl, ap, arith}
use Rattle.std.proofs.lemmas.Bool.{lt-ltb, le-leb}
use Rattle.std.proofs.lemmas.Str.Parse.{IsNumeralModel, digits_value_short, numerals_by_value, tells_all_ascii_digits}
use Rattle.std.specs.Str.{all_ascii_digits}
use Rattle.std.specs.Str.Parse.{digits_value}
use Rattle.fixed_mass.specs.Numeral.{is_digits, number_of_digits}
use Rattle.mgf_reader.specs.declared.spectrum.Sign.{Sign}
use Rattle.mgf_reader.specs.Parameter.{greatest_charge_digits, signed}

own : IsNumeralModel (λ digits. all_ascii_digits digits ≡ true) (digits_value 10)
own = numerals_by_value (λ digits. all_ascii_digits digits ≡ true) tells_all_ascii_digits

second-true : (a b : Bool) → (a && b) ≡ true → b ≡ true
second-true true b is = is
second-true false b is = absurd cc

-- few digits write a small number
value-small : (digits : List ℕ) → length digits ≤ greatest_charge_digits → is_digits digits ≡ true
    → digits_value 10 digits < 1000
value-small digits few is = digits_value_short own digits 3
    (second-true (nat_lt 0 (length digits)) (all_ascii_digits digits) is) few

-- a number that is read stands behind digits
known : (is small : Bool) (number value : ℕ) → Some value ≡ cond (is && small) (Some number) None
    → (is ≡ true) × (value ≡ number)
known true true number value read = (refl, cc)
known true false number value read = absurd cc
known false small number value read = absurd cc

none-known : (is small : Bool) (number : ℕ) → (is ≡ true → small ≡ true) → None ≡ cond (is && small) (Some number) None
    → is ≡ false
none-known true small number fits read = let fit : small ≡ true = fits refl in absurd cc
none-known false small number fits read = refl

read-known : (digits : List ℕ) (value : ℕ) → Some value ≡ number_of_digits digits
    → (is_digits digits ≡ true) × (value ≡ digits_value 10 digits)
read-known digits value read = known (is_digits digits) (nat_lt (digits_value 10 digits) (2 ^ 64))
    (digits_value 10 digits) value read

pub signed-small : (digits : List ℕ) (value : ℕ) → length digits ≤ greatest_charge_digits
    → Some value ≡ number_of_digits digits → value < 1000
signed-small digits value few read =
    let is = read-known digits value read in
    let small = value-small digits few is.0 in
    omega (arith, is.1)

pub signed-some : (digits : List ℕ) (sign : Sign) (value : ℕ) → length digits ≤ greatest_charge_digits
    → Some value ≡ number_of_digits digits
    → Some (record { value = value; sign = sign }) ≡ signed digits sign
signed-some digits sign value few read =
    let is = read-known digits value read in
    rw is.0 (rw (le-leb (length digits) greatest_charge_digits few)
    (ap (λ v. Some (record { value = v; sign = sign })) is.1))

pub signed-none : (digits : List ℕ) (sign : Sign) → length digits ≤ greatest_charge_digits
    → None ≡ number_of_digits digits → None ≡ signed digits sign
signed-none digits sign few read =
    let fits : is_digits digits ≡ true → nat_lt (digits_value 10 digits) (2 ^ 64) ≡ true =
    λ is. lt-ltb (digits_value 10 digits) (2 ^ 64) (omega (arith, value-small digits few is)) in
    let none : is_digits digits ≡ false =
    none-known (is_digits digits) (nat_lt (digits_value 10 digits) (2 ^ 64)) (digits_value 10 digits) fits read in
    rw none refl
