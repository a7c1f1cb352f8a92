-- The keys that count, and what their values say.
use Rattle.std.specs.Prelude.{ℕ, List, [], ◌∷◌, Bool, true, ◌==◌, ◌&&◌, not, nat_lt, nat_le, if◌then◌else◌, Option}
use Rattle.std.specs.Prelude.{Some, None, filter, length, reverse, unwrap_or, codes, is_none}
use Rattle.std.specs.Option.{option_and_then}
use Rattle.std.specs.Str.{str_eq_ignore_ascii_case}
use Rattle.std.specs.Str.Parse.{digits_value}
use Rattle.fixed_mass.specs.Numeral.{is_digits}
use Rattle.fixed_mass.specs.Units.{readable_units}
use Rattle.mgf_reader.specs.declared.spectrum.Charge.{Charge}
use Rattle.mgf_reader.specs.declared.spectrum.Sign.{Sign}
use Rattle.mgf_reader.specs.declared.spectrum.Sign.TheVariants.{Plus, Minus, Unsigned}
use Rattle.mgf_reader.specs.declared.fault.MgfKind.{MgfKind}
use Rattle.mgf_reader.specs.declared.fault.MgfKind.TheVariants.{BadPrecursor, BadCharge}
use Rattle.mgf_reader.specs.Spectrum.{mz_scale}
use Rattle.mgf_reader.specs.Bytes.{is_gap, fields_by, fields_of}
use Rattle.mgf_reader.specs.LineForm.{LineForm, parameter, line_form}

-- the keys that count; every other key is ignored
pub data Key : Type 0 where
  title : Key
  precursor : Key
  charge : Key

-- the word of a key
abbrev pub key_text : Key → List ℕ
key_text title = codes "TITLE"
key_text precursor = codes "PEPMASS"
key_text charge = codes "CHARGE"

-- whether a text is the word of a key, without ASCII case
abbrev pub is_key : Key → List ℕ → Bool
is_key key text = str_eq_ignore_ascii_case text (key_text key)

-- the units that the first of some fields stands for, where there is one and it is read
abbrev pub first_units : List (List ℕ) → Option ℕ
first_units [] = None
first_units (field ∷ fields) = readable_units mz_scale field

-- the units of a precursor: those of its value's first field
abbrev pub precursor_units : List ℕ → Option ℕ
precursor_units value = first_units (fields_of value)

-- the sign that a byte is, where it is one
abbrev pub sign_of : ℕ → Option Sign
sign_of byte = if byte == 43 then Some Plus else if byte == 45 then Some Minus else None

-- how many digits a charge may have
abbrev pub greatest_charge_digits : ℕ
greatest_charge_digits = 3

-- one to three digits, with a sign
abbrev pub signed : List ℕ → Sign → Option Charge
signed digits sign =
    if is_digits digits && nat_le (length digits) greatest_charge_digits
    then Some (record { value = digits_value 10 digits; sign = sign })
    else None

-- a charge whose sign, where it has one, stands behind it; the bytes are given from the last to the first
abbrev pub charge_from_end : List ℕ → Option Charge
charge_from_end [] = None
charge_from_end (last ∷ before) = with_sign (sign_of last) where
  with_sign : Option Sign → Option Charge
  with_sign (Some sign) = signed (reverse before) sign
  with_sign None = signed (reverse (last ∷ before)) Unsigned

-- one item of a list of charges: one to three digits with at most one sign, directly before or directly after them
abbrev pub charge_of : List ℕ → Option Charge
charge_of [] = None
charge_of (first ∷ rest) = with_sign (sign_of first) where
  with_sign : Option Sign → Option Charge
  with_sign (Some sign) = signed rest sign
  with_sign None = charge_from_end (reverse (first ∷ rest))

-- each of some items read as a charge, in order, without those of value 0; nothing where one of them is none
abbrev pub all_charges : List (List ℕ) → Option (List Charge)
all_charges [] = Some []
all_charges (item ∷ items) =
    option_and_then (λ charge.
    option_and_then (λ charges. Some (if charge.value == 0 then charges else (charge ∷ charges))) (all_charges items))
    (charge_of item)

-- the charges of a value: its items are parted by spaces, tabs and commas, and an item `and` is passed over
unfoldable pub charges_of : List ℕ → Option (List Charge)
charges_of value =
    all_charges (filter (λ item. not (str_eq_ignore_ascii_case item (codes "and"))) (fields_by is_gap value))

-- A value that counts for a key: an empty one is as if the line were not there, but for a title.
abbrev pub counts_for : Key → List ℕ → Bool
counts_for title value = true
counts_for key value = nat_lt 0 (length value)

-- what a line says for a key
abbrev pub value_in : Key → LineForm → Option (List ℕ)
value_in key (parameter name value) = if is_key key name && counts_for key value then Some value else None
value_in key form = None

-- what the last line of a key among some lines says
abbrev pub last_value : Key → List (List ℕ) → Option (List ℕ)
last_value key [] = None
last_value key (line ∷ lines) = or_this (last_value key lines) where
  or_this : Option (List ℕ) → Option (List ℕ)
  or_this (Some value) = Some value
  or_this None = value_in key (line_form line)

-- the title that some lines give
abbrev pub title_of : List (List ℕ) → List ℕ
title_of lines = unwrap_or (last_value title lines) []

-- the units of the precursor that some lines give
abbrev pub precursor_of : List (List ℕ) → Option ℕ
precursor_of lines = option_and_then precursor_units (last_value precursor lines)

-- the charges that some lines give
abbrev pub charge_list_of : List (List ℕ) → List Charge
charge_list_of lines = unwrap_or (option_and_then charges_of (last_value charge lines)) []

-- what is wrong with a parameter line
abbrev pub parameter_fault : List ℕ → List ℕ → Option MgfKind
parameter_fault name value =
    if is_key precursor name && nat_lt 0 (length value)
    then (if is_none (precursor_units value) then Some BadPrecursor else None)
    else if is_key charge name && nat_lt 0 (length value)
    then (if is_none (charges_of value) then Some BadCharge else None)
    else None
