-- For `line_form`, `peak_of`, `value_in`, `parameter_fault`, `precursor_units`, `charges_of`: worked lines, computed.
use Rattle.std.specs.Prelude.{◌≡◌, ℕ, List, [], ◌∷◌, Option, Some, None, codes, filter, is_none, map, not, refl}
use Rattle.fixed_mass.specs.Numeral.{is_exponent, is_numeral}
use Rattle.fixed_mass.specs.Units.{units_of}
use Rattle.mgf_reader.specs.Bytes.{fields_of}
use Rattle.mgf_reader.specs.LineForm.{LineForm, form_within, line_form}
use Rattle.mgf_reader.specs.LineForm.{blank, comment, begin, end, parameter, peak, remark, no_form}
use Rattle.mgf_reader.specs.Parameter.{Key, title, precursor, charge, charges_of, parameter_fault, precursor_units}
use Rattle.mgf_reader.specs.Parameter.{value_in}
use Rattle.mgf_reader.specs.PeakLine.{peak_of}
use Rattle.mgf_reader.specs.Spectrum.{PeakValue}
use Rattle.mgf_reader.specs.declared.fault.MgfKind.{MgfKind}
use Rattle.mgf_reader.specs.declared.fault.MgfKind.TheVariants.{BadPrecursor, BadCharge}
use Rattle.mgf_reader.specs.declared.spectrum.Charge.{Charge}
use Rattle.mgf_reader.specs.declared.spectrum.Sign.{Sign}
use Rattle.mgf_reader.specs.declared.spectrum.Sign.TheVariants.{Plus, Minus, Unsigned}

-- lines and their forms
abbrev lines : List (List ℕ × LineForm)
lines =
    ([], blank)
    ∷ (codes " \t\r", blank)
    ∷ (codes "# note", comment)
    ∷ (codes "\t; BEGIN IONS", comment)
    ∷ (codes "!", comment)
    ∷ (codes "/x=1", comment)
    ∷ (codes "BEGIN IONS\r", begin)
    ∷ (codes "begin ions", begin)
    ∷ (codes " BEGIN\t IONS  ", begin)
    ∷ (codes "BEGIN IONS x", remark)
    ∷ (codes "BEGIN IONS=", parameter (codes "BEGIN IONS") [])
    ∷ (codes "BEGINIONS", remark)
    ∷ (codes "BEGIN\rIONS", remark)
    ∷ (codes "End Ions", end)
    ∷ (codes "END", remark)
    ∷ (codes "Num Peaks: 1", remark)
    ∷ (codes "_", remark)
    ∷ (codes "_x=1", parameter (codes "_x") (codes "1"))
    ∷ (codes "z=", parameter (codes "z") [])
    ∷ (codes "1.5 3", peak (codes "1.5" ∷ codes "3" ∷ []))
    ∷ (codes ".5", peak (codes ".5" ∷ []))
    ∷ (codes "+5 1", peak (codes "+5" ∷ codes "1" ∷ []))
    ∷ (codes "1=2", peak (codes "1=2" ∷ []))
    ∷ (codes "-5", no_form)
    ∷ (codes "=5", no_form)
    ∷ (0 ∷ [], no_form)
    ∷ (0 ∷ codes "BEGIN IONS", no_form)
    ∷ (239 ∷ 187 ∷ 191 ∷ codes "#", no_form)
    ∷ []

lines_have_forms : map (λ row. line_form row.0) lines ≡ map (λ row. row.1) lines
unfolding form_within
lines_have_forms = refl

-- parameter lines, their keys and their values
abbrev parameters : List (List ℕ × LineForm)
parameters =
    (codes "TITLE=a = b ", parameter (codes "TITLE") (codes "a = b"))
    ∷ (codes "TITLE=", parameter (codes "TITLE") [])
    ∷ (codes " Pepmass \t= 181.0707 5000\r", parameter (codes "Pepmass") (codes "181.0707 5000"))
    ∷ (codes "PEPMASS\r=5", parameter (codes "PEPMASS\r") (codes "5"))
    ∷ (codes "TITLE= \r x", parameter (codes "TITLE") (codes "\r x"))
    ∷ []

parameters_are_parted : map (λ row. line_form row.0) parameters ≡ map (λ row. row.1) parameters
unfolding form_within
parameters_are_parted = refl

-- an m/z in units of 10^-7 and an intensity in units of 10^-6, at line 9
abbrev at_nine : ℕ → ℕ → Option PeakValue
at_nine mz intensity = Some (record { mz = mz; intensity = intensity; line = 9 })

abbrev peak_lines : List (List ℕ × Option PeakValue)
peak_lines =
    (codes "163.0601\t1000\t1+", at_nine 1630601000 1000000000)
    ∷ (codes "163.0601", at_nine 1630601000 1000000)
    ∷ (codes "163.0601 \t .5", at_nine 1630601000 500000)
    ∷ (codes "1 0", at_nine 10000000 0)
    ∷ (codes "1 x", None)
    ∷ (codes "1x 1", None)
    ∷ (codes "1,1", None)
    ∷ (codes "1 -1", None)
    ∷ (codes "1e12 1", None)
    ∷ []

peak_lines_are_read : map (λ row. peak_of 9 (fields_of row.0)) peak_lines ≡ map (λ row. row.1) peak_lines
unfolding is_exponent is_numeral units_of
peak_lines_are_read = refl

-- the keys for which a line says something, and what is wrong with it
abbrev said_by : List ℕ × List ℕ → List Key × Option MgfKind
said_by row = (
  filter (λ key. not (is_none (value_in key (parameter row.0 row.1)))) (title ∷ precursor ∷ charge ∷ []),
  parameter_fault row.0 row.1,
)

abbrev settings : List ((List ℕ × List ℕ) × (List Key × Option MgfKind))
settings =
    ((codes "TITLE", codes "Glucose"), (title ∷ [], None))
    ∷ ((codes "Title", []), (title ∷ [], None))
    ∷ ((codes "Pepmass", codes "181.0707 5000"), (precursor ∷ [], None))
    ∷ ((codes "PEPMASS", []), ([], None))
    ∷ ((codes "PEPMASS", codes "-1"), (precursor ∷ [], Some BadPrecursor))
    ∷ ((codes "PEPMASS", codes "5,3"), (precursor ∷ [], Some BadPrecursor))
    ∷ ((codes "PEPMASS\r", codes "x"), ([], None))
    ∷ ((codes "CHARGE", []), ([], None))
    ∷ ((codes "charge", codes "1"), (charge ∷ [], None))
    ∷ ((codes "CHARGE", codes "+-1"), (charge ∷ [], Some BadCharge))
    ∷ ((codes "CHARGE", codes "+1+"), (charge ∷ [], Some BadCharge))
    ∷ ((codes "CHARGE", codes "+"), (charge ∷ [], Some BadCharge))
    ∷ ((codes "CHARGE", codes "1234"), (charge ∷ [], Some BadCharge))
    ∷ ((codes "CHARGE", codes "0000"), (charge ∷ [], Some BadCharge))
    ∷ ((codes "CHARGE", codes "1 Mr"), (charge ∷ [], Some BadCharge))
    ∷ ((codes "CHARGE", codes "2 +"), (charge ∷ [], Some BadCharge))
    ∷ ((codes "SCANS", codes "7"), ([], None))
    ∷ (([], codes "7"), ([], None))
    ∷ []

settings_are_told : map (λ row. said_by row.0) settings ≡ map (λ row. row.1) settings
unfolding charges_of is_exponent is_numeral units_of
settings_are_told = refl

precursor_is_read : precursor_units (codes "181.0707 5000") ≡ Some 1810707000
unfolding is_exponent is_numeral units_of
precursor_is_read = refl

abbrev charge_with : ℕ → Sign → Charge
charge_with value sign = record { value = value; sign = sign }

-- values of `CHARGE` and their charges; the charge 0 is none
abbrev charge_lists : List (List ℕ × List Charge)
charge_lists =
    (codes "1", charge_with 1 Unsigned ∷ [])
    ∷ (codes "1-", charge_with 1 Minus ∷ [])
    ∷ (codes "2+ and 1+", charge_with 2 Plus ∷ charge_with 1 Plus ∷ [])
    ∷ (codes "+12,AND\t-007,,999", charge_with 12 Plus ∷ charge_with 7 Minus ∷ charge_with 999 Unsigned ∷ [])
    ∷ (codes "0", [])
    ∷ (codes "0+ 3 000-", charge_with 3 Unsigned ∷ [])
    ∷ (codes ",", [])
    ∷ (codes "and", [])
    ∷ []

charge_lists_are_read : map (λ row. charges_of row.0) charge_lists ≡ map (λ row. Some row.1) charge_lists
unfolding charges_of
charge_lists_are_read = refl
