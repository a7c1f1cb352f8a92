-- For `readable_units`, `is_numeral`, `number_of_digits` and `fixed_text`: worked numerals, computed.
use Rattle.std.proofs.Common.{◌≡◌, ◌^◌, ◌-◌, ℕ, List, [], ◌∷◌, Option, Some, None, true, false, map, refl}
use Rattle.std.specs.Prelude.{codes}
use Rattle.std.specs.Fmt.{digits}
use Rattle.std.specs.List.{list_any, list_all}
use Rattle.fixed_mass.specs.Numeral.{is_exponent, is_numeral, number_of_digits}
use Rattle.fixed_mass.specs.Units.{readable_units, units_of}
use Rattle.fixed_mass.specs.FixedText.{fixed_text}

-- what is read of numerals, by whole units of 10 ^ -scale
abbrev Table : Type 0
Table = List (List ℕ × Option ℕ)

-- with seven decimals, as masses have: half a unit rounds up, and less than half a unit down
abbrev masses : Table
masses =
    (codes "1.8107066405e2", Some 1810706641)
    ∷ (codes "163.0601", Some 1630601000)
    ∷ (codes "19.0178410", Some 190178410)
    ∷ (codes ".5", Some 5000000)
    ∷ (codes "5.", Some 50000000)
    ∷ (codes "5", Some 50000000)
    ∷ (codes "+5.0e-1", Some 5000000)
    ∷ (codes "5E+2", Some 5000000000)
    ∷ (codes "005.10", Some 51000000)
    ∷ (codes "123e-3", Some 1230000)
    ∷ (codes "0e999", Some 0)
    ∷ (codes "1e-999", Some 0)
    ∷ (codes "0.00000005", Some 1)
    ∷ (codes "0.000000049999999", Some 0)
    ∷ (codes "0.00000015", Some 2)
    ∷ (codes "5e-8", Some 1)
    ∷ (codes "49e-9", Some 0)
    ∷ (codes "1e00000000000000000000000000000000000001", Some 100000000)
    ∷ (codes "0000000000000000000000000000000000000000", Some 0)
    ∷ []

-- at the greatest number of units, and past it
abbrev great_masses : Table
great_masses =
    (codes "1e11", Some (10 ^ 18))
    ∷ (codes "100000000000", Some (10 ^ 18))
    ∷ (codes "100000000000.00000004", Some (10 ^ 18))
    ∷ (codes "99999999999.99999995", Some (10 ^ 18))
    ∷ (codes "100000000000.00000005", None)
    ∷ (codes "1e12", None)
    ∷ (codes "9999999999999999999999999999999999999999", None)
    ∷ []

abbrev whole_numbers : Table
whole_numbers =
    (codes "0.5", Some 1)
    ∷ (codes "0.49", Some 0)
    ∷ (codes "1.5", Some 2)
    ∷ (codes "1000000000000000000.4", Some (10 ^ 18))
    ∷ (codes "1000000000000000000.5", None)
    ∷ (codes "18446744073709551616", None)
    ∷ (codes "1e20", None)
    ∷ (codes "123456789012345678901234567890123456e-20", Some 1234567890123457)
    ∷ (codes "0000000000000000000000000000000000000019", Some 19)
    ∷ []

abbrev read : ℕ → Table → List (Option ℕ)
read scale table = map (λ row. readable_units scale row.0) table

abbrev wanted : Table → List (Option ℕ)
wanted table = map (λ row. row.1) table

masses_are_read : read 7 masses ≡ wanted masses
unfolding is_exponent is_numeral units_of
masses_are_read = refl

great_masses_are_read : read 7 great_masses ≡ wanted great_masses
unfolding is_exponent is_numeral units_of
great_masses_are_read = refl

whole_numbers_are_read : read 0 whole_numbers ≡ wanted whole_numbers
unfolding is_exponent is_numeral units_of
whole_numbers_are_read = refl

intensity : readable_units 6 (codes "1000") ≡ Some 1000000000
unfolding is_exponent is_numeral units_of
intensity = refl

nine_decimals : readable_units 9 (codes "1.0000000005") ≡ Some 1000000001
unfolding is_exponent is_numeral units_of
nine_decimals = refl

-- a numeral of 41 bytes
too_long : readable_units 7 (codes "00000000000000000000000000000000000000001") ≡ None
unfolding is_exponent is_numeral units_of
too_long = refl

-- texts that are no numerals, however long
abbrev others : List (List ℕ)
others =
    [] ∷ codes "." ∷ codes "+" ∷ codes "-1" ∷ codes " 1" ∷ codes "1 " ∷ codes "++1" ∷ codes "1+" ∷ codes "1.2.3"
    ∷ codes "1,5" ∷ codes "1e" ∷ codes "1e+" ∷ codes "1e-" ∷ codes "1e+-1" ∷ codes "1e1.0" ∷ codes "1e1e1" ∷ codes "e5"
    ∷ codes "+e5" ∷ codes ".e5" ∷ codes "0x10" ∷ codes "nan" ∷ codes "00000000000000000000000000000000000000001x" ∷ []

no_numerals : list_any is_numeral others ≡ false
unfolding is_exponent is_numeral
no_numerals = refl

-- a numeral may be too long, or stand for too much
too_long_or_too_great : list_all is_numeral (codes "00000000000000000000000000000000000000001" ∷ codes "1e12" ∷ [])
    ≡ true
unfolding is_exponent is_numeral
too_long_or_too_great = refl

-- numbers written by digits alone, below 2 ^ 64
abbrev numbers : Table
numbers =
    ([], None) ∷ (codes "0", Some 0) ∷ (codes "007", Some 7) ∷ (codes "18446744073709551615", Some (2 ^ 64 - 1))
    ∷ (codes "18446744073709551616", None) ∷ (codes "+1", None) ∷ (codes "1.", None) ∷ (codes "1 ", None) ∷ []

numbers_are_read : map (λ row. number_of_digits row.0) numbers ≡ wanted numbers
numbers_are_read = refl

-- numbers of units, and their texts
abbrev texts : List (ℕ × List ℕ)
texts =
    (1810707000, codes "181.0707000")
    ∷ (0, codes "0.0000000")
    ∷ (1, codes "0.0000001")
    ∷ (9999999, codes "0.9999999")
    ∷ (10000000, codes "1.0000000")
    ∷ (100000000, codes "10.0000000")
    ∷ (10 ^ 18, codes "100000000000.0000000")
    ∷ (2 ^ 64 - 1, codes "1844674407370.9551615")
    ∷ []

texts_are_written : map (λ row. fixed_text 7 row.0) texts ≡ map (λ row. row.1) texts
unfolding digits
texts_are_written = refl
