-- Of all definitions: worked examples, computed.
use Rattle.std.proofs.Common.{◌≡◌, ℕ, zero, suc, ℤ, pos, negsuc, Bool, List, [], ◌∷◌, Option, Some, None, true, false}
use Rattle.std.proofs.Common.{codes, refl, arith, map}
use Rattle.std.specs.Prelude.{replicate}
use Rattle.std.specs.List.{filter}
use Rattle.std.specs.List.Sorted.{IsSorted}
use Rattle.std.specs.declared.cmp.Ordering.TheVariants.{Less}
use Rattle.std.proofs.lemmas.List.Sorted.{IsPermutation-refl}
use Rattle.element_table.specs.Formula.{empty_formula}
use Rattle.element_table.specs.Window.{window_of}
use Rattle.mgf_reader.specs.Spectrum.{PeakValue, SpectrumValue}
use Rattle.mgf_reader.specs.declared.spectrum.Charge.{Charge}
use Rattle.mgf_reader.specs.declared.spectrum.Sign.TheVariants.{Plus, Minus, Unsigned}
use Rattle.adducts.specs.Adduct.{AdductValue}
use Rattle.adducts.specs.Table.{adduct_named, ammonia}
use Rattle.adducts.specs.Charges.{charges_fit}
use Rattle.adducts.specs.Fit.{fit_of}
use Rattle.adducts.specs.inside.Choosing.{chosen_from}
use Rattle.adducts.specs.Selected.{Selected, falling_cmp, has_intensity, rank_cmp}
use Rattle.adducts.specs.declared.choice.Choice.{Choice}
use Rattle.adducts.specs.declared.outcome.Fit.TheVariants.{NoPrecursor, Range, Usable}
use Rattle.adducts.specs.declared.outcome.Fit.TheVariants as reason
use Rattle.adducts.proofs.Marking.{selected_from_chosen}

abbrev protonated : AdductValue
protonated = record { plus = true; shift = pos 10072764; extra = empty_formula; bound = negsuc 0 }

-- an adduct with which nothing is added to the molecule
abbrev with_nothing : Bool → ℤ → AdductValue
with_nothing plus shift = record { plus = plus; shift = shift; extra = empty_formula; bound = negsuc 0 }

abbrev named : List (List ℕ × AdductValue)
named =
    (codes "[M+H]+", protonated)
    ∷ (codes "[M+NH4]+", record { plus = true; shift = pos 10072764; extra = ammonia; bound = negsuc 2 })
    ∷ (codes "[M+Na]+", with_nothing true (pos 229892207))
    ∷ (codes "[M+K]+", with_nothing true (pos 389631579))
    ∷ (codes "[M-H]-", with_nothing false (negsuc 10072763))
    ∷ (codes "[M+Cl]-", with_nothing false (pos 349694013))
    ∷ []

adducts_are_named : map (λ row. adduct_named row.0) named ≡ map (λ row. Some row.1) named
adducts_are_named = refl

abbrev other_names : List (List ℕ)
other_names =
    [] ∷ codes "[M+H]" ∷ codes "[m+h]+" ∷ codes "[M+H]+ " ∷ codes "M+H" ∷ codes "[M+NH4]-" ∷ []

others_are_not : map adduct_named other_names ≡ replicate 6 None
others_are_not = refl

no_charge_fits : charges_fit true [] ≡ true
no_charge_fits = refl

two_charges : charges_fit true (record { value = 2; sign = Plus } ∷ []) ≡ false
two_charges = refl

one_of_two : charges_fit true (record { value = 2; sign = Plus } ∷ record { value = 1; sign = Plus } ∷ []) ≡ true
one_of_two = refl

other_sign : charges_fit true (record { value = 1; sign = Minus } ∷ []) ≡ false
other_sign = refl

abbrev choice : Choice
choice = record { adduct = protonated; ppm = 10; abs = 10000; peaks = 12 }

-- the m/z of protonated glucose
abbrev glucose_mz : ℕ
glucose_mz = 1810707000

window_of_glucose : window_of protonated.shift 10 10000 glucose_mz ≡ record { centre = pos 1800634236; half = 18107 }
window_of_glucose = refl

-- the least half-width, and the greatest
window_of_nothing : window_of protonated.shift 10 10000 0 ≡ record { centre = negsuc 10072763; half = 10000 }
window_of_nothing = refl

window_of_the_greatest : (window_of protonated.shift 10 10000 1000000000000000000).half ≡ 2000000
window_of_the_greatest = refl

-- what a spectrum with this precursor and these charges is fit for
abbrev spectrum : Option ℕ → List Charge → SpectrumValue
spectrum precursor charges = record { line = 1; title = []; precursor = precursor; charges = charges; peaks = [] }

abbrev twice : Charge
twice = record { value = 2; sign = Plus }

abbrev once_negative : Charge
once_negative = record { value = 1; sign = Minus }

abbrev deprotonated : Choice
deprotonated = record { adduct = with_nothing false (negsuc 10072763); ppm = 10; abs = 10000; peaks = 12 }

fit_without_precursor : fit_of (spectrum None (twice ∷ [])) choice ≡ NoPrecursor
fit_without_precursor = refl

fit_of_charges : map (λ charges. fit_of (spectrum (Some glucose_mz) charges) choice)
    ([] ∷ (record { value = 1; sign = Unsigned } ∷ []) ∷ (twice ∷ []) ∷ (once_negative ∷ []) ∷ [])
    ≡ Usable glucose_mz ∷ Usable glucose_mz ∷ reason.Charge ∷ reason.Charge ∷ []
fit_of_charges = refl

fit_of_negative : fit_of (spectrum (Some glucose_mz) (once_negative ∷ [])) deprotonated ≡ Usable glucose_mz
fit_of_negative = refl

-- from the least neutral mass that is looked at to the greatest; the charge is looked at first
fit_of_precursors : map (λ mz. fit_of (spectrum (Some mz) []) choice)
    (0 ∷ 10072764 ∷ 10072765 ∷ 20010072764 ∷ 20010072765 ∷ [])
    ≡ Range 0 ∷ Range 10072764 ∷ Usable 10072765 ∷ Usable 20010072764 ∷ Range 20010072765 ∷ []
fit_of_precursors = refl

fit_charge_first : fit_of (spectrum (Some 0) (twice ∷ [])) choice ≡ reason.Charge
fit_charge_first = refl

abbrev peak : ℕ → ℕ → ℕ → PeakValue
peak mz intensity line = record { mz = mz; intensity = intensity; line = line }

-- in all of these the precursor has the m/z 181.0707
abbrev chosen_of : List PeakValue → List PeakValue
chosen_of ranked = chosen_from choice glucose_mz [] ranked

greatest_first : chosen_of (peak 1000010000 7 5 ∷ peak 1000000000 5 4 ∷ []) ≡ peak 1000010000 7 5 ∷ []
greatest_first = refl

-- the intervals share 1000010000
intervals_meet : chosen_of (peak 1000000000 5 4 ∷ peak 1000020000 5 5 ∷ []) ≡ peak 1000000000 5 4 ∷ []
intervals_meet = refl

intervals_apart : chosen_of (peak 1000000000 5 4 ∷ peak 1000021000 5 5 ∷ []) ≡ peak 1000000000 5 4
    ∷ peak 1000021000 5 5 ∷ []
intervals_apart = refl

-- the interval of a peak may not reach the precursor's
near_the_precursor : chosen_of
    (peak glucose_mz 9 4 ∷ peak 1900000000 9 7 ∷ peak 1810670787 8 5 ∷ peak 1810670786 7 6 ∷ [])
    ≡ peak 1810670786 7 6 ∷ []
near_the_precursor = refl

three_at_most : chosen_from (record choice { peaks = 3 }) glucose_mz []
    (peak 1200000000 7 6 ∷ peak 900000000 6 7 ∷ peak 1100000000 6 5 ∷ peak 1000000000 5 4 ∷ [])
    ≡ peak 1200000000 7 6 ∷ peak 900000000 6 7 ∷ peak 1100000000 6 5 ∷ []
three_at_most = refl

without_intensity : filter has_intensity (peak 1000000000 5 4 ∷ peak 1200000000 0 5 ∷ []) ≡ peak 1000000000 5 4 ∷ []
without_intensity = refl

-- first the greater intensity, then the smaller m/z, then the earlier line
rank_of_intensities : rank_cmp (peak 1000010000 7 5) (peak 1000000000 5 4) ≡ Less
rank_of_intensities = refl

rank_of_mz : rank_cmp (peak 1000000000 5 5) (peak 1000010000 5 4) ≡ Less
rank_of_mz = refl

rank_of_lines : rank_cmp (peak 1000000000 5 4) (peak 1000000000 5 5) ≡ Less
rank_of_lines = refl

-- of two peaks whose intervals meet and whose intensities are the same, that of the smaller m/z alone is selected
two_in_order : IsSorted rank_cmp (peak 1000000000 5 4 ∷ peak 1000020000 5 5 ∷ [])
two_in_order zero none from below = refl
two_in_order (suc place) none from below = absurd (omega arith)

one_falls : (one : PeakValue) → IsSorted falling_cmp (one ∷ [])
one_falls one place none from below = absurd (omega arith)

selected_where_intervals_meet : Selected choice 1810707000 (peak 1000000000 5 4 ∷ peak 1000020000 5 5 ∷ [])
    (peak 1000000000 5 4 ∷ [])
selected_where_intervals_meet =
    selected_from_chosen choice 1810707000 (peak 1000000000 5 4 ∷ peak 1000020000 5 5 ∷ [])
    (peak 1000000000 5 4 ∷ peak 1000020000 5 5 ∷ []) (peak 1000000000 5 4 ∷ [])
    (IsPermutation-refl (peak 1000000000 5 4 ∷ peak 1000020000 5 5 ∷ [])) two_in_order
    (IsPermutation-refl (peak 1000000000 5 4 ∷ [])) (one_falls (peak 1000000000 5 4))
