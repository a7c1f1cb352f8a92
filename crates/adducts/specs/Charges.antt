-- Whether an adduct fits the charges that a spectrum may have.
use Rattle.std.specs.Prelude.{Bool, true, not, ◌==◌, ◌&&◌, ◌||◌, List, length}
use Rattle.std.specs.List.{list_any}
use Rattle.mgf_reader.specs.declared.spectrum.Charge.{Charge}
use Rattle.mgf_reader.specs.declared.spectrum.Sign.{Sign}
use Rattle.mgf_reader.specs.declared.spectrum.Sign.TheVariants.{Plus, Minus, Unsigned}

-- a sign is the adduct's, or none was written
abbrev pub agrees : Bool → Sign → Bool
agrees plus Plus = plus
agrees plus Minus = not plus
agrees plus Unsigned = true

-- a charge of one with the adduct's sign or with no sign
abbrev pub is_carried : Bool → Charge → Bool
is_carried plus charge = charge.value == 1 && agrees plus charge.sign

-- no charge is named, or one of them is carried
abbrev pub charges_fit : Bool → List Charge → Bool
charges_fit plus charges = length charges == 0 || list_any (λ charge. is_carried plus charge) charges
