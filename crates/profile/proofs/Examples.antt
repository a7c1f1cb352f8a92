-- Worked examples, computed from the bytes.
use Rattle.std.proofs.Common.{◌≡◌, ℕ, List, pos, negsuc, codes, [], ◌∷◌, ◌++◌, replicate, Ok, Err, refl}
use Rattle.std.specs.Fmt.{digits}
use Rattle.std.specs.Str.{is_utf8, chars}
use Rattle.element_table.specs.FormulaReading.{formula_of}
use Rattle.element_table.specs.Rule.{any, even}
use Rattle.toml.proofs.OnLiterals.{toml_on_literals}
use Rattle.profile.specs.Profile.{default_profile_value}
use Rattle.profile.specs.ProfileOf.{profile_of}
use Rattle.profile.specs.Table.{element_numbers}
use Rattle.profile.specs.declared.fault.ProfileFault.TheVariants.{NotToml, UnknownKey, BadValue, OverLimit}

pub nothing : profile_of [] ≡ Ok default_profile_value
unfolding toml_on_literals is_utf8 chars
nothing = refl

unknown_key : profile_of (codes "pmm = 10") ≡ Err (UnknownKey (codes "pmm"))
unfolding toml_on_literals is_utf8 chars
unknown_key = refl

over_limit : profile_of (codes "ppm = 101") ≡ Err (OverLimit (codes "ppm") (pos 101))
unfolding toml_on_literals is_utf8 chars
over_limit = refl

bad_value : profile_of (codes "ppm = \"10\"") ≡ Err (BadValue (codes "ppm"))
unfolding toml_on_literals is_utf8 chars
bad_value = refl

no_value : profile_of (codes "ppm =") ≡ Err NotToml
unfolding toml_on_literals is_utf8 chars
no_value = refl

no_limit : profile_of (codes "elements = {C = -1}") ≡ Err (BadValue (codes "elements"))
unfolding toml_on_literals is_utf8 chars element_numbers
no_limit = refl

-- a key below `elements` comes before one after it
walk_order : profile_of (codes "pmm = 1\nelements = {zz = 1}") ≡ Err (UnknownKey (codes "elements.zz"))
unfolding toml_on_literals is_utf8 chars element_numbers
walk_order = refl

deep_name : profile_of (codes "rules = [{}, {coefficients = {C = 1001}}]")
    ≡ Err (OverLimit (codes "rules.1.coefficients.C") (pos 1001))
unfolding toml_on_literals is_utf8 chars digits
deep_name = refl

-- limits that are not named are 0; a rule for candidates is kept apart
abbrev values_text : List ℕ
values_text =
    codes "ppm = 5\nelements = {Si = 3}\n"
    ++ codes "rules = [{constant = 1, apply = \"neutral\"}, {coefficients = {H = -2}, parity = \"even\"}]"

values : profile_of values_text ≡ Ok (record {
  ppm = 5;
  abs = 10000;
  peaks = 12;
  budget = 200;
  limits = replicate 10 0 ++ 3 ∷ replicate 5 0;
  rules = record { coefficients = negsuc 1 ∷ replicate 15 (pos 0); constant = pos 0; parity = even } ∷ [];
  neutral_rules = record { coefficients = replicate 16 (pos 0); constant = pos 1; parity = any } ∷ [];
  scores = default_profile_value.scores;
})
unfolding toml_on_literals is_utf8 chars digits element_numbers
values = refl

-- a loss under two spellings
doubled : profile_of (codes "scores.named = {H2O = 1, OH2 = 1}") ≡ Err (BadValue (codes "scores.named.OH2"))
unfolding toml_on_literals is_utf8 chars formula_of
doubled = refl

pair_out_of_range : profile_of (codes "scores.intensity = [[1001, 1], [0, 2001]]")
    ≡ Err (OverLimit (codes "scores.intensity.0.0") (pos 1001))
unfolding toml_on_literals is_utf8 chars digits
pair_out_of_range = refl
