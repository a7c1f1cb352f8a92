-- Why the table of a profile text is refused: the first unknown key, or else the first bad value, or else the first
-- number out of range.
use Rattle.std.specs.Prelude.{List, [], ◌∷◌, Option, Some, None, option_map, if◌then◌else◌}
use Rattle.std.specs.Option.{option_or}
use Rattle.profile.specs.Form.{is_unknown, has_kind, excess_of}
use Rattle.profile.specs.Places.{Place}
use Rattle.profile.specs.declared.fault.ProfileFault.{ProfileFault}
use Rattle.profile.specs.declared.fault.ProfileFault.TheVariants.{UnknownKey, BadValue, OverLimit}

-- the first fault that a search finds
abbrev pub first_fault : (Place → Option ProfileFault) → List Place → Option ProfileFault
first_fault fault_at [] = None
first_fault fault_at (place ∷ places) = option_or (fault_at place) (first_fault fault_at places)

abbrev pub unknown_at : Place → Option ProfileFault
unknown_at place = if is_unknown place.form then Some (UnknownKey place.name) else None

abbrev pub bad_at : Place → Option ProfileFault
bad_at place = if has_kind place.form place.value then None else Some (BadValue place.name)

abbrev pub over_at : Place → Option ProfileFault
over_at place = option_map (OverLimit place.name) (excess_of place.form place.value)

abbrev pub refusal_of : List Place → Option ProfileFault
refusal_of places =
    option_or (first_fault unknown_at places) (option_or (first_fault bad_at places) (first_fault over_at places))
