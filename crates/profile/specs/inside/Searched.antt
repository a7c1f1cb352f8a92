-- What the program walks with, and its places, as the definitions see them; and what a search of them finds.
use Rattle.std.specs.Prelude.{◌≡◌, ℕ, List, [], ◌∷◌, Option, Some, None, Result, Ok, Err, String, map, option_map}
use Rattle.std.specs.Prelude.{unwrap_or, ⊤}
use Rattle.std.specs.Borrow.{Bor}
use Rattle.std.specs.BTreeMap.{BTreeMap}
use Rattle.std.specs.declared.alloc.Global.{Global}
use Rattle.toml.specs.Data.{Data, no_members}
use Rattle.toml.specs.View.{view, table_view}
use Rattle.toml.specs.declared.value.Value.{Value}
use Rattle.profile.specs.Form.{Form, Known}
use Rattle.profile.specs.Losses.{taken_by}
use Rattle.profile.specs.declared.places.Walk.{Walk}
use Rattle.profile.specs.inside.Seen.{form_seen}
use Rattle.profile.specs.declared.places.Place.{Place}
use Rattle.profile.specs.declared.refusal.Sought.{Sought}
use Rattle.profile.specs.declared.refusal.Sought.TheVariants.{UnknownKeys, BadValues, OverLimits}
use Rattle.profile.specs.declared.fault.ProfileFault.{ProfileFault}
use Rattle.profile.specs.declared.fault.ProfileError.{ProfileError}
use Rattle.profile.specs.declared.fault.ProfileError.TheVariants.{Refused, OutOfMemory}
use Rattle.profile.specs.Places as spec
use Rattle.profile.specs.Refusal.{unknown_at, bad_at, over_at}

-- the losses of a table that may be there
abbrev pub losses_seen : Option (Bor (BTreeMap (String Global) Value)) → List (List ℕ)
losses_seen found = taken_by [] (unwrap_or (option_map (λ table. table_view table.now) found) no_members)

abbrev pub known_seen : Walk → Known
known_seen walk = record { symbols = map (λ element. element.0.now) walk.elements.now; named = losses_seen walk.named }

abbrev pub place_seen : Place → spec.Place
place_seen place = record { name = place.name.items; form = form_seen place.form; value = view place.value.now }

abbrev pub places_seen : List Place → List spec.Place
places_seen places = map place_seen places

-- a place of this name, form and value alone
abbrev pub one_place : List ℕ → Form → Data → List spec.Place
one_place name form value = record { name = name; form = form; value = value } ∷ []

-- what each search looks for
abbrev pub fault_at : Sought → spec.Place → Option ProfileFault
fault_at UnknownKeys = unknown_at
fault_at BadValues = bad_at
fault_at OverLimits = over_at

-- a search comes to this end; want of memory says nothing
abbrev pub Finds : Result (Unit {0}) ProfileError → Option ProfileFault → Type 0
Finds (Ok done) found = found ≡ None
Finds (Err (Refused fault)) found = found ≡ Some fault
Finds (Err OutOfMemory) found = ⊤
