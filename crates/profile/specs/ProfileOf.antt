-- The profile of a text, or why it is refused. The table is the one that the grammar of TOML gives for the text; bytes
-- that are no UTF-8 are not TOML.
use Rattle.std.specs.Prelude.{ℕ, List, Option, Some, None, Result, Ok, Err, if◌then◌else◌}
use Rattle.std.specs.Str.{is_utf8}
use Rattle.toml.specs.Data.{Members}
use Rattle.toml.specs.Parse.{parse_document}
use Rattle.profile.specs.Profile.{ProfileValue}
use Rattle.profile.specs.Places.{places_of}
use Rattle.profile.specs.Refusal.{refusal_of}
use Rattle.profile.specs.Values.{profile_value_of}
use Rattle.profile.specs.declared.fault.ProfileFault.{ProfileFault}
use Rattle.profile.specs.declared.fault.ProfileFault.TheVariants.{NotToml}

-- the table that a text is, where it is TOML
abbrev pub table_of : List ℕ → Option Members
table_of bytes = if is_utf8 bytes then parse_document bytes else None

abbrev pub unless_refused : Option ProfileFault → ProfileValue → Result ProfileValue ProfileFault
unless_refused None profile = Ok profile
unless_refused (Some fault) profile = Err fault

abbrev pub profile_in : Option Members → Result ProfileValue ProfileFault
profile_in None = Err NotToml
profile_in (Some members) = unless_refused (refusal_of (places_of members)) (profile_value_of members)

abbrev pub profile_of : List ℕ → Result ProfileValue ProfileFault
profile_of bytes = profile_in (table_of bytes)
