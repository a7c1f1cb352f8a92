-- From the bytes to the table, and from the searches to the answer.
use Rattle.std.proofs.Common.{◌≡◌, ◌∙◌, ℕ, List, Option, Some, None, Ok, Err, ap, inl, inr}
use Rattle.std.specs.Prelude.{IsUtf8}
use Rattle.std.specs.Str.{is_utf8}
use Rattle.std.proofs.lemmas.Bool.{cases_Bool}
use Rattle.std.proofs.lemmas.Str.{is_utf8-from_IsUtf8, IsUtf8-from_is_utf8}
use Rattle.toml.specs.Data.{Members}
use Rattle.toml.specs.Parse.{parse_document}
use Rattle.profile.specs.Places.{places_of}
use Rattle.profile.specs.ProfileOf.{profile_in, profile_of, table_of, unless_refused}
use Rattle.profile.specs.Refusal.{refusal_of}
use Rattle.profile.specs.inside.Searched.{Finds}
use Rattle.profile.specs.Values.{profile_value_of}
use Rattle.profile.specs.declared.fault.ProfileFault.{ProfileFault}
use Rattle.profile.specs.declared.fault.ProfileFault.TheVariants.{NotToml}
use Rattle.profile.specs.declared.fault.ProfileError.{ProfileError}
use Rattle.profile.specs.declared.fault.ProfileError.TheVariants.{Refused, OutOfMemory}

pub table_of-utf8 : (bytes : List ℕ) (entries : Members) → IsUtf8 bytes → parse_document bytes ≡ Some entries
    → table_of bytes ≡ Some entries
table_of-utf8 bytes entries text is = rw (is_utf8-from_IsUtf8 bytes text) is

pub table_of-none : (bytes : List ℕ) → (IsUtf8 bytes → parse_document bytes ≡ None) → table_of bytes ≡ None
table_of-none bytes none =
    elim (cases_Bool (is_utf8 bytes)) [
      | inl text ↦ rw text (none (IsUtf8-from_is_utf8 bytes text))
      | inr other ↦ rw other
    ]

-- a fault that a search told is the one that was found
pub told : (error : ProfileError) (fault : ProfileFault) (found : Option ProfileFault) → Finds (Err error) found
    → error ≡ Refused fault → found ≡ Some fault
told (Refused other) fault found is same = let e : other ≡ fault = cc in is ∙ ap Some e
told OutOfMemory fault found is same = cc

pub profile_of-not_toml : (bytes : List ℕ) → table_of bytes ≡ None → profile_of bytes ≡ Err NotToml
profile_of-not_toml bytes is = ap profile_in is

pub profile_of-refused : (bytes : List ℕ) (entries : Members) (fault : ProfileFault) → table_of bytes ≡ Some entries
    → refusal_of (places_of entries) ≡ Some fault → profile_of bytes ≡ Err fault
profile_of-refused bytes entries fault is refused = ap profile_in is
    ∙ ap (λ (found : Option ProfileFault). unless_refused found (profile_value_of entries)) refused

pub profile_of-read : (bytes : List ℕ) (entries : Members) → table_of bytes ≡ Some entries
    → refusal_of (places_of entries) ≡ None → profile_of bytes ≡ Ok (profile_value_of entries)
profile_of-read bytes entries is fine = ap profile_in is
    ∙ ap (λ (found : Option ProfileFault). unless_refused found (profile_value_of entries)) fine
