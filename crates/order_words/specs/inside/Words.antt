-- What the options of a table and what is found among words stand for.
use Rattle.std.specs.Prelude.{◌≡◌, ℕ, List, [], ◌∷◌, map, Option, Some, None, is_some, Bool, if◌then◌else◌}
use Rattle.std.specs.Option.{option_copied}
use Rattle.std.specs.Str.{bytes_eq}
use Rattle.order_words.specs.declared.words.Need.{Need as NeedRead}
use Rattle.order_words.specs.declared.words.Need.TheVariants as Read
use Rattle.order_words.specs.declared.words.KnownOption.{KnownOption as KnownRead}
use Rattle.order_words.specs.declared.words.NextOption.{NextOption}
use Rattle.order_words.specs.declared.words.Found.{Found}
use Rattle.order_words.specs.declared.words.Found.TheVariants.{Nothing, Bare, Value, Twice}
use Rattle.order_words.specs.Words.{Given, Need, KnownOption, required, optional, flag, formed_options}

abbrev pub need_of : NeedRead → Need
need_of Read.Required = required
need_of Read.Optional = optional
need_of Read.Flag = flag

abbrev pub known_of : KnownRead → KnownOption
known_of known = record { name = known.name.now; need = need_of known.need }

abbrev pub known_in : List KnownRead → List KnownOption
known_in table = map known_of table

-- the option that a step over the words finds
abbrev pub given_of : NextOption → Given
given_of next = record { name = next.name.now; value = option_copied next.value }

-- what an option gives to this name
abbrev pub value_under : List ℕ → Given → List (Option (List ℕ))
value_under name option = if bytes_eq option.name name then option.value ∷ [] else []

-- the words are of the form of these options
abbrev pub is_of_form : List KnownOption → List (List ℕ) → Bool
is_of_form table words = is_some (formed_options table words)

-- what was found of an option: nothing, that it stands alone, its value, or what stands first of several
abbrev pub IsFound : Found → List (Option (List ℕ)) → Type 0
IsFound Nothing values = values ≡ []
IsFound Bare values = values ≡ None ∷ []
IsFound (Value value) values = values ≡ Some value.now ∷ []
IsFound (Twice first) values =
    (other : Option (List ℕ)) × (later : List (Option (List ℕ))) × (values ≡ option_copied first ∷ other ∷ later)
