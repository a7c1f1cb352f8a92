-- The commands: what words order, and under which options.
use Rattle.std.specs.Prelude.{ℕ, List, [], ◌∷◌, codes, Option, Some, None, Bool, true, not, ◌&&◌, if◌then◌else◌}
use Rattle.std.specs.Prelude.{unwrap_or}
use Rattle.std.specs.Option.{option_map, option_and_then}
use Rattle.std.specs.Str.{bytes_eq}
use Rattle.adducts.specs.Adduct.{AdductValue}
use Rattle.adducts.specs.Table.{adduct_named}
use Rattle.order_words.specs.Words.{Given, KnownOption, required, optional, formed_options, value_in}

-- what a list is asked for: the name of its text, that of its profile where it has one, and the adduct of its ions
pub record ListNames : Type 0 where
  pub spectra : List ℕ
  pub profile : Option (List ℕ)
  pub adduct : AdductValue

-- what a solving or a check is asked for: the name of its document beside these
pub record DocumentNames : Type 0 where
  pub spectra : List ℕ
  pub document : List ℕ
  pub profile : Option (List ℕ)
  pub adduct : AdductValue

-- what a run is asked to do
pub data Order : Type 0 where
  list : ListNames → Order
  solve : DocumentNames → Order
  check : DocumentNames → Order

-- the adduct of the table that is named, or `[M+H]+` where none is
abbrev pub adduct_by : Option (List ℕ) → Option AdductValue
adduct_by given = adduct_named (unwrap_or given (codes "[M+H]+"))

abbrev pub list_options : List KnownOption
list_options =
    record { name = codes "--in"; need = required } ∷ record { name = codes "--profile"; need = optional }
    ∷ record { name = codes "--adduct"; need = optional } ∷ []

-- what options name that each command on a text has, where they name it
abbrev pub text_names_of : List Given → Option ListNames
text_names_of options =
    option_and_then (λ spectra.
    option_map (λ adduct. record { spectra = spectra; profile = value_in (codes "--profile") options; adduct = adduct })
    (adduct_by (value_in (codes "--adduct") options)))
    (value_in (codes "--in") options)

-- the order of a list by its options
abbrev pub list_order_of : List Given → Option Order
list_order_of options = option_map (λ names. list names) (text_names_of options)

-- the options of a solving, and of a check
abbrev pub document_options : List KnownOption
document_options = record { name = codes "--cert"; need = required } ∷ list_options

-- a name is another than that of a slot that may have one
abbrev pub is_other_than : List ℕ → Option (List ℕ) → Bool
is_other_than name None = true
is_other_than name (Some other) = not (bytes_eq name other)

-- a document is never named as the text or the profile is
abbrev pub has_own_document : DocumentNames → Bool
has_own_document names =
    not (bytes_eq names.document names.spectra) && is_other_than names.document names.profile

-- the order of a solving, where it is one
abbrev pub solve_order : DocumentNames → Option Order
solve_order names = if has_own_document names then Some (solve names) else None

-- what is asked for by the name of a document and what a list would be asked for
abbrev pub with_document : List ℕ → ListNames → DocumentNames
with_document document names =
    record { spectra = names.spectra; document = document; profile = names.profile; adduct = names.adduct }

-- what options name for a command on a text and a document, where they name it
abbrev pub document_names_in : List Given → Option DocumentNames
document_names_in options =
    option_and_then (λ names.
    option_map (λ document. with_document document names) (value_in (codes "--cert") options))
    (text_names_of options)

-- the order of a solving by its options
abbrev pub solve_order_of : List Given → Option Order
solve_order_of options = option_and_then solve_order (document_names_in options)

-- The order of a check by its options. It writes no document, so that the document may have any name.
abbrev pub check_order_of : List Given → Option Order
check_order_of options = option_map (λ names. check names) (document_names_in options)

-- The first word is the command, and the later ones give its options. All other words are no order.
abbrev pub order_of : List (List ℕ) → Option Order
order_of [] = None
order_of (command ∷ words) =
    if bytes_eq command (codes "list") then option_and_then list_order_of (formed_options list_options words) else
    if bytes_eq command (codes "solve") then option_and_then solve_order_of (formed_options document_options words) else
    if bytes_eq command (codes "check") then option_and_then check_order_of (formed_options document_options words) else
    None

-- the name of the profile of an order, where it has one
abbrev pub profile_named : Order → Option (List ℕ)
profile_named (list names) = names.profile
profile_named (solve names) = names.profile
profile_named (check names) = names.profile
