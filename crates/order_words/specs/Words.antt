-- The form of words: the options of a command, and what words give of them.
use Rattle.std.specs.Prelude.{ℕ, List, [], ◌∷◌, map, filter, Option, Some, None, Bool, true, false, ◌==◌, ◌&&◌}
use Rattle.std.specs.Prelude.{if◌then◌else◌, String, string_bytes}
use Rattle.std.specs.declared.alloc.Global.{Global}
use Rattle.std.specs.List.{list_all, list_any, before_first, after_first}
use Rattle.std.specs.Option.{option_map, option_and_then}
use Rattle.std.specs.Str.{bytes_eq}

-- how an option stands in a command: once with a value, at most once with a value, or at most once without a value
pub data Need : Type 0 where
  required : Need
  optional : Need
  flag : Need

-- an option of a command
pub record KnownOption : Type 0 where
  pub name : List ℕ
  pub need : Need

-- the texts of the words
abbrev pub texts_of : List (String Global) → List (List ℕ)
texts_of words = map string_bytes words

-- its first byte is `-`
abbrev pub begins_with_dash : List ℕ → Bool
begins_with_dash [] = false
begins_with_dash (first ∷ rest) = first == 45

-- the byte is `=`
abbrev pub is_equals_sign : ℕ → Bool
is_equals_sign byte = byte == 61

abbrev pub has_equals_sign : List ℕ → Bool
has_equals_sign word = list_any is_equals_sign word

-- an option as words give it, with its value or without one
pub record Given : Type 0 where
  pub name : List ℕ
  pub value : Option (List ℕ)

-- what a word with an equals sign gives: the name stands before the first such sign, the value behind it
abbrev pub joined : List ℕ → Given
joined word = record { name = before_first is_equals_sign word; value = Some (after_first is_equals_sign word) }

abbrev pub is_flag_need : Need → Bool
is_flag_need required = false
is_flag_need optional = false
is_flag_need flag = true

-- the word is an option without a value
abbrev pub is_flag : List KnownOption → List ℕ → Bool
is_flag table word = list_any (λ known. bytes_eq known.name word && is_flag_need known.need) table

-- The options that words give to a command, in their order: a word with an equals sign gives one by itself, and so does
-- an option without a value; any other word is the name of one whose value is the next word, which begins with no dash.
-- None where the words have another form.
abbrev pub options_of : List KnownOption → List (List ℕ) → Option (List Given)
options_of table [] = Some []
options_of table (word ∷ []) =
    if has_equals_sign word then Some (joined word ∷ []) else
    if is_flag table word then Some (record { name = word; value = None } ∷ []) else None
options_of table (word ∷ next ∷ later) =
    if has_equals_sign word then option_map (λ options. joined word ∷ options) (options_of table (next ∷ later)) else
    if is_flag table word
    then option_map (λ options. record { name = word; value = None } ∷ options) (options_of table (next ∷ later)) else
    if begins_with_dash next then None else
    option_map (λ options. record { name = word; value = Some next } ∷ options) (options_of table later)

-- what is given for an option of this name
abbrev pub values_of : List ℕ → List Given → List (Option (List ℕ))
values_of name options = map (λ option. option.value) (filter (λ option. bytes_eq option.name name) options)

-- an option is one of a command's
abbrev pub is_in_table : List KnownOption → Given → Bool
is_in_table table option = list_any (λ known. bytes_eq known.name option.name) table

-- what is given for an option is what the command needs
abbrev pub meets : Need → List (Option (List ℕ)) → Bool
meets required (Some value ∷ []) = true
meets optional [] = true
meets optional (Some value ∷ []) = true
meets flag [] = true
meets flag (None ∷ []) = true
meets need values = false

-- Each option is one of the command's, and for each of these there is what it needs.
abbrev pub has_form : List KnownOption → List Given → Bool
has_form table options =
    list_all (is_in_table table) options && list_all (λ known. meets known.need (values_of known.name options)) table

-- the options that words of the right form give to a command
abbrev pub formed_options : List KnownOption → List (List ℕ) → Option (List Given)
formed_options table words =
    option_and_then (λ options. if has_form table options then Some options else None) (options_of table words)

abbrev pub first_value : List (Option (List ℕ)) → Option (List ℕ)
first_value [] = None
first_value (value ∷ values) = value

-- the value that is given for an option
abbrev pub value_in : List ℕ → List Given → Option (List ℕ)
value_in name options = first_value (values_of name options)
