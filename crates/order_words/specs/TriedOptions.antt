-- Options of each need, on which the form of words is tried.
use Rattle.std.specs.Prelude.{ℕ, List, [], ◌∷◌, codes, Some, None}
use Rattle.order_words.specs.Words.{Given, KnownOption, required, optional, flag}

abbrev pub tried_options : List KnownOption
tried_options =
    record { name = codes "--in"; need = required } ∷ record { name = codes "--out"; need = optional }
    ∷ record { name = codes "--json"; need = flag } ∷ []

-- the option without a value, as words give it
abbrev pub given_flag : Given
given_flag = record { name = codes "--json"; value = None }

-- an option with a value, as words give it
abbrev pub given_value : List ℕ → List ℕ → Given
given_value name value = record { name = name; value = Some value }
