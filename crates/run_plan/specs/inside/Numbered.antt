-- A number that may stand behind words.
use Rattle.std.specs.Prelude.{ℕ, List, [], decimal, Option, Some, None}

abbrev pub number_text : Option ℕ → List ℕ
number_text None = []
number_text (Some number) = decimal number
