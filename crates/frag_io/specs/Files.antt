-- Files in memory.
use Rattle.std.specs.Prelude.{ℕ, Bool, List, Option, Vec, String, string_bytes, find, option_map}
use Rattle.std.specs.Str.{bytes_eq}
use Rattle.std.specs.declared.alloc.Global.{Global}

-- files, each a name and its bytes
abbrev pub Files : Type 0
Files = List (String Global × Vec ℕ Global)

abbrev pub is_named : List ℕ → String Global × Vec ℕ Global → Bool
is_named name file = bytes_eq (string_bytes file.0) name

-- the bytes of the first file of a name
abbrev pub bytes_under : Files → List ℕ → Option (List ℕ)
bytes_under files name = option_map (λ file. file.1.items) (find (is_named name) files)
