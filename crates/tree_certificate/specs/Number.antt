-- The numbers of a certificate.
use Rattle.std.specs.Prelude.{ℕ, ℤ, pos, Bool, nat_le, slice_index_or, unsigned_abs, IsTrue, List}
use Rattle.std.specs.List.{list_all}

-- They are at most so far from 0.
abbrev pub greatest_number : ℕ
greatest_number = 1000000000000000

-- a number is at most so far from 0
abbrev pub is_near : ℕ → ℤ → Bool
is_near most z = nat_le (unsigned_abs z) most

-- the rows of a table, each of them a list of numbers that a certificate may hold
abbrev pub AreNumbers : List (List ℤ) → Type 0
AreNumbers rows = IsTrue (list_all (λ row. list_all (is_near greatest_number) row) rows)

-- a list of numbers that a certificate may hold
abbrev pub AreNear : List ℤ → Type 0
AreNear numbers = IsTrue (list_all (is_near greatest_number) numbers)

-- the number at a place of a list, and 0 behind it
abbrev pub number_in : List ℤ → ℕ → ℤ
number_in numbers place = slice_index_or numbers place (pos 0)
