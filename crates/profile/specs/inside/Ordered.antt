-- How the bounds of a table of shares go on.
use Rattle.std.specs.Prelude.{Bool, false, true, ℤ, int_lt}

-- whether a bound may stand before another, where they rise and where they fall
abbrev pub comes : Bool → ℤ → ℤ → Bool
comes true = int_lt
comes false = λ first next. int_lt next first
