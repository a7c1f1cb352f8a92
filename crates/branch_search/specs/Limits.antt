-- The graphs and budgets of a search.
use Rattle.std.specs.Prelude.{ℕ}

-- A search is of a graph with at most so many colours beside the root's.
abbrev pub greatest_search_colours : ℕ
greatest_search_colours = 64

-- A search makes at most so many splits.
abbrev pub greatest_budget : ℕ
greatest_budget = 10000
