-- How the lister counts: the elements that it counts, what is chosen so far, and what its list gains. A reader of the
-- promises needs none of it: which list is made stands in the clauses of `list`.
pub mod Counting
pub mod Dividing
pub mod Elements
pub mod Levels
pub mod Weights
