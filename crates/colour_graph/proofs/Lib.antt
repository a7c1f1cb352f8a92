mod Examples
pub mod Marks
pub mod Order
pub mod Indexing
pub mod Growing
pub mod Sets
pub mod Counting
pub mod Choosing
pub mod HeadsSoFar
pub mod Scores
mod Maximal
