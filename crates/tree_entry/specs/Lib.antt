pub mod Rows
pub mod EntryIsRight
pub mod Rank
