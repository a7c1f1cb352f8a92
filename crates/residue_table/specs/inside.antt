-- How the table is filled: what an entry says, and what a round adds. A reader of the promises needs none of it.
pub mod Entries
pub mod Rounds
