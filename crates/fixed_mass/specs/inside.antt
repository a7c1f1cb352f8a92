-- What the clauses of private functions cite alone.
pub mod Tenths
