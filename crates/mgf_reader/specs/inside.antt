-- What the clauses of private functions cite alone.
pub mod ByteClass
pub mod Cutting
pub mod Judging
pub mod Line
