pub mod Words
pub mod Orders
pub mod NamesOf
pub mod TriedOptions
pub mod inside
