pub mod Plain
pub mod inside
