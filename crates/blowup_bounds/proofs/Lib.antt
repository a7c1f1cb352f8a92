pub mod Rests
pub mod Examples
