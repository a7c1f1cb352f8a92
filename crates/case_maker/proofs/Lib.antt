mod States
mod Appended
mod Length
pub mod Examples
