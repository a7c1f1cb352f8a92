pub mod Numeral
pub mod Units
pub mod FixedText
pub mod inside
