pub mod DigitsValue
pub mod Examples
pub mod IsNumeral
pub mod UnitsOf
pub mod ReadableUnits
