pub mod Enough
pub mod Gained
pub mod Low
pub mod Sides
