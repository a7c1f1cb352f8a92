pub mod Limits
pub mod Pricing
pub mod Room
pub mod inside
