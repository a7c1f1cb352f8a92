pub mod SetParts
pub mod PartWalk
pub mod Sums
pub mod Owners
pub mod BoundValues
pub mod Bounding
pub mod Trees
pub mod Tables
pub mod Members
pub mod Pricing
pub mod Caps
mod CertHolds
pub mod PriceHolds
pub mod BoundHolds
mod TableExamples
mod BoundExamples
