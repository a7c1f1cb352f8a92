pub mod Fits
mod LeastEnough
mod HasColour
mod MarkedColours
mod UsefulColours
mod IdleColours
mod Raising
pub mod TableNumbers
mod EnoughIsHigh
mod LowPlaces
pub mod BoundVerdicts
pub mod Verdicts
pub mod CapOf
mod FoundSets
mod Gaining
pub mod SplitSides
