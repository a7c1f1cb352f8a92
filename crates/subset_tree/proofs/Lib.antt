mod Exactness
pub mod Filled
pub mod Gaining
mod Growing
mod Owned
mod Passing
mod Places
mod Reaching
mod Reading
mod Standing
pub mod Sums
pub mod Widening
