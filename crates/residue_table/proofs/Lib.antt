pub mod Sums
pub mod Reaching
pub mod Filling
pub mod Examples
