pub mod Examples
pub mod Intervals
pub mod Sorted
pub mod Standing
pub mod Marking
pub mod Usables
