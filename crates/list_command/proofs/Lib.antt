pub mod IsReport
pub mod ListPromise
