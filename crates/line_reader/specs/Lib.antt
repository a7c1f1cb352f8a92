pub mod Verdict
pub mod Taking
pub mod Head
pub mod inside
