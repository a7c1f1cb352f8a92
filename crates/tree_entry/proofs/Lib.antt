mod IsReached
mod AreRows
pub mod Ranked
