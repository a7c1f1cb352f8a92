pub mod Chain
pub mod Facts
pub mod Weights
pub mod OneMoreList
pub mod Joining
pub mod Heads
pub mod Built
mod Examples
