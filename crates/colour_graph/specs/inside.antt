pub mod Bits
pub mod Heads
pub mod Index
pub mod Sets
