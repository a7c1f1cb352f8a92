pub mod Parity
pub mod Test
