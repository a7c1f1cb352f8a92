pub mod Lists
pub mod Vertices
pub mod LossGraph
pub mod inside
