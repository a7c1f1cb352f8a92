pub mod Graph
pub mod Building
pub mod Colourful
pub mod EdgeSet
pub mod Bounded
pub mod Maximal
pub mod Cap
pub mod inside
