pub mod LossTables
pub mod NearScores
pub mod Defaults
mod Examples
