pub mod Tables
pub mod Scores
pub mod Default
