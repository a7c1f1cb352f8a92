pub mod Value
pub mod Title
pub mod Line
pub mod Outline
pub mod Document
pub mod Reading
