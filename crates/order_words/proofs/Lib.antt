pub mod OptionsOf
pub mod OrderOf
