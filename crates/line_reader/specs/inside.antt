pub mod Cut
pub mod Row
