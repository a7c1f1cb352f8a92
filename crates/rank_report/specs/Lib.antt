pub mod Report
pub mod ListReport
pub mod JsonReport
pub mod inside
