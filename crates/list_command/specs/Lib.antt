pub mod ListPlan
pub mod ReportForm
pub mod Sections
pub mod ListPromise
