pub mod Elements
pub mod Formula
pub mod FormulaText
pub mod Window
pub mod Rule
pub mod Listed
pub mod FormulaReading
pub mod FormulaList
