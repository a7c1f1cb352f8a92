pub mod Trimmed
pub mod FieldsBy
pub mod FormWithin
pub mod Signed
pub mod ChargesOf
pub mod SpectraOf
pub mod Judges
pub mod EndedLines
pub mod SoFar
pub mod TakesIn
pub mod ReaderAnswers
pub mod ReadsLines
pub mod KindOf
mod Examples
