mod IsColourful
mod ColourCount
mod AreMarks
mod AreFirsts
mod Gathering
mod Totals
mod GapPlaces
mod Looking
pub mod IsEntryVerdict
