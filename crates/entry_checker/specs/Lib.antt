pub mod GapPlaces
pub mod EntryPlaces
pub mod inside
