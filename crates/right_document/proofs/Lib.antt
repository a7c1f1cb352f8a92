mod OneOutline
mod LiesBelow
mod AllPairs
mod AreOwnLists
mod GoodReasons
pub mod CandidatesOf
pub mod OneEach
pub mod IsPrefix
pub mod GoodLines
