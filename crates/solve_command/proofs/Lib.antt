mod EdgeCount
mod AreGoodLines
mod GoodSections
mod GoodEntries
mod GoodTrees
mod SolvedIsRight
mod MadeSections
mod SolvePromise
