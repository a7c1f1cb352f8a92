pub mod SolvePlan
pub mod RightPart
pub mod SolvePromise
pub mod inside
