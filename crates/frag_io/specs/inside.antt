-- How the desks of this crate keep their states. A reader of the promises needs none of it: what a state is and how
-- calls change it stands in the clauses of `Desk` and in the files beside this folder.
pub mod BySlot
pub mod Bytes
pub mod Faults
pub mod Outlets
pub mod Stage
