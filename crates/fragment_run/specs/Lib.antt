pub mod PlanOf
pub mod SolvedAndChecked
