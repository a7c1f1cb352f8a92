-- The plan of each order.
use Rattle.std.specs.Prelude.{List}
use Rattle.check_command.specs.CheckPlan.{check_plan}
use Rattle.list_command.specs.ListPlan.{list_plan}
use Rattle.order_words.specs.Orders.{Order, check, list, solve}
use Rattle.run_plan.specs.Plan.{Step}
use Rattle.solve_command.specs.SolvePlan.{solve_plan}

abbrev pub plan_of : Order → List Step
plan_of (list names) = list_plan names
plan_of (solve names) = solve_plan names
plan_of (check names) = check_plan names
