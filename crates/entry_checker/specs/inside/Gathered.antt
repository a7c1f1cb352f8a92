-- What was found among the nodes of a bound that were looked at.
use Rattle.std.specs.Prelude.{ℕ, ℤ, Bool, true, false, List, Option, None, Some}
use Rattle.std.specs.List.{All}
use Rattle.std.specs.Option.{MatchOption}
use Rattle.colour_graph.specs.Graph.{Graph}
use Rattle.tree_certificate.specs.BoundValue.{BoundValue, priced, split}
use Rattle.tree_certificate.specs.PriceHolds.{AreNotNegative, FitsPrices}
use Rattle.tree_certificate.specs.Spent.{CanGoOn, SplitNode, IsTight, IsUseful, Leaf}
use Rattle.entry_checker.specs.GapPlaces.{IsFirstNode}
use Rattle.entry_checker.specs.declared.gap.Found.{Found}

-- the prices of all leaves fit the graph, and none of them is below 0
abbrev pub HasTotals : Graph → BoundValue → Type 0
HasTotals graph (priced cert) = FitsPrices graph cert × AreNotNegative cert.prices
HasTotals graph (split colour part first second) = HasTotals graph first × HasTotals graph second

-- the number of the first of some nodes of which something does not hold, if there is one
abbrev pub IsFound : {X : Type 0} → (X → ℕ) → (X → Type 0) → List X → Option ℕ → Type 0
IsFound number_of Is nodes found = MatchOption found (All Is nodes) (λ number. IsFirstNode number_of Is nodes number)

-- what is found with one more node
abbrev pub found_with : Option ℕ → Bool → ℕ → Option ℕ
found_with (Some first) holds node = Some first
found_with None true node = None
found_with None false node = Some node

-- what was found among these leaves and splits
pub record Gathered (graph : Graph) (score upper : ℤ) (leaves : List Leaf) (splits : List SplitNode)
    (found : Found) : Type 0 where
  pub slack : IsFound (λ leaf. leaf.node) (IsTight graph) leaves found.first_slack
  pub wasted : IsFound (λ split_node. split_node.node) (IsUseful graph upper) splits found.first_wasted
  pub decided : IsFound (λ leaf. leaf.node) (CanGoOn graph score) leaves found.first_decided
