-- Why a gap between a tree's score and its upper bound may not stand beside a bound that holds: the first place, in the
-- order of looking, where the budget of splits was not spent. Each kind is looked at over all nodes before the next
-- kind.
use Rattle.std.specs.Prelude.{◌≡◌, ◌≢◌, ℕ, ℤ, List, Some, slice_get, take}
use Rattle.std.specs.List.{All}
use Rattle.colour_graph.specs.EdgeSet.{all_edges}
use Rattle.colour_graph.specs.Graph.{Graph}
use Rattle.tree_certificate.specs.BoundHolds.{splits_of}
use Rattle.tree_certificate.specs.BoundValue.{BoundValue}
use Rattle.tree_certificate.specs.Spent.{CanGoOn, IsGreatestTotal, IsTight, IsUseful, Leaf, SplitNode, leaves_of}
use Rattle.tree_certificate.specs.Spent.{split_nodes_of}
use Rattle.tree_entry.specs.declared.place.EntryPlace.{EntryPlace}
use Rattle.tree_entry.specs.declared.place.EntryPlace.TheVariants.{Splits, Loose, Slack, Wasted, Decided}

-- the leaves and the splits of a bound of all edges
abbrev pub all_leaves : Graph → BoundValue → List Leaf
all_leaves graph bound = leaves_of graph (all_edges graph) bound 0

abbrev pub all_splits : Graph → BoundValue → List SplitNode
all_splits graph bound = split_nodes_of graph (all_edges graph) bound 0

-- the number of the first of some nodes of which something does not hold
pub record IsFirstNode {X : Type 0} (number_of : X → ℕ) (Is : X → Type 0) (nodes : List X) (number : ℕ) : Type 0 where
  pub place : ℕ
  pub node : X
  pub is_node : slice_get nodes place ≡ Some node
  pub numbered : number_of node ≡ number
  pub wrong : ¬ Is node
  pub before : All Is (take place nodes)

-- What is looked at in turn, each with all before it: the number of splits and the greatest total, whether each leaf is
-- tight, whether each split is useful.
pub record UpperIsReached (graph : Graph) (bound : BoundValue) (upper : ℤ) (budget : ℕ) : Type 0 where
  pub splits : splits_of bound ≡ budget
  pub greatest : IsGreatestTotal graph (all_leaves graph bound) upper

pub record LeavesAreTight (graph : Graph) (bound : BoundValue) (upper : ℤ) (budget : ℕ) : Type 0 where
  pub before : UpperIsReached graph bound upper budget
  pub tight : All (IsTight graph) (all_leaves graph bound)

pub record SplitsAreUseful (graph : Graph) (bound : BoundValue) (upper : ℤ) (budget : ℕ) : Type 0 where
  pub before : LeavesAreTight graph bound upper budget
  pub useful : All (IsUseful graph upper) (all_splits graph bound)

-- the first place where the budget was not spent
abbrev pub IsGapPlace : Graph → BoundValue → ℤ → ℤ → ℕ → EntryPlace → Type 0
IsGapPlace graph bound score upper budget (Splits splits) = (splits ≡ splits_of bound) × (splits_of bound ≢ budget)
IsGapPlace graph bound score upper budget (Loose greatest) = (splits_of bound ≡ budget)
    × IsGreatestTotal graph (all_leaves graph bound) greatest × (greatest ≢ upper)
IsGapPlace graph bound score upper budget (Slack node) =
    UpperIsReached graph bound upper budget
    × IsFirstNode (λ leaf. leaf.node) (IsTight graph) (all_leaves graph bound) node
IsGapPlace graph bound score upper budget (Wasted node) =
    LeavesAreTight graph bound upper budget
    × IsFirstNode (λ split_node. split_node.node) (IsUseful graph upper) (all_splits graph bound) node
IsGapPlace graph bound score upper budget (Decided node) =
    SplitsAreUseful graph bound upper budget
    × IsFirstNode (λ leaf. leaf.node) (CanGoOn graph score) (all_leaves graph bound) node
IsGapPlace graph bound score upper budget other = ⊥
