-- Of the nodes of a bound that holds on a set: its sides, which are looked at in turn, and what is found in them.
use Rattle.std.proofs.Common.{◌≡◌, ◌+◌, ◌<◌, ◌∙◌, ℕ, ℤ, Bool, List, [], ◌∷◌, ◌++◌, length, drop, ap, subst, not, ◌||◌}
use Rattle.std.proofs.Common.{eqb, arith, append-nil, append_assoc}
use Rattle.std.proofs.Math.Seq.{drop-append_seam}
use Rattle.std.specs.List.{All}
use Rattle.colour_graph.specs.EdgeSet.{IsSetOf, edges_into, is_named, leaving, only}
use Rattle.colour_graph.specs.Graph.{Graph, head_colour}
use Rattle.colour_graph.proofs.Sets.{length-keeping}
use Rattle.tree_certificate.proofs.BoundValues.{value_of_split}
use Rattle.tree_certificate.specs.BoundHolds.{BoundHolds, IsSplit, nodes_of}
use Rattle.tree_certificate.specs.BoundValue.{BoundValue, PriceValue}
use Rattle.tree_certificate.specs.BoundView.{bound_value}
use Rattle.tree_certificate.specs.Spent.{SplitNode, Leaf, split_nodes_of, leaves_of}
use Rattle.tree_certificate.specs.declared.bound.Bound.{Bound}
use Rattle.tree_certificate.specs.declared.bound.Bound.TheVariants.{Priced, Split}
use Rattle.certificate_checker.proofs.SplitSides.{into-in_range, only-undone}
use Rattle.entry_checker.specs.inside.Gathered.{Gathered}
use Rattle.certificate_checker.specs.inside.Sides.{adding}
use Rattle.entry_checker.specs.declared.gap.Found.{Found}

-- a split that holds, and its sides
pub record HoldsBySides (graph : Graph) (allowed : List Bool) (colour : ℕ) (part : List ℕ) (first second : BoundValue)
    (upper : ℤ)
    : Type 0 where
  pub is_split : IsSplit graph allowed colour part
  pub first_side : BoundHolds graph (only graph allowed colour part) first upper
  pub second_side : BoundHolds graph (leaving allowed part) second upper

pub holds_by_sides : (graph : Graph) (allowed : List Bool) (bound : Bound) (colour : ℕ) (part : List ℕ)
    (first second : Bound) (upper : ℤ)
    → bound ≡ Split colour part first second → BoundHolds graph allowed (bound_value bound) upper
    → HoldsBySides graph allowed colour part (bound_value first) (bound_value second) upper
holds_by_sides graph allowed bound colour part first second upper is holds =
    let sides = subst (λ (value : BoundValue). BoundHolds graph allowed value upper) (ap bound_value is
    ∙ value_of_split colour part first second) holds in
    record { is_split = sides.0; first_side = sides.1; second_side = sides.2 }

pub nodes_of_split : (bound : Bound) (colour : ℕ) (part : List ℕ) (first second : Bound)
    → bound ≡ Split colour part first second
    → nodes_of (bound_value bound) ≡ 1 + nodes_of (bound_value first) + nodes_of (bound_value second)
nodes_of_split bound colour part first second is =
    ap (λ value. nodes_of value) (ap bound_value is ∙ value_of_split colour part first second) ∙ omega arith

-- The first side, as it is while it is looked at: the set, and the edges that were taken out behind those before.
pub record IsFirstSide (graph : Graph) (allowed side : List Bool) (colour : ℕ) (part old taken : List ℕ) : Type 0 where
  pub set : side ≡ only graph allowed colour part
  pub behind : taken ≡ old ++ edges_into graph (leaving allowed part) colour

pub first_side : (graph : Graph) (allowed kept side : List Bool) (colour : ℕ) (part named old kept_taken taken : List ℕ)
    → named ≡ part
    → kept ≡ only graph allowed colour named → kept_taken ≡ old ++ edges_into graph (leaving allowed named) colour
    → side ≡ kept → taken ≡ kept_taken → IsFirstSide graph allowed side colour part old taken
first_side graph allowed kept side colour part named old kept_taken taken same set_is behind_is kept_set kept_behind =
    record {
      set = kept_set ∙ set_is ∙ ap (λ xs. only graph allowed colour xs) same;
      behind = kept_behind ∙ behind_is ∙ ap (λ xs. old ++ edges_into graph (leaving allowed xs) colour) same;
    }

pub first_side-long : (graph : Graph) (allowed side : List Bool) (colour : ℕ) (part old taken : List ℕ)
    → IsSetOf graph allowed
    → IsFirstSide graph allowed side colour part old taken → IsSetOf graph side
first_side-long graph allowed side colour part old taken set_is is =
    ap (λ xs. length xs) is.set ∙ length-keeping
    (λ edge. not (eqb (head_colour graph edge) colour) || is_named part edge) allowed ∙ set_is

first_side-taken : (graph : Graph) (allowed side : List Bool) (colour before : ℕ) (part old taken : List ℕ)
    → before ≡ length old
    → IsFirstSide graph allowed side colour part old taken
    → drop before taken ≡ edges_into graph (leaving allowed part) colour
first_side-taken graph allowed side colour before part old taken long is =
    ap (λ n. drop n taken) long ∙ ap (λ xs. drop (length old) xs) is.behind
    ∙ drop-append_seam old (edges_into graph (leaving allowed part) colour)

pub first_side-in_range : (graph : Graph) (allowed side : List Bool) (colour before : ℕ) (part old taken : List ℕ)
    → IsSetOf graph allowed
    → before ≡ length old → IsFirstSide graph allowed side colour part old taken
    → All (λ edge. edge < length side) (drop before taken)
first_side-in_range graph allowed side colour before part old taken set_is long is =
    rw (first_side-taken graph allowed side colour before part old taken long is)
    (into-in_range graph (leaving allowed part) colour (length side)
    (first_side-long graph allowed side colour part old taken set_is is))

pub first_side-undone : (graph : Graph) (allowed side given : List Bool) (colour before : ℕ) (part old taken : List ℕ)
    → IsSetOf graph allowed
    → before ≡ length old → IsFirstSide graph allowed side colour part old taken
    → given ≡ adding side (drop before taken) → given ≡ allowed
first_side-undone graph allowed side given colour before part old taken set_is long is given_is =
    given_is ∙ ap (λ xs. adding side xs) (first_side-taken graph allowed side colour before part old taken long is)
    ∙ ap (λ s. adding s (edges_into graph (leaving allowed part) colour)) is.set
    ∙ only-undone graph allowed colour part set_is

-- the second side has a truth value for each edge
pub second_side-long : (graph : Graph) (allowed side : List Bool) (part : List ℕ) → IsSetOf graph allowed
    → side ≡ leaving allowed part
    → IsSetOf graph side
second_side-long graph allowed side part set_is is =
    ap (λ xs. length xs) is ∙ length-keeping (λ edge. not (is_named part edge)) allowed ∙ set_is

-- what is found with the one leaf of prices
pub gathered_leaf : (graph : Graph) (score upper : ℤ) (allowed : List Bool) (bound : Bound) (cert : PriceValue)
    (node : ℕ)
    (leaves : List Leaf) (splits : List SplitNode) (found : Found) → bound ≡ Priced cert
    → Gathered graph score upper (leaves ++ (record { node = node; allowed = allowed; cert = cert }) ∷ []) splits found
    → Gathered graph score upper (leaves ++ leaves_of graph allowed (bound_value bound) node)
    (splits ++ split_nodes_of graph allowed (bound_value bound) node) found
gathered_leaf graph score upper allowed bound cert node leaves splits found is gathered =
    rw (is, append-nil splits) gathered

-- what is found with both sides of a split
pub gathered_sides : (graph : Graph) (score upper : ℤ) (allowed one other : List Bool) (bound : Bound) (colour : ℕ)
    (part : List ℕ)
    (first second : Bound) (node next behind : ℕ) (leaves : List Leaf) (splits : List SplitNode) (found : Found)
    → bound ≡ Split colour part first second
    → one ≡ only graph allowed colour part → other ≡ leaving allowed part
    → next ≡ node + 1 → behind ≡ next + nodes_of (bound_value first)
    → Gathered graph score upper
    ((leaves ++ leaves_of graph one (bound_value first) next) ++ leaves_of graph other (bound_value second) behind)
    (((splits ++ (record { node = node; allowed = allowed }) ∷ []) ++ split_nodes_of graph one (bound_value first) next)
    ++ split_nodes_of graph other (bound_value second) behind) found
    → Gathered graph score upper (leaves ++ leaves_of graph allowed (bound_value bound) node)
    (splits ++ split_nodes_of graph allowed (bound_value bound) node) found
gathered_sides graph score upper allowed one other bound colour part first second node next behind leaves splits found
    is one_is other_is next_is behind_is gathered =
    rw (ap bound_value is ∙ value_of_split colour part first second)
    (subst (λ (ls : List Leaf).
    Gathered graph score upper ls (splits ++ ((split_node ∷ first_splits) ++ second_splits)) found)
    (append_assoc leaves first_leaves second_leaves)
    (subst (λ (fs : List SplitNode). Gathered graph score upper ((leaves ++ first_leaves) ++ second_leaves) fs found)
    (append_assoc (splits ++ split_node ∷ []) first_splits second_splits
    ∙ append_assoc splits (split_node ∷ []) (first_splits ++ second_splits)) at_sides))
  where
    split_node : SplitNode
    split_node = record { node = node; allowed = allowed }

    first_leaves : List Leaf
    first_leaves = leaves_of graph (only graph allowed colour part) (bound_value first) (node + 1)

    second_leaves : List Leaf
    second_leaves = leaves_of graph (leaving allowed part) (bound_value second)
        (node + 1 + nodes_of (bound_value first))

    first_splits : List SplitNode
    first_splits = split_nodes_of graph (only graph allowed colour part) (bound_value first) (node + 1)

    second_splits : List SplitNode
    second_splits = split_nodes_of graph (leaving allowed part) (bound_value second)
        (node + 1 + nodes_of (bound_value first))

    at_sides : Gathered graph score upper ((leaves ++ first_leaves) ++ second_leaves)
        (((splits ++ split_node ∷ []) ++ first_splits) ++ second_splits) found
    at_sides = rw (one_is, other_is, behind_is, next_is) at gathered
