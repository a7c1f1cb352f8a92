-- A part of a bound that grows, opened at its head.
use Rattle.std.proofs.Common.{◌≡◌, ℕ, ℤ, List, refl}
use Rattle.branch_search.specs.declared.growing.Node.{Node}
use Rattle.tree_certificate.specs.BoundValue.{PriceValue}
use Rattle.branch_search.specs.declared.growing.Node.TheVariants.{Fork, Leaf}
use Rattle.branch_search.specs.inside.Growing.{fork, grown_of, leaf}

pub grown_of_fork : (total : ℤ) (colour : ℕ) (part : List ℕ) (first second : Node)
    → grown_of (Fork total colour part first second) ≡ fork total colour part (grown_of first) (grown_of second)
unfolding Rattle.branch_search.specs.declared.growing.Node.TheBlock.hidden-the_row-Node-0 denote.Hole.Carrier.hidden
grown_of_fork total colour part first second = refl

pub grown_of_leaf : (cert : PriceValue) (total : ℤ) → grown_of (Leaf cert total) ≡ leaf cert total
grown_of_leaf cert total = refl
