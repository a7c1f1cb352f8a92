-- A bound as a plain value, opened at its head.
use Rattle.std.proofs.Common.{◌≡◌, ◌+◌, ℕ, List, ap, max, refl, ◌∙◌}
use Rattle.tree_certificate.specs.BoundHolds.{depth_of, splits_of}
use Rattle.tree_certificate.specs.BoundView.{bound_value}
use Rattle.tree_certificate.specs.BoundValue.{split}
use Rattle.tree_certificate.specs.declared.bound.Bound.{Bound}
use Rattle.tree_certificate.specs.declared.bound.Bound.TheVariants.{Split}

pub value_of_split : (colour : ℕ) (part : List ℕ) (first second : Bound)
    → bound_value (Split colour part first second) ≡ split colour part (bound_value first) (bound_value second)
unfolding Rattle.tree_certificate.specs.declared.bound.Bound.TheBlock.hidden-the_row-Bound-0 denote.Hole.Carrier.hidden
value_of_split colour part first second = refl

pub splits_of_split : (bound : Bound) (colour : ℕ) (part : List ℕ) (first second : Bound)
    → bound ≡ Split colour part first second
    → splits_of (bound_value bound) ≡ 1 + splits_of (bound_value first) + splits_of (bound_value second)
splits_of_split bound colour part first second is =
    ap (λ b. splits_of (bound_value b)) is ∙ ap splits_of (value_of_split colour part first second)

pub depth_of_split : (bound : Bound) (colour : ℕ) (part : List ℕ) (first second : Bound)
    → bound ≡ Split colour part first second
    → depth_of (bound_value bound) ≡ 1 + max (depth_of (bound_value first)) (depth_of (bound_value second))
depth_of_split bound colour part first second is =
    ap (λ b. depth_of (bound_value b)) is ∙ ap depth_of (value_of_split colour part first second)
