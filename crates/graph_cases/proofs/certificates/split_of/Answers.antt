use Rattle.std.proofs.Common.{◌∙◌, ◌+◌, ap, max, refl}
use Rattle.tree_certificate.specs.BoundHolds.{depth_of, splits_of}
use Rattle.tree_certificate.specs.BoundView.{bound_value}
use Rattle.tree_certificate.proofs.BoundValues.{depth_of_split, splits_of_split}
use Rattle.graph_cases.proofs.certificates.split_of.Goals as goal

pub returns-clause-depth : goal.returns-clause-depth
returns-clause-depth c =
    depth_of_split _ c.place-colour.result c.from_vec.result c.in_ok-first.first c.in_ok-second.second refl
    ∙ ap (λ b. 1 + max (depth_of (bound_value b)) (depth_of (bound_value c.in_ok-second.second))) c.in_ok-first.ensures
    ∙ ap (λ b. 1 + max 0 (depth_of (bound_value b))) c.in_ok-second.ensures

pub returns-clause-splits : goal.returns-clause-splits
returns-clause-splits c =
    splits_of_split _ c.place-colour.result c.from_vec.result c.in_ok-first.first c.in_ok-second.second refl
    ∙ ap (λ b. 1 + splits_of (bound_value b) + splits_of (bound_value c.in_ok-second.second)) c.in_ok-first.ensures
    ∙ ap (λ b. 1 + 0 + splits_of (bound_value b)) c.in_ok-second.ensures
