use Rattle.std.proofs.Common.{◌≡◌, ◌∙◌, ap, of_z, refl, rules, to_z, w64}
use Rattle.colour_graph.specs.Cap.{cap_of}
use Rattle.colour_graph.specs.EdgeSet.{all_edges}
use Rattle.certificate_checker.proofs.Fits.{less-as, not_less-as}
use Rattle.entry_checker.proofs.entry.wrong_upper.Goals as goal

pub returns-then-tree-cap : goal.returns-then-tree-cap
returns-then-tree-cap c budget =
    let upper_is : to_z w64 (of_z w64 c.tree.inside.upper) ≡ c.tree.inside.upper = search rules in
    let cap_is : to_z w64 (of_z w64 c.in_ok-cap.cap) ≡ c.in_ok-cap.cap = search rules in (
      c.requires.before,
      cap_is ∙ c.in_ok-cap.ensures ∙ ap (λ built. cap_of built.graph (all_edges built.graph)) c.built.view_is,
      less-as _ _ (to_z w64 (of_z w64 c.in_ok-cap.cap)) c.args.tree.now.upper refl (upper_is
          ∙ ap (λ tree. tree.upper) c.tree.view_is)
          c.if-tree-cap.true,
    )

pub returns : goal.returns
returns c =
    let upper_is : to_z w64 (of_z w64 c.tree.inside.upper) ≡ c.tree.inside.upper = search rules in
    let cap_is : to_z w64 (of_z w64 c.in_ok-cap.cap) ≡ c.in_ok-cap.cap = search rules in
    record {
      before = c.requires.before;
      capped = not_less-as _ _ (cap_of c.args.built.now.graph (all_edges c.args.built.now.graph)) c.args.tree.now.upper
          (cap_is ∙ c.in_ok-cap.ensures ∙ ap (λ built. cap_of built.graph (all_edges built.graph)) c.built.view_is)
          (upper_is ∙ ap (λ tree. tree.upper) c.tree.view_is) c.if-tree-cap.false;
    }
