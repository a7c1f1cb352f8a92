use Rattle.std.proofs.Common.{◌≡◌, ◌∙◌, ℤ, ap, of_z, rules, sym, to_z, w64}
use Rattle.colour_graph.specs.Graph.{Graph}
use Rattle.tree_certificate.specs.CertHolds.{CertHolds}
use Rattle.tree_certificate.specs.Value.{CertValue, cert_of}
use Rattle.certificate_checker.specs.Places.{IsVerdict}
use Rattle.certificate_checker.specs.declared.verdict.Verdict.{Verdict}
use Rattle.certificate_checker.specs.declared.verdict.Verdict.TheVariants.{Holds}
use Rattle.entry_checker.proofs.IsEntryVerdict.{optimal_is_right}
use Rattle.entry_checker.proofs.entry.check_last.Goals as goal

-- a certificate of which it was said that it holds
held : (one other : Graph) (cert its : CertValue) (upper its_upper : ℤ) (verdict : Verdict)
    → IsVerdict one cert upper verdict → verdict ≡ Holds
    → one ≡ other → cert ≡ its → upper ≡ its_upper → CertHolds other its its_upper
held one other cert its upper its_upper verdict said is same equal bound = rw (← same, ← equal, ← bound) (rw is at said)

pub returns-in-Optimal : goal.returns-in-Optimal
returns-in-Optimal c =
    let upper_is : to_z w64 (of_z w64 c.tree.inside.upper) ≡ c.tree.inside.upper = search rules in
    let holds = held _ c.args.built.now.graph (cert_of c.tree.inside.cert) c.args.tree.now.cert
    (to_z w64 (of_z w64 c.tree.inside.upper))
    c.args.tree.now.upper c.in_ok-place.field-0 c.in_ok-place.ensures.verdict c.in_default.is
    (ap (λ built. built.graph) c.built.view_is)
    (ap (λ tree. tree.cert) c.tree.view_is) (upper_is ∙ ap (λ tree. tree.upper) c.tree.view_is) in
    let mark_is = sym (ap (λ tree. tree.mark) c.tree.view_is) ∙ c.in-Optimal.is in
    optimal_is_right c.args.built.now c.args.tree.now c.args.budget
    (record { before = c.requires.before; cert = holds }) mark_is

pub check_gap-requires-clause-before : goal.check_gap-requires-clause-before
check_gap-requires-clause-before c =
    let upper_is : to_z w64 (of_z w64 c.tree.inside.upper) ≡ c.tree.inside.upper = search rules in
    let holds = held _ c.args.built.now.graph (cert_of c.tree.inside.cert) c.args.tree.now.cert
    (to_z w64 (of_z w64 c.tree.inside.upper))
    c.args.tree.now.upper c.in_ok-place.field-0 c.in_ok-place.ensures.verdict c.in_default.is
    (ap (λ built. built.graph) c.built.view_is)
    (ap (λ tree. tree.cert) c.tree.view_is) (upper_is ∙ ap (λ tree. tree.upper) c.tree.view_is) in
    record { before = c.requires.before; cert = holds }
