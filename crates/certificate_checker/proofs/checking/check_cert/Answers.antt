use Rattle.std.proofs.Common.{◌≡◌, ◌↔◌, IfOk, arith, refl, rules}
use Rattle.std.proofs.lemmas.Grind.{common_steps}
use Rattle.std.proofs.lemmas.Result.{IfOk-at_ok}
use Rattle.colour_graph.specs.EdgeSet.{all_edges}
use Rattle.tree_certificate.specs.BoundHolds.{BoundHolds}
use Rattle.tree_certificate.specs.BoundView.{bound_value}
use Rattle.tree_certificate.specs.Value.{a_bound, cert_of}
use Rattle.certificate_checker.specs.Places.{IsVerdict}
use Rattle.certificate_checker.specs.declared.verdict.Verdict.TheVariants.{Holds}
use Rattle.certificate_checker.proofs.Verdicts.{exactly_from}
use Rattle.certificate_checker.proofs.checking.check_cert.Goals as goal

pub returns-in-Table-clause-exactly : goal.returns-in-Table-clause-exactly
returns-in-Table-clause-exactly c =
    let verdict : IfOk c.check_table.result
    (λ verdict. IsVerdict c.args.graph.now (cert_of c.args.cert.now) c.args.upper verdict) =
    first_of (search rules, grind (arith, common_steps)) in
    exactly_from c.args.graph.now (cert_of c.args.cert.now) c.args.upper c.check_table.result verdict

pub returns-in-Table-clause-bounded : goal.returns-in-Table-clause-bounded
returns-in-Table-clause-bounded c =
    let verdict : IfOk c.check_table.result
    (λ verdict. IsVerdict c.args.graph.now (cert_of c.args.cert.now) c.args.upper verdict) =
    first_of (search rules, grind (arith, common_steps)) in
    λ is. c.what_holds_bounds_every_tree.ensures c.args.graph.now
    (cert_of c.args.cert.now) c.args.upper c.is_graph.ensures
    (IfOk-at_ok (λ verdict. IsVerdict c.args.graph.now (cert_of c.args.cert.now) c.args.upper verdict) is verdict)

pub returns-in-Bounds-clause-bounded : goal.returns-in-Bounds-clause-bounded
returns-in-Bounds-clause-bounded c =
    let bound = bound_value c.in-Bounds.bound in
    let exactly : IfOk c.check_bound.result
    (λ verdict. (verdict ≡ Holds) ↔ BoundHolds c.args.graph.now (all_edges c.args.graph.now) bound c.args.upper) =
    first_of (search rules, grind (arith, common_steps)) in
    λ is. c.what_holds_bounds_every_tree.ensures c.args.graph.now
    (a_bound bound) c.args.upper c.is_graph.ensures
    ((IfOk-at_ok (λ verdict. (verdict ≡ Holds)
    ↔ BoundHolds c.args.graph.now (all_edges c.args.graph.now) bound c.args.upper) is exactly).0 refl)
