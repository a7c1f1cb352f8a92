-- Of IsEntryVerdict: a tree that is wrong somewhere is not right, so that a verdict tells exactly whether it is.
use Rattle.std.proofs.Common.{◌≡◌, ◌↔◌, ◌∙◌, ℤ, pos, ◌<ℤ◌, ◌≤ℤ◌, ◌<◌, ◌≤◌, ℕ, Result, IfOk, sym, subst, refl, arith}
use Rattle.std.proofs.lemmas.Int.{ints}
use Rattle.std.proofs.lemmas.Result.{IfOk-weaker}
use Rattle.colour_graph.specs.EdgeSet.{all_edges}
use Rattle.colour_graph.specs.Graph.{Graph, colour_count}
use Rattle.loss_graph.specs.LossGraph.{LossGraphValue}
use Rattle.tree_certificate.specs.CertHolds.{CertHolds}
use Rattle.tree_certificate.specs.TableHolds.{greatest_colours}
use Rattle.tree_certificate.specs.Value.{CertValue, a_bound, a_table}
use Rattle.tree_document.specs.Value.{TreeValue}
use Rattle.tree_document.specs.declared.entry.Mark as mark
use Rattle.tree_document.specs.declared.entry.Mark.TheVariants.{Optimal, Gap}
use Rattle.tree_entry.specs.EntryIsRight.{EntryIsRight, GapFits, IsSpent}
use Rattle.entry_checker.specs.EntryPlaces.{CertIsRight, IsEntryPlace, IsEntryVerdict, IsLatePlace}
use Rattle.certificate_checker.specs.Places.{IsPlace}
use Rattle.tree_certificate.specs.declared.place.Place.{Place}
use Rattle.tree_entry.specs.declared.place.EntryPlace.{EntryPlace}
use Rattle.tree_entry.specs.declared.place.EntryPlace.TheVariants.{Rows, NotColourful, NotMaximal, Score, Upper, Mark}
use Rattle.tree_entry.specs.declared.place.EntryPlace.TheVariants.{Cert}
use Rattle.tree_entry.specs.declared.place.EntryPlace.TheVariants.{FewColours}
use Rattle.entry_checker.specs.declared.verdict.EntryVerdict.{EntryVerdict}
use Rattle.entry_checker.specs.declared.verdict.EntryVerdict.TheVariants.{Right, Wrong}
use Rattle.certificate_checker.proofs.BoundVerdicts.{no_bound_place}
use Rattle.entry_checker.proofs.GapPlaces.{no_gap_place}
use Rattle.entry_checker.specs.GapPlaces.{IsGapPlace}
use Rattle.tree_certificate.specs.BoundValue.{BoundValue}
use Rattle.certificate_checker.proofs.Verdicts.{no_place}

differ : Optimal ≡ Gap → ⊥
differ same = cc

-- a gap of a graph with few colours does not stand
no_few_gap : (graph : Graph) (tree : TreeValue) (budget colours : ℕ) (its : mark.Mark) → its ≡ Gap
    → colours ≡ colour_count graph
    → colours ≤ greatest_colours → GapFits graph tree budget its → ⊥
no_few_gap graph tree budget colours Optimal is same few fits = absurd (differ is)
no_few_gap graph tree budget colours Gap is same few fits = absurd (omega (arith, same, few, fits.0))

-- where a budget was spent, it was wasted nowhere
no_wasted : (graph : Graph) (tree : TreeValue) (budget : ℕ) (place : EntryPlace) (cert : CertValue)
    → IsSpent graph cert tree.score tree.upper budget → IsLatePlace graph tree budget cert place → ⊥
no_wasted graph tree budget place (a_table rows) spent is = spent
no_wasted graph tree budget place (a_bound bound) spent is =
    no_gap_place graph bound tree.score tree.upper budget place is spent

no_late_place : (graph : Graph) (tree : TreeValue) (budget : ℕ) (place : EntryPlace) (its : mark.Mark) → its ≡ Gap
    → GapFits graph tree budget its → IsLatePlace graph tree budget tree.cert place → ⊥
no_late_place graph tree budget place Optimal gap fits is = absurd (differ gap)
no_late_place graph tree budget place Gap gap fits is = no_wasted graph tree budget place tree.cert fits.1 is

gap_fits : (graph : Graph) (tree : TreeValue) (budget : ℕ) (its : mark.Mark) → its ≡ Optimal
    → GapFits graph tree budget its
gap_fits graph tree budget its is = subst (λ m. GapFits graph tree budget m) (sym is) tt

-- where all is looked at, an optimal tree is right
pub optimal_is_right : (built : LossGraphValue) (tree : TreeValue) (budget : ℕ) → CertIsRight built tree
    → tree.mark ≡ Optimal
    → EntryIsRight built tree budget
optimal_is_right built tree budget right is = record {
  rows = right.before.before.before.before.before.rows;
  colourful = right.before.before.before.before.before.colourful;
  maximal = right.before.before.before.before.maximal;
  score = right.before.before.before.score;
  capped = right.before.before.capped;
  mark = right.before.mark;
  cert = right.cert;
  gap = gap_fits built.graph tree budget tree.mark is;
}

-- so is one with a gap, of a graph of many colours, where the budget was spent
pub spent_is_right : (built : LossGraphValue) (tree : TreeValue) (budget : ℕ) → CertIsRight built tree → tree.mark ≡ Gap
    → greatest_colours < colour_count built.graph → IsSpent built.graph tree.cert tree.score tree.upper budget
    → EntryIsRight built tree budget
spent_is_right built tree budget right is many spent = record {
  rows = right.before.before.before.before.before.rows;
  colourful = right.before.before.before.before.before.colourful;
  maximal = right.before.before.before.before.maximal;
  score = right.before.before.before.score;
  capped = right.before.before.capped;
  mark = right.before.mark;
  cert = right.cert;
  gap = subst (λ m. GapFits built.graph tree budget m) (sym is) (many, spent);
}

no_cert_place : (graph : Graph) (cert : CertValue) (upper : ℤ) (place : Place) → IsPlace graph cert upper place
    → CertHolds graph cert upper → ⊥
no_cert_place graph (a_table rows) upper place is holds = no_place graph rows upper place is holds
no_cert_place graph (a_bound bound) upper place is holds =
    no_bound_place graph (all_edges graph) bound upper 0 place is holds

no_gain : (weight : ℤ) → pos 0 <ℤ weight → weight ≤ℤ pos 0 → ⊥
no_gain weight gain low = omega (arith, ints)

not_capped : (cap upper computed : ℤ) → cap ≡ computed → cap <ℤ upper → upper ≤ℤ computed → ⊥
not_capped cap upper computed same above capped = below (rw (← same) at capped)
  where
    below : upper ≤ℤ cap → ⊥
    below capped = omega (arith, ints)

pub no_entry_place : (built : LossGraphValue) (tree : TreeValue) (budget : ℕ) (place : EntryPlace)
    → IsEntryPlace built tree budget place → EntryIsRight built tree budget → ⊥
no_entry_place built tree budget (Rows number) is right = is.wrong (right.rows is.place is.in_rows)
no_entry_place built tree budget NotColourful is right = is.1 right.colourful
no_entry_place built tree budget (NotMaximal edge) is right = no_gain _ is.1.can.gain
    (right.maximal edge is.1.can.in_graph is.1.can.reached is.1.can.free)
no_entry_place built tree budget (Score score) is right = is.2 (right.score ∙ sym is.1)
no_entry_place built tree budget (Upper cap) is right = not_capped cap tree.upper _ is.1 is.2 right.capped
no_entry_place built tree budget Mark is right = is.1 right.mark
no_entry_place built tree budget (Cert place) is right =
    no_cert_place built.graph tree.cert tree.upper place is.1 right.cert
no_entry_place built tree budget (FewColours colours) is right =
    no_few_gap built.graph tree budget colours tree.mark is.1 is.2 is.3 right.gap
no_entry_place built tree budget place is right =
    no_late_place built.graph tree budget place tree.mark is.1 right.gap is.3

pub exactly_entry : (built : LossGraphValue) (tree : TreeValue) (budget : ℕ) (verdict : EntryVerdict)
    → IsEntryVerdict built tree budget verdict → (verdict ≡ Right) ↔ EntryIsRight built tree budget
exactly_entry built tree budget Right is = (λ same. is, λ right. refl)
exactly_entry built tree budget (Wrong place) is =
    (λ same. absurd (not_right same), λ right. absurd (no_entry_place built tree budget place is right))
  where
    not_right : Wrong place ≡ Right → ⊥
    not_right same = cc

pub exactly_entry_from : {E : Type 0} (built : LossGraphValue) (tree : TreeValue) (budget : ℕ)
    (result : Result EntryVerdict E)
    → IfOk result (λ verdict. IsEntryVerdict built tree budget verdict)
    → IfOk result (λ verdict. (verdict ≡ Right) ↔ EntryIsRight built tree budget)
exactly_entry_from built tree budget result is =
    IfOk-weaker result (λ verdict. IsEntryVerdict built tree budget verdict)
    (λ verdict. (verdict ≡ Right) ↔ EntryIsRight built tree budget)
    (λ verdict said. exactly_entry built tree budget verdict said) is

late_place : (graph : Graph) (tree : TreeValue) (budget : ℕ) (place : EntryPlace) (cert : CertValue)
    (bound : BoundValue) → cert ≡ a_bound bound → IsGapPlace graph bound tree.score tree.upper budget place
    → IsLatePlace graph tree budget cert place
late_place graph tree budget place cert bound same is =
    subst (λ its. IsLatePlace graph tree budget its place) (sym same) is

gap_place : (built : LossGraphValue) (tree : TreeValue) (budget : ℕ) (bound : BoundValue) (place : EntryPlace)
    → CertIsRight built tree → tree.mark ≡ Gap → greatest_colours < colour_count built.graph → tree.cert ≡ a_bound bound
    → IsGapPlace built.graph bound tree.score tree.upper budget place → IsEntryPlace built tree budget place
gap_place built tree budget bound (Rows number) right gap many cert is = absurd is
gap_place built tree budget bound NotColourful right gap many cert is = absurd is
gap_place built tree budget bound (NotMaximal edge) right gap many cert is = absurd is
gap_place built tree budget bound (Score score) right gap many cert is = absurd is
gap_place built tree budget bound (Upper cap) right gap many cert is = absurd is
gap_place built tree budget bound Mark right gap many cert is = absurd is
gap_place built tree budget bound (Cert place) right gap many cert is = absurd is
gap_place built tree budget bound (FewColours colours) right gap many cert is = absurd is
gap_place built tree budget bound place right gap many cert is =
    (right, gap, many, late_place built.graph tree budget place tree.cert bound cert is)

-- where the budget of a gap of a graph of many colours was not spent, the tree is wrong there
pub gap_place_as : (built : LossGraphValue) (tree : TreeValue) (budget : ℕ) (graph : Graph) (bound : BoundValue)
    (score upper : ℤ) (place : EntryPlace)
    → CertIsRight built tree → tree.mark ≡ Gap → greatest_colours < colour_count built.graph → tree.cert ≡ a_bound bound
    → graph ≡ built.graph → score ≡ tree.score → upper ≡ tree.upper → IsGapPlace graph bound score upper budget place
    → IsEntryPlace built tree budget place
gap_place_as built tree budget graph bound score upper place right gap many cert same equal also is =
    gap_place built tree budget bound place right gap many cert (rw (← same, ← equal, ← also) is)
