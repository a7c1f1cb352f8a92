use Rattle.std.proofs.Common.{◌∙◌, arith, sym, refl}
use Rattle.std.proofs.lemmas.Bool.{false≢true}
use Rattle.certificate_checker.proofs.SplitSides.{rising-all, rising-broken, rising-more}
use Rattle.certificate_checker.proofs.sides.are_rising_into.Goals as goal

pub returns-then-not-is_within : goal.returns-then-not-is_within
returns-then-not-is_within c = (
  λ said. absurd (false≢true said),
  λ is. absurd (rising-broken c.args.graph.now c.args.allowed.now c.args.colour c.edges_into-first.result.0
      c.edges_into-first.result.1 c.args.part.now
      c.loop-edge.edge-index c.loop-edge.least _ c.edges_into-first.ensures refl c.loop-edge-test.true
      (λ within. false≢true (sym c.if-not-is_within.true ∙ c.is_within.ensures.1 within)) c.loop-edge.invariant is),
)

pub loop-edge-preserved : goal.loop-edge-preserved
loop-edge-preserved c =
    rising-more c.args.graph.now c.args.allowed.now c.args.colour c.edges_into-first.result.0
    c.edges_into-first.result.1 c.args.part.now
    c.loop-edge.edge-index c.loop-edge.least _ _ c.edges_into-first.ensures refl refl
    (c.is_within.ensures.0 c.if-not-is_within.false) c.loop-edge.invariant

pub returns : goal.returns
returns c = (
  λ said. rising-all c.args.graph.now c.args.allowed.now c.args.colour c.edges_into-first.result.0 c.args.part.now
      c.loop-edge.edge-index c.loop-edge.least
      (omega arith) c.loop-edge.invariant,
  λ is. refl,
)
