use Rattle.std.proofs.Common.{◌∙◌, sym}
use Rattle.std.proofs.lemmas.Bool.{false≢true}
use Rattle.entry_checker.proofs.AreMarks.{none-more}
use Rattle.entry_checker.proofs.adding.first_added.Goals as goal

pub returns-then-can_be_added : goal.returns-then-can_be_added
returns-then-can_be_added c = record {
  can = (c.can_be_added.ensures c.args.edges.now c.mark_heads.ensures.marks).0 c.if-can_be_added.true;
  before = c.loop-edge.invariant;
}

pub loop-edge-preserved : goal.loop-edge-preserved
loop-edge-preserved c =
    none-more c.args.graph.now c.args.edges.now c.loop-edge.edge c.loop-edge.invariant
    (λ can. false≢true (sym c.if-can_be_added.false
    ∙ (c.can_be_added.ensures c.args.edges.now c.mark_heads.ensures.marks).1 can))
