use Rattle.std.proofs.Common.{◌≡◌, ℕ, true, false, slice_index_or, inl, inr, subst, sym, arith}
use Rattle.std.proofs.Math.Nat.{eq-or-lt_of_le}
use Rattle.residue_table.proofs.Reaching.{AreReached-further, AreReached-itself}
use Rattle.residue_table.proofs.rounds.add_mass.Goals as goal

pub loop-start-init : goal.loop-start-init
loop-start-init c = record {
  reached = AreReached-itself c.args.mass c.args.row.now;
  size = c.loop-flag.invariant.size;
  closed = λ residue below seen.
      let not_seen : slice_index_or c.loop-flag.seen residue false ≡ false =
      c.loop-flag.invariant.none residue
      (omega (arith, below, c.loop-flag-test.false, c.loop-flag.invariant.size, c.requires.seen)) in
      absurd cc;
  begun = λ k below. absurd (omega (arith, below));
}

pub loop-start-preserved : goal.loop-start-preserved
loop-start-preserved c = record {
  reached =
      AreReached-further c.args.mass c.args.row.now c.loop-start.row c.go_round.new.row c.loop-start.invariant.reached
      c.go_round.ensures.keeps.reached;
  size = omega (arith, c.go_round.ensures.keeps.size, c.loop-start.invariant.size);
  closed = c.go_round.ensures.closed;
  begun = λ k below. elim (eq-or-lt_of_le {n = k} {m = c.loop-start.start} (omega (arith, below))) [
    | inl e ↦
        subst (λ (n : ℕ). slice_index_or c.go_round.new.seen n false ≡ true) (sym e) c.go_round.ensures.start
    | inr less ↦ c.go_round.ensures.keeps.still_seen k (c.loop-start.invariant.begun k less)
  ];
}
