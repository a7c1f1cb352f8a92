use Rattle.std.proofs.Common.{◌≡◌, ◌<◌, ◌+◌, ◌%◌, ◌∙◌, ℕ, true, false, length, slice_index_or, slice_set, inl, inr}
use Rattle.std.proofs.Common.{refl}
use Rattle.std.proofs.Common.{sym, ap, subst, arith, get_or-set_same, get_or-set_other}
use Rattle.std.proofs.lemmas.Bool.{cases_eq}
use Rattle.std.proofs.lemmas.List.{length-set}
use Rattle.std.proofs.Math.Nat.{add-mod-mod}
use Rattle.residue_table.proofs.Reaching.{AreClosedBut-step, AreReached-itself, AreReached-lowered, left_of-less}
use Rattle.residue_table.proofs.rounds.go_round.Goals as goal
use Rattle.residue_table.proofs.rounds.go_round.Goals.{then-lowered, else-lowered+then-not-seen-residue}

pub loop-lowered-init : goal.loop-lowered-init
loop-lowered-init c = record {
  keeps = record { reached = AreReached-itself c.args.mass c.args.row.now; size = refl; still_seen = λ k is. is };
  within = c.requires.start;
  closed = λ k below seen. inl (c.requires.closed k below seen);
  begun = inr refl;
}

pub next_residue-next-requires-clause-small : goal.next_residue-next-requires-clause-small
next_residue-next-requires-clause-small c =
    omega (arith, c.loop-lowered.invariant.keeps.reached.size, c.requires.few)

pub loop-lowered-smaller : goal.loop-lowered-smaller
loop-lowered-smaller c =
    let keeps = c.loop-lowered.invariant.keeps in
    rw c.lower-lowered.ensures.row
    (left_of-less c.loop-lowered.row c.loop-lowered.seen c.loop-lowered.residue c.next_residue-next.result c.args.mass
    c.loop-lowered.lowered c.lower-lowered.result
    (omega (arith, c.loop-lowered.invariant.within, keeps.size, keeps.reached.size, c.requires.seen))
    c.next_residue-next.ensures.within c.lower-lowered.ensures.lowered
    (elim c.if-lowered.branch [
      | then-lowered w ↦ inl w.if-lowered.true
      | else-lowered+then-not-seen-residue w ↦ inr w.if-not-seen-residue.true
    ]))

pub loop-lowered-preserved : goal.loop-lowered-preserved
loop-lowered-preserved c =
    let row = c.loop-lowered.row in
    let seen = c.loop-lowered.seen in
    let residue = c.loop-lowered.residue in
    let next = c.next_residue-next.result in
    let mass = c.args.mass in
    let keeps = c.loop-lowered.invariant.keeps in
    let size = keeps.reached.size in
    let inside : residue < length seen =
    omega (arith, c.loop-lowered.invariant.within, keeps.size, size, c.requires.seen) in
    let follows : next ≡ (residue + mass) % length row =
    c.next_residue-next.ensures.next
    ∙ ap (λ n. (residue + n) % length row)
    (c.requires.step ∙ ap (λ n. mass % n) (sym size))
    ∙ add-mod-mod residue mass (length row) in
    rw c.lower-lowered.ensures.row record {
      keeps = record {
        reached = AreReached-lowered mass c.args.row.now row residue next c.loop-lowered.invariant.within follows
            c.next_residue-next.ensures.within keeps.reached;
        size = length-set seen residue true ∙ keeps.size;
        still_seen = λ k was. elim (cases_eq k residue) [
          | inl e ↦
              subst (λ (n : ℕ). slice_index_or (slice_set seen residue true) n false ≡ true) (sym e)
              (get_or-set_same seen residue true false inside)
          | inr other ↦ get_or-set_other seen residue k true false other ∙ keeps.still_seen k was
        ];
      };
      within = omega (arith, c.next_residue-next.ensures.within, length-set row next);
      closed = AreClosedBut-step mass row seen residue next c.loop-lowered.lowered c.lower-lowered.result
          c.loop-lowered.invariant.within c.next_residue-next.ensures.within follows c.lower-lowered.ensures.lowered
          c.loop-lowered.invariant.closed;
      begun = inl (elim (cases_eq c.args.start residue) [
        | inl e ↦
            subst (λ (n : ℕ). slice_index_or (slice_set seen residue true) n false ≡ true) (sym e)
            (get_or-set_same seen residue true false inside)
        | inr other ↦
            get_or-set_other seen residue c.args.start true false other
            ∙ elim c.loop-lowered.invariant.begun [
              | inl was ↦ was
              | inr here ↦ absurd (other (sym here))
            ]
      ]);
    }
