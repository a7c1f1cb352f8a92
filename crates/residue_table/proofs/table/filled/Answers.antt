use Rattle.std.proofs.Common.{◌≡◌, ◌+◌, ◌++◌, ◌∙◌, ℕ, List, [], ap, arith, subst, sym}
use Rattle.residue_table.specs.inside.Entries.{AreEntries, IsRow}
use Rattle.residue_table.proofs.Filling.{AreEntries-more, AreEntries-none, IsRow-more}
use Rattle.residue_table.proofs.Reaching.{AreLow-reached}
use Rattle.residue_table.proofs.table.filled.Goals as goal

pub loop-places-init : goal.loop-places-init
loop-places-init c = record {
  row = c.requires.row;
  low = c.requires.low;
  seen = c.requires.seen;
  entries =
      let items : c.extend_from_slice.new.self.items ≡ [] ++ c.args.row.now =
      c.in_ok-extend_from_slice.ensures.items ∙ ap (λ (l : List ℕ). l ++ c.args.row.now) c.new-entries.ensures.items in
      subst (λ (l : List ℕ). AreEntries c.args.masses.now 1 l) (sym items)
      (AreEntries-more c.args.masses.now 0 [] c.args.row.now (AreEntries-none c.args.masses.now) c.requires.row);
}

pub loop-places-preserved : goal.loop-places-preserved
loop-places-preserved c =
    let row : IsRow c.args.masses.now (c.loop-places.places + 1) c.add_mass.new.row =
    IsRow-more c.args.masses.now c.loop-places.places c.loop-places.row c.add_mass.new.row c.requires.masses
    c.loop-places-test.true c.loop-places.invariant.row c.add_mass.ensures.added in
    record {
      row = row;
      low =
          AreLow-reached _ c.loop-places.row c.add_mass.new.row c.loop-places.invariant.low
          c.add_mass.ensures.added.reached;
      seen =
          omega
          (arith, c.add_mass.ensures.seen, c.add_mass.ensures.added.reached.size, c.loop-places.invariant.seen);
      entries =
          rw c.in_ok-extend_from_slice-2.ensures.items
          (AreEntries-more c.args.masses.now c.loop-places.places c.loop-places.entries.items c.add_mass.new.row
          c.loop-places.invariant.entries row);
    }
