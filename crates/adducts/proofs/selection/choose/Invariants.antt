use Rattle.std.proofs.Common.{◌≡◌, [], drop, map}
use Rattle.adducts.specs.inside.Choosing.{chosen_from, interval_of}
use Rattle.adducts.proofs.selection.choose.Given as goal

abbrev pub invariant-loop-peak : goal.invariant-loop-peak
invariant-loop-peak l = record {
  chosen : chosen_from l.choice l.precursor l.chosen.items (drop l.peak-index l.ranked)
      ≡ chosen_from l.choice l.precursor [] l.ranked;
  taken : l.taken.items ≡ map (λ other. interval_of l.choice other.mz) l.chosen.items;
}
