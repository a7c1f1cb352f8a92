use Rattle.std.proofs.Common.{◌≡◌, ◌<◌, ℕ, false, negsuc, length, map}
use Rattle.tree_certificate.specs.Number.{number_in}
use Rattle.subset_tree.specs.inside.Filling.{AreGainsBefore}
use Rattle.subset_tree.proofs.table.gather_gains.Given as goal

abbrev pub invariant-loop-edge : goal.invariant-loop-edge
invariant-loop-edge l = record {
  long : length l.gains ≡ length l.fn.gains;
  gained : AreGainsBefore l.graph (map (λ row. row.items) l.rows) l.vertex l.colour l.edge l.gains;
  none : l.any ≡ false → (place : ℕ) → place < length l.fn.gains → number_in l.gains place ≡ negsuc 999999999;
}
