use Rattle.std.proofs.Common.{◌≡◌, ℤ, List, true, false, length, map}
use Rattle.certificate_checker.specs.inside.Enough.{AreGainsBefore, AreNoGains}
use Rattle.certificate_checker.proofs.gains.gather_gains.Given as goal

abbrev pub invariant-loop-edge : goal.invariant-loop-edge
invariant-loop-edge l = record {
  long : length l.gains ≡ length l.fn.gains;
  gained : l.any ≡ true → AreGainsBefore l.graph (map (λ row. row.items) l.rows) l.vertex l.colour l.edge
      (length l.fn.gains) l.gains;
  none : l.any ≡ false → (clear : List ℤ) → AreNoGains clear (length l.fn.gains)
      → AreGainsBefore l.graph (map (λ row. row.items) l.rows) l.vertex l.colour l.edge (length l.fn.gains) clear;
}
