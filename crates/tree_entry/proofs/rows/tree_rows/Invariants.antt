use Rattle.std.proofs.Common.{◌≡◌, take}
use Rattle.tree_entry.specs.Rows.{AreRows, edges_of}
use Rattle.tree_entry.proofs.rows.tree_rows.Given as goal

abbrev pub invariant-loop-edge : goal.invariant-loop-edge
invariant-loop-edge l = record {
  edges : edges_of l.rows.items ≡ take l.edge-index l.edges;
  right : AreRows l.built l.rows.items;
}
