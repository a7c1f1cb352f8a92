use Rattle.std.proofs.Common.{◌≡◌, take}
use Rattle.loss_graph.specs.inside.Joining.{without_edges}
use Rattle.loss_graph.proofs.edges.add_vertices.Given as goal

abbrev pub invariant-loop-place : goal.invariant-loop-place
invariant-loop-place l = l.builder ≡ without_edges l.initial.builder.root_score (take l.place l.vertices)
