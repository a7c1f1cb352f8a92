use Rattle.colour_graph.proofs.Maximal.{best_is_maximal}
use Rattle.colour_graph.proofs.laws.a_best_list_is_maximal.Goals as goal

pub returns : goal.returns
returns c graph edges is_graph = best_is_maximal graph edges
