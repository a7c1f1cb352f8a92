use Rattle.check_command.proofs.entries.solved_place.Goals as goal

pub first_wrong_error-requires-clause-lists : goal.first_wrong_error-requires-clause-lists
first_wrong_error-requires-clause-lists g c = c.in_ok-are_of_candidates.ensures.lists (cc)

pub trees_place-requires-clause-lists : goal.trees_place-requires-clause-lists
trees_place-requires-clause-lists g c = c.in_ok-are_of_candidates.ensures.lists (cc)
