use Rattle.tree_entry.proofs.Ranked.{ranked_rises}
use Rattle.tree_entry.proofs.laws.ranked_entries_rise.Goals as goal

pub returns : goal.returns
returns c = ranked_rises
