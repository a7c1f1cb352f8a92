use Rattle.std.proofs.Common.{◌≡◌, map, take}
use Rattle.rank_report.specs.inside.JsonData.{peak_data}
use Rattle.serde_json.specs.View.{view}
use Rattle.rank_report.proofs.json_values.peak_values.Given as goal

abbrev pub invariant-loop-list : goal.invariant-loop-list
invariant-loop-list l = map view l.values.items ≡ map peak_data (take l.list-index l.lists)
