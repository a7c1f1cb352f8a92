use Rattle.std.proofs.Common.{◌≡◌, map, take}
use Rattle.rank_report.specs.inside.JsonData.{row_data}
use Rattle.serde_json.specs.View.{view}
use Rattle.rank_report.proofs.json_values.row_values.Given as goal

abbrev pub invariant-loop-row : goal.invariant-loop-row
invariant-loop-row l = map view l.values.items ≡ map row_data (take l.row-index l.rows)
