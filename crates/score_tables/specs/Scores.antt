-- The scores of a peak, of an error and of a loss.
use Rattle.std.specs.Prelude.{◌*◌, ◌/◌, ◌==◌, ℕ, ℤ, pos, ◌+ℤ◌, ◌-ℤ◌, int_lt, nat_le, Bool, List, min, unwrap_or}
use Rattle.std.specs.Prelude.{if◌then◌else◌}
use Rattle.std.specs.FinMap.{find}
use Rattle.std.specs.Map.{lookup}
use Rattle.element_table.specs.Formula.{formula_cmp, mass_of}
use Rattle.element_table.specs.Listed.{has_parity}
use Rattle.element_table.specs.Rule.{odd, rdbe2_of}
use Rattle.score_tables.specs.Tables.{ScoresValue, ShareTable}

-- the share of a part in a whole, in whole thousandths; nothing has a share in nothing
abbrev pub share_of : ℕ → ℕ → ℕ
share_of part whole = if whole == 0 then 0 else 1000 * part / whole

-- the score of the first pair whose bound passes a test; the last bound of a right table always does
abbrev pub first_score : (ℕ → Bool) → ShareTable → ℤ
first_score passes pairs = unwrap_or (lookup passes pairs) (pos 0)

-- The score of a peak, by the share of its intensity in the greatest one.
abbrev pub peak_score_of : ScoresValue → ℕ → ℕ → ℤ
peak_score_of scores intensity greatest =
    first_score (λ at_least. nat_le at_least (share_of intensity greatest)) scores.intensity

-- The score of an error of a mass, by its share in half the window's width.
abbrev pub error_score_of : ScoresValue → ℕ → ℕ → ℤ
error_score_of scores error half = first_score (λ at_most. nat_le (share_of error half) at_most) scores.error

-- what is added for a loss that is not named: where it hardly occurs, where it is a radical, and where its rings and
-- double bonds are below 0
abbrev pub unnamed_score_of : ScoresValue → List ℕ → ℤ
unnamed_score_of scores loss =
    unwrap_or (find formula_cmp loss scores.implausible) (pos 0)
    +ℤ (if has_parity odd (rdbe2_of loss) then scores.radical else pos 0)
    +ℤ (if int_lt (rdbe2_of loss) (pos 0) then scores.negative else pos 0)

-- no loss costs more for its mass
abbrev pub greatest_cost : ℕ
greatest_cost = 2000

-- what a loss costs for its mass
abbrev pub size_cost_of : ScoresValue → List ℕ → ℕ
size_cost_of scores loss = min greatest_cost (mass_of loss / scores.size)

-- The score of a loss: the score of its name, or what it has without a name, less what its mass costs.
abbrev pub loss_score_of : ScoresValue → List ℕ → ℤ
loss_score_of scores loss =
    unwrap_or (find formula_cmp loss scores.named) (unnamed_score_of scores loss) -ℤ pos (size_cost_of scores loss)

-- no score of one peak, of one error or of one loss is further from 0
abbrev pub greatest_single_score : ℕ
greatest_single_score = 10000
