use Rattle.std.proofs.Common.{◌≡◌, drop}
use Rattle.std.specs.Prelude.{nat_le}
use Rattle.score_tables.specs.Scores.{first_score}
use Rattle.score_tables.proofs.table.at_least_score.Given as goal

-- no pair so far passes
abbrev pub invariant-loop-bound : goal.invariant-loop-bound
invariant-loop-bound l =
    first_score (λ at_least. nat_le at_least l.share) (drop l.bound-index l.pairs)
    ≡ first_score (λ at_least. nat_le at_least l.share) l.pairs
