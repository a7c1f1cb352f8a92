use Rattle.std.proofs.Common.{◌≡◌, ◌∙◌, ◌≤ℤ◌, pos, rules, ap, sym, subst, arith, codes}
use Rattle.std.proofs.lemmas.Int.{ints}
use Rattle.score_tables.specs.Tables.{greatest_size, least_size}
use Rattle.toml.specs.View.{table_view}
use Rattle.profile.specs.Table.{number_at}
use Rattle.profile.specs.Values.{as_count}
use Rattle.profile.proofs.ElementCast.{counted, fits_size}
use Rattle.profile.proofs.ScoreLaws.{size_in_range}
use Rattle.profile.proofs.scores.size_in.Goals as goal

said : (c : goal.After-number_at) → c.number_at.result
    ≡ number_at (table_view c.args.scores.now) (codes "size") (pos 200000000)
said c = search rules

in_range : (c : goal.After-number_at) → (pos least_size ≤ℤ c.number_at.result)
    × (c.number_at.result ≤ℤ pos greatest_size)
in_range c = subst (λ z. (pos least_size ≤ℤ z) × (z ≤ℤ pos greatest_size)) (sym (said c))
    (size_in_range (table_view c.args.scores.now) c.requires)

pub overflow_cast-result : goal.overflow_cast-result
overflow_cast-result c = fits_size c.number_at.result (search rules) (in_range c).0 (in_range c).1

pub returns : goal.returns
returns c =
    let (low, high) = in_range c in
    let not_negative : pos 0 ≤ℤ c.number_at.result = omega (arith, ints, low) in
    counted c.number_at.result (search rules) not_negative ∙ ap as_count (said c)
