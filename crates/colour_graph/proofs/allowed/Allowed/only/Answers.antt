use Rattle.std.proofs.Common.{◌≡◌, ◌∙◌, ℕ, Bool, List, ap, arith, length, not, sym}
use Rattle.colour_graph.specs.EdgeSet.{keeping}
use Rattle.colour_graph.proofs.Choosing.{only-is}
use Rattle.colour_graph.proofs.Sets.{in_row, length-keeping}
use Rattle.colour_graph.proofs.allowed.Allowed.only.Goals as goal

-- the set without the row, as the calls before tell it
without_row : (allowed set middle : List Bool) (first past : ℕ) → set ≡ allowed
    → middle ≡ keeping (λ edge. not (in_row first past edge)) set → middle
    ≡ keeping (λ edge. not (in_row first past edge)) allowed
without_row allowed set middle first past same is = is ∙ ap (keeping (λ edge. not (in_row first past edge))) same

long : (allowed set middle : List Bool) (first past : ℕ) → set ≡ allowed
    → middle ≡ keeping (λ edge. not (in_row first past edge)) set → length allowed ≡ length middle
long allowed set middle first past same is =
    sym (ap (λ items. length items) (without_row allowed set middle first past same is)
    ∙ length-keeping (λ edge. not (in_row first past edge)) allowed)

pub put_back-requires-clause-same : goal.put_back-requires-clause-same
put_back-requires-clause-same c =
    long c.args.self.now c.in_ok-set.set c.take_out_row.new.self _ _ c.in_ok-set.ensures c.take_out_row.ensures

pub put_back-requires-clause-in_range : goal.put_back-requires-clause-in_range
put_back-requires-clause-in_range c k d within =
    omega (
      arith,
      c.requires.in_range k d within,
      long c.args.self.now c.in_ok-set.set c.take_out_row.new.self _ _
          c.in_ok-set.ensures c.take_out_row.ensures,
    )

pub returns-clause-only : goal.returns-clause-only
returns-clause-only c =
    only-is c.args.graph.now c.args.self.now c.take_out_row.new.self c.put_back.new.self c.args.colour _ _
    c.args.part.now c.requires.set c.edges_into-first.ensures
    (without_row c.args.self.now c.in_ok-set.set c.take_out_row.new.self _ _ c.in_ok-set.ensures
    c.take_out_row.ensures) c.put_back.ensures

pub returns-clause-set : goal.returns-clause-set
returns-clause-set c =
    c.put_back.ensures.long ∙ sym
    (long c.args.self.now c.in_ok-set.set c.take_out_row.new.self _ _ c.in_ok-set.ensures c.take_out_row.ensures)
    ∙ c.requires.set
