use Rattle.std.proofs.Common.{◌∙◌, ◌≡◌, ◌+◌, arith, length}
use Rattle.certificate_checker.proofs.Gaining.{few_colours, needed-more, needs-more}
use Rattle.certificate_checker.proofs.needed.gather_needed.Goals as goal

pub overflow_cast-colour : goal.overflow_cast-colour
overflow_cast-colour c =
    let few = few_colours c.args.graph.now c.is_graph.ensures.colours c.requires.vertices in
    omega (arith, few, c.colour_count-before-end.ensures)

pub overflow_add-colour : goal.overflow_add-colour
overflow_add-colour c =
    let few = few_colours c.args.graph.now c.is_graph.ensures.colours c.requires.vertices in
    omega (arith, few, c.colour_count-before-end.ensures)

pub add_gains-requires-clause-few : goal.add_gains-requires-clause-few
add_gains-requires-clause-few c =
    let few = few_colours c.args.graph.now c.is_graph.ensures.colours c.requires.vertices in
    omega (arith, few, c.colour_count-before-end.ensures)

pub loop-before-preserved : goal.loop-before-preserved
loop-before-preserved c =
    let before = c.loop-before.before in
    let known = c.loop-before.invariant in
    let needed = c.loop-before.needed in
    let gains = c.gather_best.new.gains in
    let more = c.add_gains.new.needed in
    let long : length needed ≡ length gains =
    omega (arith, known.needs_long, known.gains_long, c.gather_best.ensures.long, c.requires.long) in
    record {
      needs_long = c.add_gains.ensures.needs_long ∙ known.needs_long;
      gains_long = c.add_gains.ensures.gains_long ∙ c.gather_best.ensures.long ∙ known.gains_long;
      needed = needed-more c.args.graph.now c.args.allowed.now c.args.cert.now before (before + 1) needed gains more
          (omega arith)
          c.add_gains.ensures.needs_long long known.needed c.gather_best.ensures.gains c.add_gains.ensures.added;
      needs = needs-more before needed gains more c.add_gains.ensures.needs_long long known.needs
          c.gather_best.ensures.near
          c.add_gains.ensures.added;
      clear = c.add_gains.ensures.clear;
    }
