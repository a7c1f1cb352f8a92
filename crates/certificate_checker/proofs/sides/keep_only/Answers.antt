use Rattle.std.proofs.Common.{◌≡◌, ◌∙◌, ap, arith, eqb, length, not}
use Rattle.colour_graph.specs.EdgeSet.{keeping}
use Rattle.colour_graph.specs.Graph.{head_colour}
use Rattle.colour_graph.proofs.Sets.{length-keeping}
use Rattle.certificate_checker.specs.inside.Sides.{adding}
use Rattle.certificate_checker.proofs.SplitSides.{length-leaving, only-made, split-in_range}
use Rattle.certificate_checker.proofs.sides.keep_only.Goals as goal

pub take_part-requires : goal.take_part-requires
take_part-requires c = split-in_range c.args.graph.now c.args.allowed.now c.args.colour c.args.part.now c.requires.set
    c.requires.split

pub take_edges_into-requires-clause-set : goal.take_edges_into-requires-clause-set
take_edges_into-requires-clause-set c =
    ap (λ set. length set) c.take_part.ensures ∙ length-leaving c.args.allowed.now c.args.part.now ∙ c.requires.set

pub put_part-requires : goal.put_part-requires
put_part-requires c k d within =
    let long : length c.take_edges_into.new.allowed ≡ length c.args.allowed.now =
    ap (λ set. length set) c.in_ok-take_edges_into.ensures.left
    ∙ length-keeping (λ edge. not (eqb (head_colour c.args.graph.now edge) c.args.colour)) c.take_part.new.allowed
    ∙ ap (λ set. length set) c.take_part.ensures ∙ length-leaving c.args.allowed.now c.args.part.now in
    omega (
      arith,
      long,
      split-in_range c.args.graph.now c.args.allowed.now c.args.colour c.args.part.now c.requires.set
          c.requires.split k d within,
    )

pub returns-clause-only : goal.returns-clause-only
returns-clause-only c =
    c.put_part.ensures
    ∙ ap (λ set. adding set c.args.part.now) (c.in_ok-take_edges_into.ensures.left
    ∙ ap (λ set. keeping (λ edge. not (eqb (head_colour c.args.graph.now edge) c.args.colour)) set) c.take_part.ensures)
    ∙ only-made c.args.graph.now c.args.allowed.now c.args.colour c.args.part.now c.requires.split
