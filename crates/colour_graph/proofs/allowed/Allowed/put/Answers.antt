use Rattle.std.proofs.Common.{◌∙◌, ◌||◌, ap, arith, eqb, length}
use Rattle.std.proofs.lemmas.List.{with_items_is}
use Rattle.colour_graph.specs.inside.Bits.{is_marked}
use Rattle.colour_graph.proofs.Sets.{length-kept, marks_of-mark}
use Rattle.colour_graph.proofs.allowed.Allowed.put.Goals as goal

pub mark-requires : goal.mark-requires
mark-requires c =
    omega (
      arith,
      ap (λ words. length words) c.deref_mut.ensures.value,
      length-kept _ _ _ c.self.view_is,
      c.self.invariant,
    )

pub returns : goal.returns
returns c =
    marks_of-mark c.self.inside.words.items _ c.self.inside.count c.args.edge c.args.self.now c.self.view_is c.requires
    (λ other. ap (λ words. is_marked words other)
    (with_items_is c.self.inside.words c.mark.new.words (omega (arith, c.deref_mut.ensures.len)))
    ∙ c.mark.ensures other ∙ ap (λ words. eqb other c.args.edge || is_marked words other) c.deref_mut.ensures.value)
