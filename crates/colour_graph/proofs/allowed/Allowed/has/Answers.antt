use Rattle.std.proofs.Common.{◌∙◌, ap, arith, length}
use Rattle.colour_graph.specs.inside.Bits.{is_marked}
use Rattle.colour_graph.proofs.Sets.{is_allowed-kept, length-kept}
use Rattle.colour_graph.proofs.allowed.Allowed.has.Goals as goal

pub is_marked-requires : goal.is_marked-requires
is_marked-requires c =
    omega (arith, ap (λ words. length words) c.deref.ensures.value, length-kept _ _ _ c.self.view_is, c.self.invariant)

pub returns : goal.returns
returns c =
    c.is_marked.ensures ∙ ap (λ words. is_marked words c.args.edge) c.deref.ensures.value
    ∙ is_allowed-kept _ _ _ c.self.view_is c.args.edge c.requires
