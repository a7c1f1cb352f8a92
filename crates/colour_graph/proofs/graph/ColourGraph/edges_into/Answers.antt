use Rattle.colour_graph.proofs.Indexing.{AreInto-index}
use Rattle.colour_graph.proofs.graph.ColourGraph.edges_into.Goals as goal

pub returns : goal.returns
returns c =
    rw (← c.self.view_is) (AreInto-index
    (record {
      root_score = c.self.inside.root_score;
      colours = c.self.inside.colours.items;
      edges =
          c.self.inside.edges.items;
    })
    c.self.inside.ends.items c.args.colour _ _ c.self.invariant.1 c.self.invariant.2 c.requires.not_root
    (rw (← c.self.view_is) at c.requires.counted)
    (rw c.from-colour.ensures at c.index.ensures) (rw c.from-colour.ensures at c.index-2.ensures))
