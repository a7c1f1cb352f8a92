use Rattle.std.proofs.Common.{◌∙◌, ◌+◌, ◌++◌, ◌∷◌, [], ap, drop}
use Rattle.toml.specs.View.{items_view}
use Rattle.profile.specs.Values.{shares_said}
use Rattle.profile.proofs.ShareLaws.{first_share, share_more}
use Rattle.profile.proofs.scores.shares_of.Goals as goal

pub pair_of-requires : goal.pair_of-requires
pair_of-requires c =
    (first_share c.deref-item-items.result.now c.loop-item.item-index c.item-item.result c.loop-item-test.true
    c.item-item.is c.loop-item.invariant.right).0

pub loop-item-preserved : goal.loop-item-preserved
loop-item-preserved c =
    let values = c.deref-item-items.result.now in
    let i = c.loop-item.item-index in
    let pairs = c.loop-item.pairs.items in
    let pushed = c.in_ok-push.ensures.items ∙ ap (λ pair. pairs ++ pair ∷ []) c.pair_of.ensures in
    record {
      right =
          (first_share values i c.item-item.result c.loop-item-test.true c.item-item.is c.loop-item.invariant.right).1;
      so_far =
          ap (λ all. all ++ shares_said (items_view (drop (i + 1) values))) pushed
          ∙ share_more values i c.item-item.result pairs c.loop-item-test.true c.item-item.is
          ∙ c.loop-item.invariant.so_far;
    }
