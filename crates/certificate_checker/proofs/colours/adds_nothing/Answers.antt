use Rattle.std.proofs.Common.{ℕ, length}
use Rattle.certificate_checker.specs.inside.Enough.{AddsNothingTo}
use Rattle.certificate_checker.proofs.HasColour.{block_within, blocks-more, blocks-none, first_block, next_block}
use Rattle.certificate_checker.proofs.colours.adds_nothing.Goals as goal

pub adds_nothing_from-requires-clause-block : goal.adds_nothing_from-requires-clause-block
adds_nothing_from-requires-clause-block c =
    let known = c.loop-base.invariant in
    block_within c.loop-base.base c.args.colour
    (length c.args.own.now) known.block c.requires.blocks.1 c.loop-base-test.true

pub loop-base-init : goal.loop-base-init
loop-base-init c =
    let own = c.args.own.now in
    let gains = c.args.gains.now in
    let colour = c.args.colour in
    record {
      block = first_block colour c.requires.blocks.0;
      adds = blocks-none (λ (place : ℕ). AddsNothingTo own gains place colour) colour;
    }

pub loop-base-preserved : goal.loop-base-preserved
loop-base-preserved c =
    let own = c.args.own.now in
    let gains = c.args.gains.now in
    let colour = c.args.colour in
    let base = c.loop-base.base in
    let known = c.loop-base.invariant in
    record {
      block = next_block base colour known.block;
      adds = blocks-more (λ (place : ℕ). AddsNothingTo own gains place colour) base colour known.block known.adds
          (c.adds_nothing_from.ensures c.if-not-adds_nothing_from.false);
    }
