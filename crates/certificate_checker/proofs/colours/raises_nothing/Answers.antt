use Rattle.std.proofs.Common.{ℕ, length}
use Rattle.certificate_checker.specs.inside.Enough.{RaisesNothingTo}
use Rattle.certificate_checker.proofs.HasColour.{block_within, blocks-more, blocks-none, first_block, next_block}
use Rattle.certificate_checker.proofs.colours.raises_nothing.Goals as goal

pub raises_nothing_from-requires-clause-block : goal.raises_nothing_from-requires-clause-block
raises_nothing_from-requires-clause-block c =
    let known = c.loop-base.invariant in
    block_within c.loop-base.base c.args.colour (length c.args.numbers.now) known.block c.requires.blocks.1
    c.loop-base-test.true

pub loop-base-init : goal.loop-base-init
loop-base-init c =
    let numbers = c.args.numbers.now in
    let colour = c.args.colour in
    record {
      block = first_block colour c.requires.blocks.0;
      raises = blocks-none (λ (place : ℕ). RaisesNothingTo numbers place colour) colour;
    }

pub loop-base-preserved : goal.loop-base-preserved
loop-base-preserved c =
    let numbers = c.args.numbers.now in
    let colour = c.args.colour in
    let base = c.loop-base.base in
    let known = c.loop-base.invariant in
    record {
      block = next_block base colour known.block;
      raises = blocks-more (λ (place : ℕ). RaisesNothingTo numbers place colour) base colour known.block known.raises
          (c.raises_nothing_from.ensures c.if-not-raises_nothing_from.false);
    }
