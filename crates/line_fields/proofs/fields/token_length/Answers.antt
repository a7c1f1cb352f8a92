use Rattle.std.proofs.Common.{◌∙◌, arith}
use Rattle.line_fields.proofs.Tokens.{before_space, none_at_all}
use Rattle.line_fields.proofs.fields.token_length.Goals as goal

pub returns-then-byte-eq32-clause-count : goal.returns-then-byte-eq32-clause-count
returns-then-byte-eq32-clause-count c =
    c.loop-byte.invariant.0
    ∙ before_space c.args.bytes.now c.loop-byte.byte-index (omega arith) c.loop-byte.invariant.1 c.if-byte-eq32.true

pub returns-clause-count : goal.returns-clause-count
returns-clause-count c =
    c.loop-byte.invariant.0
    ∙ none_at_all c.args.bytes.now c.loop-byte.byte-index (omega arith) c.loop-byte.invariant.1
