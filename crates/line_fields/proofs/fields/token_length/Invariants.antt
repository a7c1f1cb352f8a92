use Rattle.std.proofs.Common.{◌≡◌}
use Rattle.line_fields.proofs.Tokens.{NoneBefore}
use Rattle.line_fields.proofs.fields.token_length.Given as goal

abbrev pub invariant-loop-byte : goal.invariant-loop-byte
invariant-loop-byte l = (l.count ≡ l.byte-index) × NoneBefore l.bytes l.byte-index
