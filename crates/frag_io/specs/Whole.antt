-- What comes of reading a slot to its end.
use Rattle.std.specs.Prelude.{◌≡◌, ◌<◌, ◌≤◌, ◌+◌, ◌++◌, ◌↔◌, ℕ, List, [], length, Option, Some, Result, Err, IfOk, Vec}
use Rattle.std.specs.declared.alloc.Global.{Global}
use Rattle.frag_io.specs.declared.whole.ReadWhole.{ReadWhole}
use Rattle.frag_io.specs.declared.whole.ReadWhole.TheVariants.{Failed, TooLong, OutOfMemory}
use Rattle.frag_io.specs.declared.desk.DeskFault.{DeskFault}
use Rattle.frag_io.specs.declared.desk.DeskFault.TheVariants as fault

-- what a fault of one read is to the reading of the whole
abbrev pub read_fault : DeskFault → ReadWhole
read_fault fault.Failed = Failed
read_fault fault.OutOfMemory = OutOfMemory

-- how many bytes are read past a limit at most
abbrev pub greatest_piece : ℕ
greatest_piece = 65536

-- A text was read as a whole: what was read of it and what is left make it up, an `Ok` has read all of it and hands
-- it out, it is too long exactly where more than the limit was read, and no more than 65,536 bytes are read past the
-- limit.
pub record ReadsWhole (limit : ℕ) (left : Option (List ℕ)) (result : Result (Vec ℕ Global) ReadWhole) (text : List ℕ)
    : Type 0 where
  pub read : List ℕ
  pub rest : List ℕ
  pub parts : text ≡ read ++ rest
  pub rest_is_left : left ≡ Some rest
  pub whole : IfOk result (λ bytes. (bytes.items ≡ read) × (rest ≡ []))
  pub too_long : (result ≡ Err TooLong) ↔ (limit < length read)
  pub stops : length read ≤ limit + greatest_piece
