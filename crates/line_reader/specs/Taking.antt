-- What a part of the reader tells: the bytes begin with what it answers, or stop.
use Rattle.std.specs.Prelude.{◌≡◌, List, [], ◌∷◌, ℕ, Option, Some, None, Result, Ok, Err, replicate}
use Rattle.std.specs.Borrow.{Bor}
use Rattle.mgf_reader.specs.Text.{ended_lines}
use Rattle.line_reader.specs.declared.stop.Stop.{Stop}
use Rattle.line_reader.specs.declared.stop.Stop.TheVariants.{Bad, Big, Deep, End, OutOfMemory}
use Rattle.tree_document.specs.Line.{Line, table_line}
use Rattle.line_fields.specs.Need.{Need, follow, need_bound, need_cert, need_table_row}
use Rattle.line_reader.specs.Verdict.{Stops, Took, at_bad, at_big, at_deep, at_end, next_needs, verdict}

-- the needs stop as an answer says; want of memory says nothing of them
abbrev pub StopsAs : List Need → List ℕ → Stop → Type 0
StopsAs needs bytes (Bad left) = Stops needs bytes (at_bad (ended_lines left.now))
StopsAs needs bytes (Big left) = Stops needs bytes (at_big (ended_lines left.now))
StopsAs needs bytes (Deep left) = Stops needs bytes (at_deep (ended_lines left.now))
StopsAs needs bytes End = Stops needs bytes at_end
StopsAs needs bytes OutOfMemory = Unit {0}

-- one line is taken
abbrev pub Takes : {X : Type 0} → Need → (X → Line) → List ℕ → Result (X × Bor (List ℕ)) Stop → Type 0
Takes need line bytes (Ok both) =
    Took (need ∷ []) (next_needs (follow need (line both.0))) (line both.0 ∷ []) bytes both.1.now
Takes need line bytes (Err stop) = StopsAs (need ∷ []) bytes stop

-- all lines for some needs are taken
abbrev pub TakesAll : {X : Type 0} → List Need → (X → List Line) → List ℕ → Result (X × Bor (List ℕ)) Stop → Type 0
TakesAll needs lines bytes (Ok both) = Took needs [] (lines both.0) bytes both.1.now
TakesAll needs lines bytes (Err stop) = StopsAs needs bytes stop

-- where a certificate is needed, the line of a table is taken, or the same as for a bound has to stand there
abbrev pub TakesTable : List ℕ → Result (Option (ℕ × Bor (List ℕ))) Stop → Type 0
TakesTable bytes (Ok (Some both)) =
    Took (need_cert ∷ []) (replicate both.0 need_table_row) (table_line both.0 ∷ []) bytes both.1.now
TakesTable bytes (Ok None) = (others : List Need)
    → verdict (need_cert ∷ others) (ended_lines bytes) ≡ verdict (need_bound 0 ∷ others) (ended_lines bytes)
TakesTable bytes (Err stop) = StopsAs (need_cert ∷ []) bytes stop
