-- The classes of bytes at which a line is cut.
use Rattle.std.specs.Prelude.{ℕ, Bool}
use Rattle.mgf_reader.specs.declared.bytes.ByteClass.{ByteClass}
use Rattle.mgf_reader.specs.declared.bytes.ByteClass.TheVariants.{Edge, Blank, Gap, Equals}
use Rattle.mgf_reader.specs.Bytes.{is_edge, is_blank, is_gap, is_equals}

-- whether a byte is of a class
abbrev pub is_of : ByteClass → ℕ → Bool
is_of Edge byte = is_edge byte
is_of Blank byte = is_blank byte
is_of Gap byte = is_gap byte
is_of Equals byte = is_equals byte
