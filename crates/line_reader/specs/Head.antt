-- The lines that a part of the reader has taken, by what they hold.
use Rattle.std.specs.Prelude.{◌<◌, ◌≤◌, ◌^◌, ℕ, unsigned_abs}
use Rattle.std.specs.List.{All}
use Rattle.line_reader.specs.declared.bound_lines.BoundHead.{BoundHead}
use Rattle.line_reader.specs.declared.bound_lines.BoundHead.TheVariants.{Prices, Split}
use Rattle.line_reader.specs.declared.heads.SectionHead.{SectionHead}
use Rattle.line_reader.specs.declared.heads.SectionHead.TheVariants.{Spectrum, Clean, Refused}
use Rattle.line_reader.specs.declared.heads.BodyHead.{BodyHead}
use Rattle.line_reader.specs.declared.heads.BodyHead.TheVariants.{Skipped, Lists}
use Rattle.line_reader.specs.declared.heads.EntryHead.{EntryHead}
use Rattle.line_reader.specs.declared.heads.EntryHead.TheVariants.{TooLarge, Tree}
use Rattle.tree_document.specs.Line.{Line, clean_line, lists_line, prices_line, refused_line}
use Rattle.tree_document.specs.Line.{skip_line, spectrum_line, split_line, too_large_line, tree_line}
use Rattle.tree_certificate.specs.BoundHolds.{greatest_depth}
use Rattle.tree_certificate.specs.Number.{AreNear, greatest_number}

abbrev pub section_head_line : SectionHead → Line
section_head_line (Spectrum line title) = spectrum_line line title
section_head_line Clean = clean_line
section_head_line (Refused line kind) = refused_line line kind

-- a line that is told fits 32 bits
abbrev pub IsSmallSection : SectionHead → Type 0
IsSmallSection (Spectrum line title) = line < 2 ^ 32
IsSmallSection Clean = Unit {0}
IsSmallSection (Refused line kind) = line < 2 ^ 32

abbrev pub body_head_line : BodyHead → Line
body_head_line (Skipped reason) = skip_line reason
body_head_line (Lists count) = lists_line count

abbrev pub entry_head_line : EntryHead → Line
entry_head_line (TooLarge candidate error vertices) = too_large_line candidate error vertices
entry_head_line (Tree candidate error score upper mark count) = tree_line candidate error score upper mark count

-- a number of vertices that is told fits 32 bits, and a score 64
abbrev pub IsSmallHead : EntryHead → Type 0
IsSmallHead (TooLarge candidate error vertices) = vertices < 2 ^ 32
IsSmallHead (Tree candidate error score upper mark count) =
    (unsigned_abs score ≤ greatest_number) × (unsigned_abs upper ≤ greatest_number)

-- the line of a bound under so many splits
abbrev pub bound_head_line : ℕ → BoundHead → Line
bound_head_line above (Prices prices) = prices_line prices.items
bound_head_line above (Split colour edges) = split_line above colour edges.items

-- prices may stand in a certificate, and the colour and the edges of a split fit their types
abbrev pub IsSmallBound : BoundHead → Type 0
IsSmallBound (Prices prices) = AreNear prices.items
IsSmallBound (Split colour edges) = (colour < 2 ^ 16) × All (λ edge. edge < 2 ^ 32) edges.items

-- a split stands where one may
abbrev pub IsOpen : ℕ → BoundHead → Type 0
IsOpen under (Prices prices) = Unit {0}
IsOpen under (Split colour edges) = under < greatest_depth
