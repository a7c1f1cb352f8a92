-- The form of a line, the first that applies.
use Rattle.std.specs.Prelude.{ℕ, List, [], ◌∷◌, Bool, false, ◌&&◌, if◌then◌else◌, length, nat_lt, codes}
use Rattle.std.specs.List.{before_first, after_first, list_any}
use Rattle.std.specs.Str.{str_eq_ignore_ascii_case}
use Rattle.mgf_reader.specs.Bytes.{is_blank, is_edge, is_name_byte, is_comment_mark, is_peak_start, is_equals, trimmed}
use Rattle.mgf_reader.specs.Bytes.{fields_of}
use Rattle.mgf_reader.specs.Text.{greatest_line}

-- what a line is, with what a parameter line and a peak line hold
pub data LineForm : Type 0 where
  too_long : LineForm
  blank : LineForm
  comment : LineForm
  begin : LineForm
  end : LineForm
  parameter : List ℕ → List ℕ → LineForm
  peak : List (List ℕ) → LineForm
  remark : LineForm
  no_form : LineForm

-- two fields that are these words, without ASCII case
abbrev pub are_words : List (List ℕ) → List ℕ → List ℕ → Bool
are_words (first ∷ second ∷ []) one other =
    str_eq_ignore_ascii_case first one && str_eq_ignore_ascii_case second other
are_words fields one other = false

-- the key of a parameter line stands before the first equals sign, its value after it
abbrev pub parameter_of : List ℕ → LineForm
parameter_of line =
    parameter (trimmed is_blank (before_first is_equals line)) (trimmed is_blank (after_first is_equals line))

-- the form of a line of bounded length without the bytes at its ends that are dropped
unfoldable pub form_within : List ℕ → LineForm
form_within [] = blank
form_within (first ∷ rest) =
    if is_comment_mark first then comment
    else if are_words (fields_of (first ∷ rest)) (codes "BEGIN") (codes "IONS") then begin
    else if are_words (fields_of (first ∷ rest)) (codes "END") (codes "IONS") then end
    else if is_name_byte first && list_any is_equals (first ∷ rest) then parameter_of (first ∷ rest)
    else if is_peak_start first then peak (fields_of (first ∷ rest))
    else if is_name_byte first then remark
    else no_form

-- the form of a line without its line feed
abbrev pub line_form : List ℕ → LineForm
line_form line = if nat_lt greatest_line (length line) then too_long else form_within (trimmed is_edge line)
