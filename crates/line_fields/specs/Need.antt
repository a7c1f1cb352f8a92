-- What may stand where something is needed, and what is needed behind it.
use Rattle.std.specs.Prelude.{◌+◌, ◌==◌, ℕ, true, false, List, [], ◌∷◌, ◌++◌, codes, replicate, Option, Some, None}
use Rattle.std.specs.Prelude.{if◌then◌else◌}
use Rattle.std.specs.Option.{option_map}
use Rattle.tree_document.specs.declared.document.Skip.TheVariants.{NoPrecursor, Charge, Range, TooMany}
use Rattle.tree_certificate.specs.Number.{greatest_number}
use Rattle.tree_document.specs.Line.{Line, header_line, clean_line, refused_line, spectrum_line, skip_line, lists_line}
use Rattle.tree_document.specs.Line.{list_line, formula_line, entries_line, too_large_line, tree_line, row_line}
use Rattle.tree_document.specs.Line.{table_line, table_row_line, split_line, prices_line, potentials_line, done_line}
use Rattle.tree_document.specs.Line.{greatest_edge, greatest_edges, greatest_error, greatest_line_number}
use Rattle.tree_document.specs.Line.{greatest_listed, greatest_section_lists, greatest_numbers, greatest_peak_number}
use Rattle.tree_document.specs.Line.{greatest_rows, greatest_weight}
use Rattle.line_fields.specs.Field.{Kind, word_kind, number_kind, signed_kind, formula_kind, mark_kind}
use Rattle.line_fields.specs.Field.{kind_kind, Tail, no_tail, title_tail, numbers_tail, naturals_tail, Values}
use Rattle.line_fields.specs.Field.{form_at}

pub data Need : Type 0 where
  need_document : Need
  need_sections : Need
  need_body : Need
  need_list : Need
  need_formula : Need
  need_entries : Need
  need_entry : Need
  need_row : Need
  need_cert : Need
  need_table_row : Need
  -- under so many splits
  need_bound : ℕ → Need
  need_potentials : Need
  need_done : Need

-- what is needed behind a line that stands where something is needed; none where the line may not stand there
abbrev pub follow : Need → Line → Option (List Need)
follow need_document header_line = Some (need_sections ∷ [])
follow need_sections (spectrum_line line title) = Some (need_body ∷ need_done ∷ need_sections ∷ [])
follow need_sections clean_line = Some []
follow need_sections (refused_line line kind) = Some []
follow need_body (skip_line reason) = Some []
follow need_body (lists_line count) = Some (replicate count need_list ++ need_entries ∷ [])
follow need_list (list_line mz intensity count) = Some (replicate count need_formula)
follow need_formula (formula_line counts) = Some []
follow need_entries (entries_line count) = Some (replicate count need_entry)
follow need_entry (too_large_line candidate error vertices) = Some []
follow need_entry (tree_line candidate error score upper mark count) = Some (replicate count need_row ++ need_cert ∷ [])
follow need_row (row_line it) = Some []
follow need_cert (table_line count) = Some (replicate count need_table_row)
follow need_cert (prices_line numbers) = Some (need_potentials ∷ [])
follow need_cert (split_line above colour edges) =
    if above == 0 then Some (need_bound 1 ∷ need_bound 1 ∷ []) else None
follow (need_bound under) (prices_line numbers) = Some (need_potentials ∷ [])
follow (need_bound under) (split_line above colour edges) =
    if above == under then Some (need_bound (under + 1) ∷ need_bound (under + 1) ∷ []) else None
follow need_potentials (potentials_line numbers) = Some []
follow need_table_row (table_row_line items) = Some []
follow need_done done_line = Some []
follow need line = None

-- A way to read a line: its first word, the kinds of its fields, and the line that their values make.
pub record Shape : Type 0 where
  pub word : List ℕ
  pub kinds : List Kind
  pub tail : Tail
  pub make : Values kinds tail → Line

abbrev pub shape_with : List ℕ → (kinds : List Kind) (tail : Tail) → (Values kinds tail → Line) → Shape
shape_with word kinds tail make = record { word = word; kinds = kinds; tail = tail; make = make }

abbrev pub header_shape : Shape
header_shape = shape_with (codes "fragdoc") (word_kind (codes "1") ∷ []) no_tail (λ values. header_line)

abbrev pub clean_shape : Shape
clean_shape = shape_with (codes "end") (word_kind (codes "clean") ∷ []) no_tail (λ values. clean_line)

abbrev pub refused_shape : Shape
refused_shape =
    shape_with (codes "end") (word_kind (codes "refused") ∷ number_kind 0 greatest_line_number ∷ kind_kind ∷ []) no_tail
    (λ values. refused_line values.1.0 values.1.1.0)

abbrev pub spectrum_shape : Shape
spectrum_shape =
    shape_with (codes "spectrum") (number_kind 0 greatest_line_number ∷ []) title_tail
    (λ values. spectrum_line values.0 values.1)

abbrev pub no_precursor_shape : Shape
no_precursor_shape =
    shape_with (codes "skip") (word_kind (codes "no-precursor") ∷ []) no_tail (λ values. skip_line NoPrecursor)

abbrev pub charge_shape : Shape
charge_shape = shape_with (codes "skip") (word_kind (codes "charge") ∷ []) no_tail (λ values. skip_line Charge)

abbrev pub range_shape : Shape
range_shape =
    shape_with (codes "skip") (word_kind (codes "range") ∷ number_kind 0 greatest_peak_number ∷ []) no_tail
    (λ values. skip_line (Range values.1.0))

abbrev pub too_many_shape : Shape
too_many_shape =
    shape_with (codes "skip") (word_kind (codes "too-many") ∷ number_kind 0 greatest_peak_number ∷ []) no_tail
    (λ values. skip_line (TooMany values.1.0))

abbrev pub lists_shape : Shape
lists_shape =
    shape_with (codes "lists") (number_kind 1 greatest_section_lists ∷ []) no_tail (λ values. lists_line values.0)

abbrev pub list_shape : Shape
list_shape =
    shape_with (codes "list")
    (number_kind 0 greatest_peak_number ∷ number_kind 0 greatest_peak_number ∷ number_kind 0 greatest_listed ∷ [])
    no_tail
    (λ values. list_line values.0 values.1.0 values.1.1.0)

abbrev pub formula_shape : Shape
formula_shape = shape_with (codes "f") (formula_kind ∷ []) no_tail (λ values. formula_line values.0)

abbrev pub entries_shape : Shape
entries_shape =
    shape_with (codes "entries") (number_kind 0 greatest_listed ∷ []) no_tail (λ values. entries_line values.0)

abbrev pub too_large_shape : Shape
too_large_shape =
    shape_with (codes "entry")
    (formula_kind ∷ number_kind 0 greatest_error ∷ word_kind (codes "too-large") ∷ number_kind 0
    greatest_line_number ∷ []) no_tail
    (λ values. too_large_line values.0 values.1.0 values.1.1.1.0)

abbrev pub tree_shape : Shape
tree_shape =
    shape_with (codes "entry")
    (formula_kind ∷ number_kind 0 greatest_error ∷ signed_kind greatest_number ∷ signed_kind
    greatest_number ∷ mark_kind ∷ number_kind 0 greatest_rows ∷ []) no_tail
    (λ values. tree_line values.0 values.1.0 values.1.1.0 values.1.1.1.0 values.1.1.1.1.0 values.1.1.1.1.1.0)

abbrev pub row_shape : Shape
row_shape =
    shape_with (codes "r")
    (number_kind 0 greatest_edge ∷ number_kind 0 greatest_rows ∷ number_kind 0 greatest_rows ∷ formula_kind
    ∷ formula_kind ∷ signed_kind greatest_weight ∷ []) no_tail
    (λ values. row_line (record {
      edge = values.0;
      parent = values.1.0;
      peak = values.1.1.0;
      formula = values.1.1.1.0;
      loss = values.1.1.1.1.0;
      weight = values.1.1.1.1.1.0;
    }))

abbrev pub table_shape : Shape
table_shape = shape_with (codes "table") (number_kind 0 greatest_rows ∷ []) no_tail (λ values. table_line values.0)

abbrev pub table_row_shape : Shape
table_row_shape =
    shape_with (codes "t") [] (numbers_tail false greatest_numbers greatest_number) (λ values. table_row_line values)

-- the ways to read a line of a bound under so many splits
abbrev pub split_shape : ℕ → Shape
split_shape above =
    shape_with (codes "split") (number_kind 0 greatest_rows ∷ []) (naturals_tail greatest_edges greatest_edge)
    (λ values. split_line above values.0 values.1)

abbrev pub prices_shape : Shape
prices_shape =
    shape_with (codes "prices") [] (numbers_tail true greatest_rows greatest_number) (λ values. prices_line values)

abbrev pub potentials_shape : Shape
potentials_shape =
    shape_with (codes "potentials") [] (numbers_tail false greatest_rows greatest_number)
    (λ values. potentials_line values)

abbrev pub done_shape : Shape
done_shape = shape_with (codes "done") [] no_tail (λ values. done_line)

-- the ways to read a line where something is needed
abbrev pub shapes_of : Need → List Shape
shapes_of need_document = header_shape ∷ []
shapes_of need_sections = spectrum_shape ∷ clean_shape ∷ refused_shape ∷ []
shapes_of need_body = lists_shape ∷ no_precursor_shape ∷ charge_shape ∷ range_shape ∷ too_many_shape ∷ []
shapes_of need_list = list_shape ∷ []
shapes_of need_formula = formula_shape ∷ []
shapes_of need_entries = entries_shape ∷ []
shapes_of need_entry = tree_shape ∷ too_large_shape ∷ []
shapes_of need_row = row_shape ∷ []
shapes_of need_cert = table_shape ∷ prices_shape ∷ split_shape 0 ∷ []
shapes_of need_table_row = table_row_shape ∷ []
shapes_of (need_bound under) = prices_shape ∷ split_shape under ∷ []
shapes_of need_potentials = potentials_shape ∷ []
shapes_of need_done = done_shape ∷ []

abbrev pub line_with : Shape → List ℕ → Option Line
line_with shape text = option_map shape.make (form_at shape.word shape.kinds shape.tail text)

abbrev pub or_else : Option Line → Option Line → Option Line
or_else (Some line) other = Some line
or_else None other = other

abbrev pub first_line : List Shape → List ℕ → Option Line
first_line [] text = None
first_line (shape ∷ shapes) text = or_else (line_with shape text) (first_line shapes text)

-- the line that a text spells where something is needed
abbrev pub line_at : Need → List ℕ → Option Line
line_at need text = first_line (shapes_of need) text
