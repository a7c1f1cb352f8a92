-- Every line is read as it is written, where it may stand.
use Rattle.std.proofs.Common.{◌≡◌, ◌+◌, ◌∙◌, ℕ, ℤ, Bool, true, false, cond, List, [], ◌∷◌, ◌++◌, length, take, drop}
use Rattle.std.proofs.Common.{Option, Some, None, eqb, refl, sym, ap, subst}
use Rattle.std.specs.Prelude.{IsTrue, codes}
use Rattle.std.specs.List.{flat_map, list_all, starts_with}
use Rattle.std.specs.Option.{option_and_then, option_map}
use Rattle.std.specs.Str.{bytes_eq}
use Rattle.std.proofs.lemmas.Bool.{eq-eqb, eqb-true}
use Rattle.std.proofs.lemmas.List.{take_at, drop_at, take-append-drop}
use Rattle.std.proofs.lemmas.Option.{none-some, same_Some}
use Rattle.std.proofs.lemmas.Slice.Eq.{bytes_eq-Decides}
use Rattle.tree_document.specs.declared.document.Skip.{Skip}
use Rattle.tree_document.specs.declared.document.Skip.TheVariants.{NoPrecursor, Charge, Range, TooMany}
use Rattle.tree_document.specs.Line.{Field, a_word, a_number, a_kind, greatest_line_number, greatest_peak_number}
use Rattle.tree_document.specs.Line.{greatest_rows, LineShape, form, form_of, Line, header_line, clean_line}
use Rattle.tree_document.specs.Line.{refused_line, spectrum_line, skip_line, lists_line, list_line, formula_line}
use Rattle.tree_document.specs.Line.{entries_line, too_large_line, tree_line, row_line, table_line, table_row_line}
use Rattle.tree_document.specs.Line.{split_line, prices_line, potentials_line, done_line, Spells, WritesFields}
use Rattle.tree_document.specs.Line.{field_text, in_range, is_field_in_range, line_text, greatest_error}
use Rattle.tree_certificate.specs.Number.{greatest_number}
use Rattle.line_fields.specs.Field.{Kind, word_kind, number_kind, signed_kind, formula_kind, mark_kind, Of}
use Rattle.line_fields.specs.Field.{Tail, no_tail, Values, behind_word, field_of, fields_of, signed_in}
use Rattle.line_fields.specs.Field.{token_at, value_at, value_in, values_at}
use Rattle.line_fields.specs.Need.{Need, need_document, need_sections, need_body, need_list, need_formula}
use Rattle.line_fields.specs.Need.{need_entries, need_entry, need_row, need_cert, need_table_row, need_bound}
use Rattle.line_fields.specs.Need.{need_potentials, need_done, Shape, first_line, follow, line_at, line_with}
use Rattle.line_fields.specs.Need.{or_else, shapes_of, header_shape, clean_shape, refused_shape}
use Rattle.line_fields.specs.Need.{spectrum_shape, no_precursor_shape, charge_shape, range_shape}
use Rattle.line_fields.specs.Need.{too_many_shape, lists_shape, list_shape, formula_shape, entries_shape}
use Rattle.line_fields.specs.Need.{too_large_shape, tree_shape, row_shape, table_shape, table_row_shape}
use Rattle.line_fields.specs.Need.{split_shape, prices_shape, potentials_shape, done_shape}
use Rattle.line_fields.specs.LineRead.{IsRead, ReadAs}
use Rattle.line_fields.proofs.FieldKinds.{IsToken, Known, is_good_kind, to_token, token_no_space}
use Rattle.line_fields.proofs.FieldValues.{TakesAll, are_good, are_in_range, capped_values, complete, fields_rest}
use Rattle.line_fields.proofs.FieldValues.{ranges_kept, sound, value_complete, values_kept, values_text}
use Rattle.line_fields.proofs.Tokens.{token_at-front}

behind_word-complete : (word rest : List ℕ) → behind_word word (word ++ rest) ≡ Some rest
behind_word-complete word rest =
    let same : bytes_eq word (take (length word) (word ++ rest)) ≡ true =
    (bytes_eq-Decides word _).1 (sym (take_at word rest (length word) refl)) in
    rw same (ap Some (drop_at word rest (length word) refl))

behind_word-sound : (word text rest : List ℕ) → behind_word word text ≡ Some rest → text ≡ word ++ rest
behind_word-sound word text rest read = step (starts_with eqb text word) refl read
  where
    step : (b : Bool) → starts_with eqb text word ≡ b → cond b (Some (drop (length word) text)) None ≡ Some rest
        → text ≡ word ++ rest
    step false other taken = (cc)
    step true same taken =
        let front : take (length word) text ≡ word = sym ((bytes_eq-Decides word _).0 same) in
        let behind : drop (length word) text ≡ rest = same_Some _ _ taken in
        sym (take-append-drop (length word) text) ∙ (λ i. front i ++ behind i)

-- a way to read a line goes by the form of the line that it makes
pub record IsShape (need : Need) (shape : Shape) : Type 0 where
  pub good : are_good shape.kinds shape.tail ≡ true
  pub form : (values : Values shape.kinds shape.tail) → form_of (shape.make values) ≡ form shape.word
      (fields_of shape.kinds shape.tail values)
  pub allowed : (values : Values shape.kinds shape.tail) → (more : List Need) ×
      (follow need (shape.make values) ≡ Some more)

range_of : (need : Need) (shape : Shape) → IsShape need shape → (values : Values shape.kinds shape.tail)
    → in_range (shape.make values) ≡ are_in_range (fields_of shape.kinds shape.tail values)
range_of need shape is values = ap (λ f. list_all is_field_in_range f.fields) (is.form values)

kept : (need : Need) (shape : Shape) → IsShape need shape → (values : Values shape.kinds shape.tail)
    → in_range (shape.make (capped_values shape.kinds shape.tail values)) ≡ in_range (shape.make values)
kept need shape is values =
    range_of need shape is (capped_values shape.kinds shape.tail values)
    ∙ ranges_kept shape.kinds shape.tail values is.good ∙ sym (range_of need shape is values)

same_line : (need : Need) (shape : Shape) → IsShape need shape → (values : Values shape.kinds shape.tail)
    → IsTrue (in_range (shape.make (capped_values shape.kinds shape.tail values)))
    → capped_values shape.kinds shape.tail values ≡ values
same_line need shape is values near =
    values_kept shape.kinds shape.tail values is.good (sym (range_of need shape is values)
    ∙ sym (kept need shape is values) ∙ near)

spells : (need : Need) (shape : Shape) → IsShape need shape → (values : Values shape.kinds shape.tail)
    (text rest : List ℕ) → text ≡ shape.word ++ rest → WritesFields (fields_of shape.kinds shape.tail values) rest
    → Spells (shape.make values) text
spells need shape is values text rest split writes =
    let P : LineShape → Type 0 = λ f. (rest : List ℕ) × (text ≡ f.word ++ rest) × WritesFields f.fields rest in
    subst P (sym (is.form values)) (rest, split, writes)

shape_sound : Known → (need : Need) (shape : Shape) → IsShape need shape → (text : List ℕ) (line : Line)
    → line_with shape text ≡ Some line → ReadAs need text line
shape_sound known need shape is text line read = step (behind_word shape.word text) refl read
  where
    made : (rest : List ℕ) (vs : Values shape.kinds shape.tail) → text ≡ shape.word ++ rest
        → TakesAll shape.kinds shape.tail rest vs → shape.make vs ≡ line → ReadAs need text line
    made rest vs split reads line_is =
        let capped : line ≡ shape.make (capped_values shape.kinds shape.tail reads.0) =
        sym line_is ∙ ap shape.make reads.2 in
        let same : IsTrue (in_range line) → capped_values shape.kinds shape.tail reads.0 ≡ reads.0 =
        λ near. same_line need shape is reads.0 (sym (ap in_range capped) ∙ near) in
        let ranges : in_range line ≡ in_range (shape.make reads.0) = ap in_range capped ∙ kept need shape is reads.0 in
        let texts : IsTrue (in_range line) → text ≡ line_text (shape.make reads.0) = λ near.
        split ∙ ap (λ t. shape.word ++ t) (values_text shape.kinds shape.tail reads.0 rest is.good
        (sym (range_of need shape is reads.0) ∙ sym ranges ∙ near) reads.1)
        ∙ ap (λ f. f.word ++ flat_map field_text f.fields) (sym (is.form reads.0)) in
        record {
          whole = shape.make reads.0;
          allowed = is.allowed reads.0;
          spelled = spells need shape is reads.0 text rest split reads.1;
          range = ranges;
          same = λ near. capped ∙ ap shape.make (same near);
          text_is = λ near. texts near ∙ ap line_text (sym (capped ∙ ap shape.make (same near)));
        }

    inner : (rest : List ℕ) (o : Option (Values shape.kinds shape.tail)) → behind_word shape.word text ≡ Some rest
        → values_at shape.kinds shape.tail rest ≡ o → option_map shape.make o ≡ Some line → ReadAs need text line
    inner rest None word told taken = (cc)
    inner rest (Some vs) word told taken =
        made rest vs (behind_word-sound shape.word text rest word) (sound known shape.kinds shape.tail rest vs told)
        (same_Some _ _ taken)

    step : (o : Option (List ℕ)) → behind_word shape.word text ≡ o
        → option_map shape.make (option_and_then (values_at shape.kinds shape.tail) o) ≡ Some line
        → ReadAs need text line
    step None word taken = (cc)
    step (Some rest) word taken = inner rest (values_at shape.kinds shape.tail rest) word refl taken

abbrev AreShapes : Need → List Shape → Type 0
AreShapes need [] = Unit {0}
AreShapes need (shape ∷ shapes) = IsShape need shape × AreShapes need shapes

shapes_sound : Known → (need : Need) (shapes : List Shape) → AreShapes need shapes → (text : List ℕ) (line : Line)
    → first_line shapes text ≡ Some line → ReadAs need text line
shapes_sound known need [] are text line read = (cc)
shapes_sound known need (shape ∷ shapes) are text line read =
    step (line_with shape text) refl (shapes_sound known need shapes are.1 text line) read
  where
    step : (o : Option Line) → line_with shape text ≡ o → (first_line shapes text ≡ Some line → ReadAs need text line)
        → or_else o (first_line shapes text) ≡ Some line → ReadAs need text line
    step None told later taken = later taken
    step (Some it) told later taken = shape_sound known need shape are.0 text line (told ∙ taken)

a_shape : (need : Need) (shape : Shape) → are_good shape.kinds shape.tail ≡ true
    → ((values : Values shape.kinds shape.tail) → form_of (shape.make values) ≡ form shape.word
    (fields_of shape.kinds shape.tail values))
    → ((values : Values shape.kinds shape.tail) → (more : List Need) × (follow need (shape.make values) ≡ Some more))
    → IsShape need shape
a_shape need shape good form allowed = record { good = good; form = form; allowed = allowed }

split_follows : (above under : ℕ) → above ≡ under → (colour : ℕ) (edges : List ℕ)
    → follow (need_bound under) (split_line above colour edges)
    ≡ Some (need_bound (under + 1) ∷ need_bound (under + 1) ∷ [])
split_follows above under same colour edges = ap (λ b. cond b
    (Some (need_bound (under + 1) ∷ need_bound (under + 1) ∷ [])) None) (eq-eqb above under same)

are_shapes : (need : Need) → AreShapes need (shapes_of need)
are_shapes need_document = (a_shape need_document header_shape refl (λ v. refl) (λ v. (_, refl)), tt)
are_shapes need_sections = (
  a_shape need_sections spectrum_shape refl (λ v. refl) (λ v. (_, refl)),
  (
    a_shape need_sections clean_shape refl (λ v. refl) (λ v. (_, refl)),
    (a_shape need_sections refused_shape refl (λ v. refl) (λ v. (_, refl)), tt),
  ),
)
are_shapes need_body = (
  a_shape need_body lists_shape refl (λ v. refl) (λ v. (_, refl)),
  (
    a_shape need_body no_precursor_shape refl (λ v. refl) (λ v. (_, refl)),
    (
      a_shape need_body charge_shape refl (λ v. refl) (λ v. (_, refl)),
      (
        a_shape need_body range_shape refl (λ v. refl) (λ v. (_, refl)),
        (a_shape need_body too_many_shape refl (λ v. refl) (λ v. (_, refl)), tt),
      ),
    ),
  ),
)
are_shapes need_list = (a_shape need_list list_shape refl (λ v. refl) (λ v. (_, refl)), tt)
are_shapes need_formula = (a_shape need_formula formula_shape refl (λ v. refl) (λ v. (_, refl)), tt)
are_shapes need_entries = (a_shape need_entries entries_shape refl (λ v. refl) (λ v. (_, refl)), tt)
are_shapes need_entry = (
  a_shape need_entry tree_shape refl (λ v. refl) (λ v. (_, refl)),
  (a_shape need_entry too_large_shape refl (λ v. refl) (λ v. (_, refl)), tt),
)
are_shapes need_row = (a_shape need_row row_shape refl (λ v. refl) (λ v. (_, refl)), tt)
are_shapes need_cert = (
  a_shape need_cert table_shape refl (λ v. refl) (λ v. (_, refl)),
  (
    a_shape need_cert prices_shape refl (λ v. refl) (λ v. (_, refl)),
    (a_shape need_cert (split_shape 0) refl (λ v. refl) (λ v. (_, refl)), tt),
  ),
)
are_shapes need_table_row = (a_shape need_table_row table_row_shape refl (λ v. refl) (λ v. (_, refl)), tt)
are_shapes (need_bound under) = (
  a_shape (need_bound under) prices_shape refl (λ v. refl) (λ v. (_, refl)),
  (
    a_shape (need_bound under) (split_shape under) refl (λ v. refl)
        (λ v. (need_bound (under + 1) ∷ need_bound (under + 1) ∷ [], split_follows under under refl v.0 v.1)),
    tt,
  ),
)
are_shapes need_potentials = (a_shape need_potentials potentials_shape refl (λ v. refl) (λ v. (_, refl)), tt)
are_shapes need_done = (a_shape need_done done_shape refl (λ v. refl) (λ v. (_, refl)), tt)

-- what is read where something is needed is a line that may stand there
pub line_sound : Known → (need : Need) (text : List ℕ) (line : Line) → line_at need text ≡ Some line
    → ReadAs need text line
line_sound known need text line read = shapes_sound known need (shapes_of need) (are_shapes need) text line read

shape_complete : Known → (need : Need) (shape : Shape) → IsShape need shape
    → (values : Values shape.kinds shape.tail) (text : List ℕ) → Spells (shape.make values) text
    → line_with shape text ≡ Some (shape.make (capped_values shape.kinds shape.tail values))
shape_complete known need shape is values text spelled =
    let P : LineShape → Type 0 = λ f. (rest : List ℕ) × (text ≡ f.word ++ rest) × WritesFields f.fields rest in
    let writes : P (form shape.word (fields_of shape.kinds shape.tail values)) = subst P (is.form values) spelled in
    let word : behind_word shape.word text ≡ Some writes.0 =
    ap (behind_word shape.word) writes.1 ∙ behind_word-complete shape.word writes.0 in
    ap (λ o. option_map shape.make (option_and_then (values_at shape.kinds shape.tail) o)) word
    ∙ ap (option_map shape.make) (complete known shape.kinds shape.tail values writes.0 is.good writes.2)

by_shape : Known → (need : Need) (shape : Shape) → IsShape need shape
    → (values : Values shape.kinds shape.tail) (text : List ℕ) → Spells (shape.make values) text
    → ((line : Line) → line_with shape text ≡ Some line → line_at need text ≡ Some line)
    → IsRead need text (shape.make values)
by_shape known need shape is values text spelled at = record {
  line = shape.make (capped_values shape.kinds shape.tail values);
  read = at _ (shape_complete known need shape is values text spelled);
  range = kept need shape is values;
  same = λ near. ap shape.make (same_line need shape is values near);
}

-- a first field with another word
first_token : Known → (kind : Kind) (value : Of kind) (fields : List Field) (text : List ℕ) → is_good_kind kind ≡ true
    → WritesFields (field_of kind value ∷ fields) text
    → (token : List ℕ) × (rest : List ℕ) × (token_at text ≡ Some (token, rest)) × IsToken kind value token
first_token known kind value fields text good is =
    let parts = to_token kind value is.0 is.3 in
    let whole : text ≡ 32 ∷ (parts.0 ++ is.1) = is.2 ∙ ap (λ t. t ++ is.1) parts.1 in (
      parts.0,
      is.1,
      ap token_at whole ∙ token_at-front parts.0 is.1
          (token_no_space known kind value parts.0 good parts.2) (fields_rest fields is.1 is.4),
      parts.2,
    )

other_word : Known → (word other : List ℕ) (fields : List Field) (text : List ℕ) → is_good_kind (word_kind word) ≡ true
    → bytes_eq word other ≡ false
    → WritesFields (field_of (word_kind word) tt ∷ fields) text → value_at (word_kind other) text ≡ None
other_word known word other fields text good apart is =
    let first = first_token known (word_kind word) tt fields text good is in
    ap (option_and_then (λ (both : List ℕ × List ℕ). option_map {U = Unit {0} × List ℕ} (λ v. (v, both.1))
    (value_in (word_kind other) both.0))) first.2
    ∙ ap (λ b. option_map {U = Unit {0} × List ℕ} (λ v. (v, first.1)) (cond {A = Option (Unit {0})} b (Some tt) None))
    (ap (λ t. bytes_eq t other) first.3 ∙ apart)

-- a shape of which the first word, or a field behind it, is not there
fails : (shape : Shape) (text rest : List ℕ) → text ≡ shape.word ++ rest → values_at shape.kinds shape.tail rest ≡ None
    → line_with shape text ≡ None
fails shape text rest split none =
    ap (λ o. option_map shape.make (option_and_then (values_at shape.kinds shape.tail) o))
    (ap (behind_word shape.word) split ∙ behind_word-complete shape.word rest) ∙ ap (option_map shape.make) none

abbrev first_then : (kind : Kind) (kinds : List Kind) (tail : Tail) → Option (Of kind × List ℕ)
    → Option (Values (kind ∷ kinds) tail)
first_then kind kinds tail first = option_and_then (λ (value : Of kind × List ℕ). option_map
    (λ (vs : Values kinds tail). (value.0, vs)) (values_at kinds tail value.1)) first

word_fails : Known → (word other : List ℕ) (fields : List Field) (kinds : List Kind) (tail : Tail) (text : List ℕ)
    → is_good_kind (word_kind word) ≡ true → bytes_eq word other ≡ false
    → WritesFields (field_of (word_kind word) tt ∷ fields) text → values_at (word_kind other ∷ kinds) tail text ≡ None
word_fails known word other fields kinds tail text good apart is =
    ap (first_then (word_kind other) kinds tail) (other_word known word other fields text good apart is)

later_fails : (kind : Kind) (kinds : List Kind) (tail : Tail) (text rest : List ℕ) (v : Of kind)
    → value_at kind text ≡ Some (v, rest) → values_at kinds tail rest ≡ None → values_at (kind ∷ kinds) tail text ≡ None
later_fails kind kinds tail text rest v first none =
    ap (first_then kind kinds tail) first ∙ ap (option_map (λ (vs : Values kinds tail). (v, vs))) none

single : Known → (need : Need) (shape : Shape) → IsShape need shape
    → (values : Values shape.kinds shape.tail) (text : List ℕ) → Spells (shape.make values) text
    → line_at need text ≡ or_else (line_with shape text) None → IsRead need text (shape.make values)
single known need shape is values text spelled at =
    by_shape known need shape is values text spelled (λ line read. at ∙ ap (λ o. or_else o None) read)

tree_fails : Known → (candidate : List ℕ) (error vertices : ℕ) (text : List ℕ)
    → Spells (too_large_line candidate error vertices) text → line_with tree_shape text ≡ None
tree_fails known candidate error vertices text is =
    let first = value_complete known formula_kind candidate (a_number 0 greatest_error error ∷ a_word
    (codes "too-large") ∷ a_number 0 greatest_line_number vertices ∷ []) is.0 refl is.2 in
    let second = value_complete known (number_kind 0 greatest_error) error
    (a_word (codes "too-large") ∷ a_number 0 greatest_line_number vertices ∷ []) first.0 refl first.2 in
    let third = first_token known (word_kind (codes "too-large")) tt (a_number 0 greatest_line_number vertices ∷ [])
    second.0 refl second.2 in
    let none : value_at (signed_kind greatest_number) second.0 ≡ None =
    ap (option_and_then (λ (both : List ℕ × List ℕ). option_map {U = ℤ × List ℕ} (λ v. (v, both.1)) (signed_in both.0)))
    third.2
    ∙ ap (λ token. option_map {U = ℤ × List ℕ} (λ v. (v, third.1)) (signed_in token)) third.3 in
    fails tree_shape text is.0 is.1
    (later_fails formula_kind (number_kind 0 greatest_error ∷ signed_kind greatest_number ∷ signed_kind
    greatest_number ∷ mark_kind ∷ number_kind 0 greatest_rows ∷ []) no_tail is.0 first.0 candidate first.1
    (later_fails (number_kind 0 greatest_error) (signed_kind greatest_number ∷ signed_kind
    greatest_number ∷ mark_kind ∷ number_kind 0 greatest_rows ∷ []) no_tail first.0 second.0 _ second.1
    (ap (first_then (signed_kind greatest_number) (signed_kind greatest_number ∷ mark_kind ∷ number_kind 0
    greatest_rows ∷ []) no_tail) none)))

skip_read : Known → (text : List ℕ) (reason : Skip) → Spells (skip_line reason) text
    → IsRead need_body text (skip_line reason)
skip_read known text NoPrecursor is =
    let none : line_with lists_shape text ≡ None = ap (line_with lists_shape) is.1 in
    by_shape known need_body no_precursor_shape (are_shapes need_body).1.0 (tt, tt) text is
    (λ line read. ap (λ o. or_else o (first_line (no_precursor_shape ∷ charge_shape ∷ range_shape ∷ too_many_shape
    ∷ []) text)) none
    ∙ ap (λ o. or_else o (first_line (charge_shape ∷ range_shape ∷ too_many_shape ∷ []) text)) read)
skip_read known text Charge is =
    let none : line_with lists_shape text ≡ None = ap (line_with lists_shape) is.1 in
    let first : line_with no_precursor_shape text ≡ None =
    fails no_precursor_shape text is.0 is.1 (word_fails known (codes "charge") (codes "no-precursor") [] [] no_tail
    is.0 refl refl is.2) in
    by_shape known need_body charge_shape (are_shapes need_body).1.1.0 (tt, tt) text is
    (λ line read. ap (λ o. or_else o (first_line (no_precursor_shape ∷ charge_shape ∷ range_shape ∷ too_many_shape
    ∷ []) text)) none
    ∙ ap (λ o. or_else o (first_line (charge_shape ∷ range_shape ∷ too_many_shape ∷ []) text)) first
    ∙ ap (λ o. or_else o (first_line (range_shape ∷ too_many_shape ∷ []) text)) read)
skip_read known text (Range mz) is =
    let none : line_with lists_shape text ≡ None = ap (line_with lists_shape) is.1 in
    let first : line_with no_precursor_shape text ≡ None =
    fails no_precursor_shape text is.0 is.1 (word_fails known (codes "range") (codes "no-precursor")
    (a_number 0 greatest_peak_number mz ∷ []) [] no_tail is.0 refl refl is.2) in
    let second : line_with charge_shape text ≡ None =
    fails charge_shape text is.0 is.1 (word_fails known (codes "range") (codes "charge")
    (a_number 0 greatest_peak_number mz ∷ []) [] no_tail is.0 refl refl is.2) in
    by_shape known need_body range_shape (are_shapes need_body).1.1.1.0 (tt, (mz, tt)) text is
    (λ line read. ap (λ o. or_else o (first_line (no_precursor_shape ∷ charge_shape ∷ range_shape ∷ too_many_shape
    ∷ []) text)) none
    ∙ ap (λ o. or_else o (first_line (charge_shape ∷ range_shape ∷ too_many_shape ∷ []) text)) first
    ∙ ap (λ o. or_else o (first_line (range_shape ∷ too_many_shape ∷ []) text)) second
    ∙ ap (λ o. or_else o (first_line (too_many_shape ∷ []) text)) read)
skip_read known text (TooMany mz) is =
    let none : line_with lists_shape text ≡ None = ap (line_with lists_shape) is.1 in
    let first : line_with no_precursor_shape text ≡ None =
    fails no_precursor_shape text is.0 is.1 (word_fails known (codes "too-many") (codes "no-precursor")
    (a_number 0 greatest_peak_number mz ∷ []) [] no_tail is.0 refl refl is.2) in
    let second : line_with charge_shape text ≡ None =
    fails charge_shape text is.0 is.1 (word_fails known (codes "too-many") (codes "charge")
    (a_number 0 greatest_peak_number mz ∷ []) [] no_tail is.0 refl refl is.2) in
    let third : line_with range_shape text ≡ None =
    fails range_shape text is.0 is.1 (word_fails known (codes "too-many") (codes "range")
    (a_number 0 greatest_peak_number mz ∷ []) (number_kind 0 1000000000000000000 ∷ []) no_tail is.0 refl refl is.2)
    in
    by_shape known need_body too_many_shape (are_shapes need_body).1.1.1.1.0 (tt, (mz, tt)) text is
    (λ line read. ap (λ o. or_else o (first_line (no_precursor_shape ∷ charge_shape ∷ range_shape ∷ too_many_shape
    ∷ []) text)) none
    ∙ ap (λ o. or_else o (first_line (charge_shape ∷ range_shape ∷ too_many_shape ∷ []) text)) first
    ∙ ap (λ o. or_else o (first_line (range_shape ∷ too_many_shape ∷ []) text)) second
    ∙ ap (λ o. or_else o (first_line (too_many_shape ∷ []) text)) third
    ∙ ap (λ o. or_else o (first_line [] text)) read)

section_read : Known → (text : List ℕ) (whole : Line) (more : List Need) → follow need_sections whole ≡ Some more
    → Spells whole text → IsRead need_sections text whole
section_read known text (spectrum_line line title) more may is =
    by_shape known need_sections spectrum_shape (are_shapes need_sections).0 (line, title) text is
    (λ it read. ap (λ o. or_else o (first_line (clean_shape ∷ refused_shape ∷ []) text)) read)
section_read known text clean_line more may is =
    let none : line_with spectrum_shape text ≡ None = ap (line_with spectrum_shape) is.1 in
    by_shape known need_sections clean_shape (are_shapes need_sections).1.0 (tt, tt) text is
    (λ it read. ap (λ o. or_else o (first_line (clean_shape ∷ refused_shape ∷ []) text)) none
    ∙ ap (λ o. or_else o (first_line (refused_shape ∷ []) text)) read)
section_read known text (refused_line line kind) more may is =
    let none : line_with spectrum_shape text ≡ None = ap (line_with spectrum_shape) is.1 in
    let other : line_with clean_shape text ≡ None =
    fails clean_shape text is.0 is.1 (word_fails known (codes "refused") (codes "clean")
    (a_number 0 greatest_line_number line ∷ a_kind kind ∷ []) [] no_tail is.0 refl refl is.2) in
    by_shape known need_sections refused_shape (are_shapes need_sections).1.1.0 (tt, (line, (kind, tt))) text is
    (λ it read. ap (λ o. or_else o (first_line (clean_shape ∷ refused_shape ∷ []) text)) none
    ∙ ap (λ o. or_else o (first_line (refused_shape ∷ []) text)) other ∙ ap (λ o. or_else o (first_line [] text)) read)
section_read known text whole more may is = absurd (none-some more may)

prices_read : Known → (text : List ℕ) (numbers : List ℤ) → Spells (prices_line numbers) text
    → IsRead need_cert text (prices_line numbers)
prices_read known text numbers is =
    let none : line_with table_shape text ≡ None = ap (line_with table_shape) is.1 in
    by_shape known need_cert prices_shape (are_shapes need_cert).1.0 numbers text is
    (λ it read. ap (λ o. or_else o (first_line (prices_shape ∷ split_shape 0 ∷ []) text)) none
    ∙ ap (λ o. or_else o (first_line (split_shape 0 ∷ []) text)) read)

-- the line of a split is read under as many splits as are told
split_read : Known → (text : List ℕ) (above colour : ℕ) (edges : List ℕ) (b : Bool) (more : List Need) → eqb above 0 ≡ b
    → cond b (Some (need_bound 1 ∷ need_bound 1 ∷ [])) None ≡ Some more → Spells (split_line above colour edges) text
    → IsRead need_cert text (split_line above colour edges)
split_read known text above colour edges false more told may is = absurd (none-some more may)
split_read known text above colour edges true more told may is =
    let none : line_with table_shape text ≡ None = ap (line_with table_shape) is.1 in
    let other : line_with prices_shape text ≡ None = ap (line_with prices_shape) is.1 in
    subst (λ n. IsRead need_cert text (split_line n colour edges)) (sym (eqb-true above 0 told))
    (by_shape known need_cert (split_shape 0) (are_shapes need_cert).1.1.0 (colour, edges) text is
    (λ it read. ap (λ o. or_else o (first_line (prices_shape ∷ split_shape 0 ∷ []) text)) none
    ∙ ap (λ o. or_else o (first_line (split_shape 0 ∷ []) text)) other ∙ ap (λ o. or_else o (first_line [] text)) read))

bound_split_read : Known → (text : List ℕ) (under above colour : ℕ) (edges : List ℕ) (b : Bool) (more : List Need)
    → eqb above under ≡ b
    → cond b (Some (need_bound (under + 1) ∷ need_bound (under + 1) ∷ [])) None ≡ Some more
    → Spells (split_line above colour edges) text
    → IsRead (need_bound under) text (split_line above colour edges)
bound_split_read known text under above colour edges false more told may is = absurd (none-some more may)
bound_split_read known text under above colour edges true more told may is =
    let other : line_with prices_shape text ≡ None = ap (line_with prices_shape) is.1 in
    subst (λ n. IsRead (need_bound under) text (split_line n colour edges)) (sym (eqb-true above under told))
    (by_shape known (need_bound under) (split_shape under) (are_shapes (need_bound under)).1.0 (colour, edges) text is
    (λ it read. ap (λ o. or_else o (first_line (split_shape under ∷ []) text)) other
    ∙ ap (λ o. or_else o (first_line [] text)) read))

pub line_complete : Known → (need : Need) (text : List ℕ) (whole : Line) (more : List Need)
    → follow need whole ≡ Some more → Spells whole text → IsRead need text whole
line_complete known need_document text header_line more may is =
    single known need_document header_shape (are_shapes need_document).0 (tt, tt) text is refl
line_complete known need_sections text whole more may is = section_read known text whole more may is
line_complete known need_body text (skip_line reason) more may is = skip_read known text reason is
line_complete known need_body text (lists_line count) more may is =
    by_shape known need_body lists_shape (are_shapes need_body).0 (count, tt) text is
    (λ it read. ap (λ o. or_else o (first_line (no_precursor_shape ∷ charge_shape ∷ range_shape ∷ too_many_shape
    ∷ []) text)) read)
line_complete known need_list text (list_line mz intensity count) more may is =
    single known need_list list_shape (are_shapes need_list).0 (mz, (intensity, (count, tt))) text is refl
line_complete known need_formula text (formula_line counts) more may is =
    single known need_formula formula_shape (are_shapes need_formula).0 (counts, tt) text is refl
line_complete known need_entries text (entries_line count) more may is =
    single known need_entries entries_shape (are_shapes need_entries).0 (count, tt) text is refl
line_complete known need_entry text (tree_line candidate error score upper mark count) more may is =
    by_shape known need_entry tree_shape (are_shapes need_entry).0
    (candidate, (error, (score, (upper, (mark, (count, tt)))))) text is
    (λ it read. ap (λ o. or_else o (first_line (too_large_shape ∷ []) text)) read)
line_complete known need_entry text (too_large_line candidate error vertices) more may is =
    by_shape known need_entry too_large_shape (are_shapes need_entry).1.0 (candidate, (error, (tt, (vertices, tt))))
    text is
    (λ it read. ap (λ o. or_else o (first_line (too_large_shape ∷ []) text))
    (tree_fails known candidate error vertices text is) ∙ ap (λ o. or_else o (first_line [] text)) read)
line_complete known need_row text (row_line it) more may is =
    single known need_row row_shape (are_shapes need_row).0 (
      it.edge,
      (it.parent, (it.peak, (it.formula, (it.loss, (it.weight, tt))))),
    ) text is refl
line_complete known need_cert text (table_line count) more may is =
    by_shape known need_cert table_shape (are_shapes need_cert).0 (count, tt) text is
    (λ it read. ap (λ o. or_else o (first_line (prices_shape ∷ split_shape 0 ∷ []) text)) read)
line_complete known need_cert text (prices_line numbers) more may is = prices_read known text numbers is
line_complete known need_cert text (split_line above colour edges) more may is =
    split_read known text above colour edges (eqb above 0) more refl may is
line_complete known (need_bound under) text (prices_line numbers) more may is =
    by_shape known (need_bound under) prices_shape (are_shapes (need_bound under)).0 numbers text is
    (λ it read. ap (λ o. or_else o (first_line (split_shape under ∷ []) text)) read)
line_complete known (need_bound under) text (split_line above colour edges) more may is =
    bound_split_read known text under above colour edges (eqb above under) more refl may is
line_complete known need_potentials text (potentials_line numbers) more may is =
    single known need_potentials potentials_shape (are_shapes need_potentials).0 numbers text is refl
line_complete known need_table_row text (table_row_line items) more may is =
    single known need_table_row table_row_shape (are_shapes need_table_row).0 items text is refl
line_complete known need_done text done_line more may is =
    single known need_done done_shape (are_shapes need_done).0 tt text is refl
line_complete known need text whole more may is = absurd (none-some more may)
