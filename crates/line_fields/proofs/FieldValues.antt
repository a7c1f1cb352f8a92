-- All fields of a line are read as they are written.
use Rattle.std.proofs.Common.{◌≡◌, ◌≤◌, ◌∙◌, ℕ, ℤ, pos, Bool, true, false, ◌&&◌, cond, List, [], ◌∷◌, ◌++◌, length, map}
use Rattle.std.proofs.Common.{Option, Some, None, eqb, leb, refl, sym, ap, subst, arith}
use Rattle.std.specs.List.{flat_map, list_all}
use Rattle.std.specs.Option.{option_and_then, option_map}
use Rattle.std.specs.Str.{bytes_eq}
use Rattle.std.proofs.lemmas.Bool.{and_parts, and_from, eqb-true, eqb-false, false≢true, ne_eqb}
use Rattle.std.proofs.lemmas.List.{append-nil, length-map}
use Rattle.std.proofs.lemmas.Option.{none-some, same_Some, some_pair_parts}
use Rattle.std.proofs.lemmas.Slice.Eq.{bytes_eq-Decides}
use Rattle.tree_document.specs.Title.{are_bytes, escaped}
use Rattle.tree_document.specs.Line.{Field, a_word, a_number, a_signed, a_formula, a_mark, a_kind, a_title}
use Rattle.tree_document.specs.Line.{some_numbers, WritesAll, WritesField, WritesFields, field_text, is_field_in_range}
use Rattle.tree_certificate.specs.Number.{is_near}
use Rattle.line_fields.specs.Field.{Kind, Of, OfTail, Tail, no_tail, title_tail, numbers_tail, naturals_tail}
use Rattle.line_fields.specs.Field.{Values, capped, field_of, fields_of, tail_fields, is_space, naturals_at}
use Rattle.line_fields.specs.Field.{numbers_at, tail_at, title_at, title_of, token_at, value_at, value_in}
use Rattle.line_fields.specs.Field.{values_at}
use Rattle.line_fields.proofs.Tokens.{IsRest, token_at-front, token_at-sound}
use Rattle.line_fields.proofs.FieldKinds.{Known, capped_of, capped_signed, from_token, in_complete, in_sound}
use Rattle.line_fields.proofs.FieldKinds.{is_good_kind, range_kept, to_token, token_no_space, token_text, value_kept}
use Rattle.line_fields.proofs.TokenLists.{WritesAll-rest}
use Rattle.line_fields.proofs.NumberLists.{naturals_capped, naturals_complete, naturals_kept, naturals_sound}
use Rattle.line_fields.proofs.NumberLists.{near_kept, numbers_complete, numbers_kept, numbers_sound, numbers_text}
use Rattle.line_fields.proofs.Titles.{title_again}

abbrev pub is_good_tail : Tail → Bool
is_good_tail no_tail = true
is_good_tail title_tail = true
is_good_tail (numbers_tail none count most) = leb most 1000000000000000000
is_good_tail (naturals_tail count most) = leb most 1000000000000000000

abbrev pub are_good : List Kind → Tail → Bool
are_good [] tail = is_good_tail tail
are_good (kind ∷ kinds) tail = is_good_kind kind && are_good kinds tail

abbrev pub capped_tail : (tail : Tail) → OfTail tail → OfTail tail
capped_tail no_tail value = value
capped_tail title_tail value = value
capped_tail (numbers_tail none count most) value = map capped_signed value
capped_tail (naturals_tail count most) value = map capped value

abbrev pub capped_values : (kinds : List Kind) (tail : Tail) → Values kinds tail → Values kinds tail
capped_values [] tail values = capped_tail tail values
capped_values (kind ∷ kinds) tail values = (capped_of kind values.0, capped_values kinds tail values.1)

-- a field is empty or begins with a space, and so what is written behind one
field_front : (field : Field) (text : List ℕ) → WritesField field text → IsRest text
field_front (a_word word) text is = subst IsRest (sym is) refl
field_front (a_number least most n) text is = subst IsRest (sym is.1) refl
field_front (a_signed most z) text is = subst IsRest (sym is.1) refl
field_front (a_formula counts) text is = subst IsRest (sym is.1) refl
field_front (a_mark mark) text is = subst IsRest (sym is) refl
field_front (a_kind number) text is = subst IsRest (sym is.2) refl
field_front (a_title title) text is = subst IsRest (sym is.1) refl
field_front (some_numbers least count most numbers) text is = WritesAll-rest numbers text is.1

both_rest : (front rest : List ℕ) → IsRest front → IsRest rest → IsRest (front ++ rest)
both_rest [] rest first later = later
both_rest (byte ∷ front) rest first later = first

pub fields_rest : (fields : List Field) (text : List ℕ) → WritesFields fields text → IsRest text
fields_rest [] text is = subst IsRest (sym is) tt
fields_rest (field ∷ fields) text is =
    subst IsRest (sym is.2) (both_rest is.0 is.1 (field_front field is.0 is.3) (fields_rest fields is.1 is.4))

-- the first field is read, and its rest left
pub value_complete : Known → (kind : Kind) (value : Of kind) (fields : List Field) (text : List ℕ)
    → is_good_kind kind ≡ true → WritesFields (field_of kind value ∷ fields) text
    → (rest : List ℕ) × (value_at kind text ≡ Some (capped_of kind value, rest)) × WritesFields fields rest
value_complete known kind value fields text good is =
    let parts = to_token kind value is.0 is.3 in
    let whole : text ≡ 32 ∷ (parts.0 ++ is.1) = is.2 ∙ ap (λ t. t ++ is.1) parts.1 in
    let taken : token_at text ≡ Some (parts.0, is.1) =
    ap token_at whole ∙ token_at-front parts.0 is.1 (token_no_space known kind value parts.0 good parts.2)
    (fields_rest fields is.1 is.4) in
    let read : value_at kind text ≡ Some (capped_of kind value, is.1) =
    ap (option_and_then (λ (both : List ℕ × List ℕ). option_map (λ v. (v, both.1)) (value_in kind both.0))) taken
    ∙ ap (option_map (λ v. (v, is.1))) (in_complete known kind value parts.0 parts.2) in
    (is.1, read, is.4)

pub value_sound : Known → (kind : Kind) (v : Of kind) (text rest : List ℕ) → value_at kind text ≡ Some (v, rest)
    → (value : Of kind) × (front : List ℕ) × (text ≡ front ++ rest) × WritesField (field_of kind value) front
    × (v ≡ capped_of kind value)
value_sound known kind v text rest read = step (token_at text) refl read
  where
    Result : Type 0
    Result = (value : Of kind) × (front : List ℕ) × (text ≡ front ++ rest) × WritesField (field_of kind value) front
        × (v ≡ capped_of kind value)

    inner : (token behind : List ℕ) (o : Option (Of kind)) → token_at text ≡ Some (token, behind)
        → value_in kind token ≡ o → option_map {U = Of kind × List ℕ} (λ x. (x, behind)) o ≡ Some (v, rest) → Result
    inner token behind None taken told read = (cc)
    inner token behind (Some x) taken told read =
        let same = some_pair_parts x v behind rest read in
        let sound = in_sound known kind token x told in
        let whole : text ≡ 32 ∷ (token ++ behind) = token_at-sound text token behind taken in (
          sound.0,
          32 ∷ token,
          whole ∙ ap (λ b. 32 ∷ (token ++ b)) same.1,
          from_token kind sound.0 token sound.1,
          sym
              same.0 ∙ sound.2,
        )

    step : (o : Option (List ℕ × List ℕ)) → token_at text ≡ o
        → option_and_then (λ (both : List ℕ × List ℕ). option_map {U = Of kind × List ℕ} (λ x. (x, both.1))
        (value_in kind both.0)) o ≡ Some (v, rest) → Result
    step None taken read = (cc)
    step (Some both) taken read = inner both.0 both.1 (value_in kind both.0) taken refl read

same_text : (text : List ℕ) → bytes_eq text text ≡ true
same_text text = (bytes_eq-Decides text text).1 refl

tail_complete : (tail : Tail) (value : OfTail tail) (text : List ℕ) → WritesFields (tail_fields tail value) text
    → tail_at tail text ≡ Some (capped_tail tail value)
tail_complete no_tail value text is = rw is refl
tail_complete title_tail value text is =
    let whole : text ≡ 32 ∷ escaped value = is.2 ∙ ap (λ t. is.0 ++ t) is.4 ∙ append-nil is.0 ∙ is.3.1 in
    let again : title_of (escaped value) ≡ value = title_again value is.3.0 in
    let good : (are_bytes (title_of (escaped value)) && bytes_eq (escaped (title_of (escaped value))) (escaped value))
    ≡ true =
    and_from _ _ (ap are_bytes again ∙ is.3.0) (ap (λ t. bytes_eq (escaped t) (escaped value)) again
    ∙ same_text (escaped value)) in
    ap title_at whole ∙ ap (λ b. cond b (Some (title_of (escaped value))) None) good ∙ ap Some again
tail_complete (numbers_tail true count most) value text is =
    let whole : text ≡ is.0 = is.2 ∙ ap (λ t. is.0 ++ t) is.4 ∙ append-nil is.0 in
    ap numbers_at whole ∙ numbers_complete value is.0 is.3.1
tail_complete (numbers_tail false count most) value text is =
    let whole : text ≡ is.0 = is.2 ∙ ap (λ t. is.0 ++ t) is.4 ∙ append-nil is.0 in
    let some : eqb (length text) 0 ≡ false = at_least value is.0 is.3.0 is.3.1 whole in
    let read : numbers_at text ≡ Some (map capped_signed value) =
    ap numbers_at whole ∙ numbers_complete value is.0 is.3.1 in
    rw some read
  where
    at_least : (zs : List ℤ) (front : List ℕ) → 1 ≤ length zs → WritesAll zs front → text ≡ front
        → eqb (length text) 0 ≡ false
    at_least [] front one writes same = absurd (omega arith)
    at_least (z ∷ zs) front one writes same =
        ne_eqb (length text) 0 (λ none. let long : length text ≡ length (32 ∷ (writes.0 ++ writes.1)) =
        ap length (same ∙ writes.2) in omega arith)
tail_complete (naturals_tail count most) value text is =
    let whole : text ≡ is.0 = is.2 ∙ ap (λ t. is.0 ++ t) is.4 ∙ append-nil is.0 in
    ap naturals_at whole ∙ naturals_complete value is.0 is.3.0 is.3.1

pub complete : Known → (kinds : List Kind) (tail : Tail) (values : Values kinds tail) (text : List ℕ)
    → are_good kinds tail ≡ true → WritesFields (fields_of kinds tail values) text
    → values_at kinds tail text ≡ Some (capped_values kinds tail values)
complete known [] tail values text good is = tail_complete tail values text is
complete known (kind ∷ kinds) tail values text good is =
    let parts = and_parts (is_good_kind kind) (are_good kinds tail) good in
    let first = value_complete known kind values.0 (fields_of kinds tail values.1) text parts.0 is in
    let others : values_at kinds tail first.0 ≡ Some (capped_values kinds tail values.1) =
    complete known kinds tail values.1 first.0 parts.1 first.2 in
    ap (option_and_then (λ (value : Of kind × List ℕ). option_map (λ (vs : Values kinds tail). (value.0, vs))
    (values_at kinds tail value.1))) first.1
    ∙ ap (option_map (λ (vs : Values kinds tail). (capped_of kind values.0, vs))) others

abbrev pub TakesAll : (kinds : List Kind) (tail : Tail) → List ℕ → Values kinds tail → Type 0
TakesAll kinds tail text vs =
    (values : Values kinds tail) × WritesFields (fields_of kinds tail values) text
    × (vs ≡ capped_values kinds tail values)

title_sound : (byte : ℕ) (rest vs : List ℕ) (a b c : Bool) → is_space byte ≡ a → are_bytes (title_of rest) ≡ b
    → bytes_eq (escaped (title_of rest)) rest ≡ c
    → cond (a && (b && c)) (Some (title_of rest)) None ≡ Some vs → TakesAll [] title_tail (byte ∷ rest) vs
title_sound byte rest vs false b c space bytes same read = (cc)
title_sound byte rest vs true false c space bytes same read = (cc)
title_sound byte rest vs true true false space bytes same read = (cc)
title_sound byte rest vs true true true space bytes same read =
    let is : title_of rest ≡ vs = (cc) in
    let first : byte ≡ 32 = eqb-true byte 32 space in
    let spelled : escaped (title_of rest) ≡ rest = (bytes_eq-Decides (escaped (title_of rest)) rest).0 same in (
      title_of rest,
      (byte ∷ rest, [], sym (append-nil (byte ∷ rest)), (bytes, λ i. first i ∷ sym spelled i), refl),
      sym
          is,
    )

numbers_tail_sound : (count most : ℕ) (text : List ℕ) (vs : List ℤ) (b : Bool) → eqb (length text) 0 ≡ b
    → cond b None (numbers_at text) ≡ Some vs → TakesAll [] (numbers_tail false count most) text vs
numbers_tail_sound count most text vs true empty read = (cc)
numbers_tail_sound count most text vs false some read =
    let found = numbers_sound text vs read in
    (found.0, (text, [], sym (append-nil text), (at_least found.0 text some found.1, found.1), refl), found.2)
  where
    at_least : (zs : List ℤ) (text : List ℕ) → eqb (length text) 0 ≡ false → WritesAll zs text → 1 ≤ length zs
    at_least [] text some writes = absurd (eqb-false (length text) 0 some (ap length writes))
    at_least (z ∷ zs) text some writes = omega arith

tail_sound : (tail : Tail) (text : List ℕ) (vs : OfTail tail) → tail_at tail text ≡ Some vs → TakesAll [] tail text vs
tail_sound no_tail [] vs read = (tt, refl, refl)
tail_sound no_tail (byte ∷ text) vs read =
    none (eqb (length (byte ∷ text)) 0) (ne_eqb (length (byte ∷ text)) 0 (λ e. omega arith)) read
  where
    none : (b : Bool) → b ≡ false → cond {A = Option (Unit {0})} b (Some tt) None ≡ Some vs
        → TakesAll [] no_tail (byte ∷ text) vs
    none true is read = absurd (false≢true (sym is))
    none false is read = absurd (none-some vs read)
tail_sound title_tail [] vs read = (cc)
tail_sound title_tail (byte ∷ rest) vs read =
    title_sound byte rest vs (is_space byte) (are_bytes (title_of rest)) (bytes_eq (escaped (title_of rest)) rest) refl
    refl refl read
tail_sound (numbers_tail true count most) text vs read =
    let found = numbers_sound text vs read in
    (found.0, (text, [], sym (append-nil text), (omega arith, found.1), refl), found.2)
tail_sound (numbers_tail false count most) text vs read =
    numbers_tail_sound count most text vs (eqb (length text) 0) refl read
tail_sound (naturals_tail count most) text vs read =
    let found = naturals_sound text vs read in
    (found.0, (text, [], sym (append-nil text), (found.1, found.2), refl), found.3)

pub sound : Known → (kinds : List Kind) (tail : Tail) (text : List ℕ) (vs : Values kinds tail)
    → values_at kinds tail text ≡ Some vs → TakesAll kinds tail text vs
sound known [] tail text vs read = tail_sound tail text vs read
sound known (kind ∷ kinds) tail text vs read =
    step (value_at kind text) refl (λ rest others is. sound known kinds tail rest others is) read
  where
    inner : (v : Of kind) (rest : List ℕ) (o : Option (Values kinds tail)) → value_at kind text ≡ Some (v, rest)
        → values_at kinds tail rest ≡ o
        → ((others : Values kinds tail) → values_at kinds tail rest ≡ Some others → TakesAll kinds tail rest others)
        → option_map (λ (more : Values kinds tail). (v, more)) o ≡ Some vs → TakesAll (kind ∷ kinds) tail text vs
    inner v rest None first told later read = (cc)
    inner v rest (Some others) first told later read =
        let front = value_sound known kind v text rest first in
        let behind = later others told in
        let is : (v, others) ≡ vs = same_Some (v, others) vs read in
        ((front.0, behind.0), (front.1, rest, front.2, front.3, behind.1), sym is ∙ (λ i. (front.4 i, behind.2 i)))

    step : (o : Option (Of kind × List ℕ)) → value_at kind text ≡ o
        → ((rest : List ℕ) (others : Values kinds tail) → values_at kinds tail rest ≡ Some others
        → TakesAll kinds tail rest others)
        → option_and_then (λ (value : Of kind × List ℕ). option_map (λ (more : Values kinds tail). (value.0, more))
        (values_at kinds tail value.1)) o ≡ Some vs → TakesAll (kind ∷ kinds) tail text vs
    step None first later read = (cc)
    step (Some both) first later read = inner both.0 both.1 (values_at kinds tail both.1) first refl (later both.1) read

-- the numbers are in their ranges exactly where what is read for them is
abbrev pub are_in_range : List Field → Bool
are_in_range fields = list_all is_field_in_range fields

pub ranges_kept : (kinds : List Kind) (tail : Tail) (values : Values kinds tail) → are_good kinds tail ≡ true
    → are_in_range (fields_of kinds tail (capped_values kinds tail values)) ≡ are_in_range (fields_of kinds tail values)
ranges_kept [] no_tail values good = refl
ranges_kept [] title_tail values good = refl
ranges_kept [] (numbers_tail none count most) values good =
    let many : length (map capped_signed values) ≡ length values = length-map values capped_signed in
    λ i. (leb (many i) count && near_kept most values good i) && true
ranges_kept [] (naturals_tail count most) values good =
    let numbers : List ℤ = map (λ n. pos n) values in
    let same : map (λ n. pos n) (map capped values) ≡ map capped_signed numbers = naturals_capped values in
    let many : length (map (λ n. pos n) (map capped values)) ≡ length numbers =
    ap length same ∙ length-map numbers capped_signed in
    let near : list_all (is_near most) (map (λ n. pos n) (map capped values)) ≡ list_all (is_near most) numbers =
    ap (list_all (is_near most)) same ∙ near_kept most numbers good in
    λ i. (leb (many i) count && near i) && true
ranges_kept (kind ∷ kinds) tail values good =
    let parts = and_parts (is_good_kind kind) (are_good kinds tail) good in
    λ i. range_kept kind values.0 parts.0 i && ranges_kept kinds tail values.1 parts.1 i

in_range_parts : (count most : ℕ) (numbers : List ℤ) → ((leb (length numbers) count && list_all (is_near most) numbers)
    && true) ≡ true → list_all (is_near most) numbers ≡ true
in_range_parts count most numbers near = (and_parts (leb (length numbers) count) (list_all (is_near most) numbers)
    (and_parts (leb (length numbers) count && list_all (is_near most) numbers) true near).0).1

-- and then they are the numbers themselves
pub values_kept : (kinds : List Kind) (tail : Tail) (values : Values kinds tail) → are_good kinds tail ≡ true
    → are_in_range (fields_of kinds tail values) ≡ true → capped_values kinds tail values ≡ values
values_kept [] no_tail values good near = refl
values_kept [] title_tail values good near = refl
values_kept [] (numbers_tail none count most) values good near =
    numbers_kept most values good (in_range_parts count most values near)
values_kept [] (naturals_tail count most) values good near =
    naturals_kept most values good (in_range_parts count most (map (λ n. pos n) values) near)
values_kept (kind ∷ kinds) tail values good near =
    let parts = and_parts (is_good_kind kind) (are_good kinds tail) good in
    let ranges = and_parts (is_field_in_range (field_of kind values.0)) (are_in_range (fields_of kinds tail values.1))
    near in
    λ i. (value_kept kind values.0 parts.0 ranges.0 i, values_kept kinds tail values.1 parts.1 ranges.1 i)

tail_text : (tail : Tail) (value : OfTail tail) (text : List ℕ) → is_good_tail tail ≡ true
    → are_in_range (tail_fields tail value) ≡ true → WritesFields (tail_fields tail value) text
    → text ≡ flat_map field_text (tail_fields tail value)
tail_text no_tail value text good near is = is
tail_text title_tail value text good near is = is.2 ∙ (λ i. is.3.1 i ++ is.4 i)
tail_text (numbers_tail none count most) value text good near is =
    let front = numbers_text most value is.0 good (in_range_parts count most value near) is.3.1 in
    is.2 ∙ (λ i. front i ++ is.4 i)
tail_text (naturals_tail count most) value text good near is =
    let front = numbers_text most (map (λ n. pos n) value) is.0 good
    (in_range_parts count most (map (λ n. pos n) value) near) is.3.1 in
    is.2 ∙ (λ i. front i ++ is.4 i)

-- and their spelling is the one
pub values_text : (kinds : List Kind) (tail : Tail) (values : Values kinds tail) (text : List ℕ)
    → are_good kinds tail ≡ true → are_in_range (fields_of kinds tail values) ≡ true
    → WritesFields (fields_of kinds tail values) text → text ≡ flat_map field_text (fields_of kinds tail values)
values_text [] tail values text good near is = tail_text tail values text good near is
values_text (kind ∷ kinds) tail values text good near is =
    let parts = and_parts (is_good_kind kind) (are_good kinds tail) good in
    let ranges = and_parts (is_field_in_range (field_of kind values.0)) (are_in_range (fields_of kinds tail values.1))
    near in
    let token = to_token kind values.0 is.0 is.3 in
    let front : is.0 ≡ field_text (field_of kind values.0) =
    token.1 ∙ token_text kind values.0 token.0 parts.0 ranges.0 token.2 in
    let later = values_text kinds tail values.1 is.1 parts.1 ranges.1 is.4 in
    is.2 ∙ (λ i. front i ++ later i)
