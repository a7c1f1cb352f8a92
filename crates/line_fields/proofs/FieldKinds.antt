-- Each kind of field is read as it is written.
use Rattle.std.proofs.Common.{◌≡◌, ◌<◌, ◌≤◌, ◌∙◌, ℕ, zero, suc, ℤ, pos, negsuc, neg_ℤ, Bool, true, false, not, ◌&&◌}
use Rattle.std.proofs.Common.{cond, List, [], ◌∷◌, length, get_or, Option, Some, None, Result, Ok, Err, eqb, leb}
use Rattle.std.proofs.Common.{decimal, refl, sym, ap, subst, arith, rules}
use Rattle.std.specs.Prelude.{codes, unsigned_abs}
use Rattle.std.specs.Char.{is_ascii_digit}
use Rattle.std.specs.Fmt.{signed_decimal}
use Rattle.std.specs.List.{All, AllByRecursion, list_all}
use Rattle.std.specs.Option.{option_map}
use Rattle.std.specs.Str.{all_ascii_digits, bytes_eq}
use Rattle.std.specs.Str.Parse.{digits_value}
use Rattle.std.proofs.lemmas.Bool.{and_parts, and_from, eqb-true, eqb-false, le-leb, leb-true, leb-false, lt-leb}
use Rattle.std.proofs.lemmas.Bool.{false≢true, ne_eqb, not-true, not_from_false}
use Rattle.std.proofs.lemmas.Fmt.{decimal-digits_value}
use Rattle.std.proofs.lemmas.Str.Parse.{IsNumeralModel, numerals_by_value}
use Rattle.std.proofs.lemmas.List.Elements.{recursion_from_All}
use Rattle.std.proofs.lemmas.Slice.Eq.{bytes_eq-Decides}
use Rattle.element_table.specs.Formula.{IsFormula}
use Rattle.element_table.specs.FormulaReading.{formula_of}
use Rattle.element_table.specs.FormulaText.{formula_text}
use Rattle.element_table.specs.declared.reading.FormulaFault.{FormulaFault}
use Rattle.mgf_reader.specs.Fault.{kind_number, kind_of_number, kind_of_text, kind_text}
use Rattle.mgf_reader.specs.declared.fault.MgfKind.{MgfKind}
use Rattle.mgf_reader.specs.declared.fault.MgfKind.TheVariants.{NestedBegin, StrayEnd, OpenBlock, PeakOutside, BadPeak}
use Rattle.mgf_reader.specs.declared.fault.MgfKind.TheVariants.{BadPrecursor, BadCharge, NoForm, LineTooLong}
use Rattle.mgf_reader.specs.declared.fault.MgfKind.TheVariants.{TooManyPeaks}
use Rattle.tree_document.specs.declared.entry.Mark.{Mark}
use Rattle.tree_document.specs.declared.entry.Mark.TheVariants.{Optimal, Gap}
use Rattle.tree_document.specs.Line.{WritesField, WritesNumber, WritesSigned, field_text, is_field_in_range, is_number}
use Rattle.tree_document.specs.Line.{mark_text, word_of}
use Rattle.tree_certificate.specs.Number.{is_near}
use Rattle.line_fields.specs.Field.{Kind, word_kind, number_kind, signed_kind, formula_kind, mark_kind}
use Rattle.line_fields.specs.Field.{kind_kind, Of, field_of, value_in, capped, is_space, number_in, signed_in}
use Rattle.line_fields.specs.Field.{spelled_formula, mark_in, kind_in}
use Rattle.line_fields.proofs.Tokens.{NoSpace}

-- what is known of formulas and their spellings, and of the kinds of a refusal
pub record Known : Type 0 where
  pub undone : (counts : List ℕ) → IsFormula counts → formula_of (formula_text counts) ≡ Ok counts
  pub read : (text counts : List ℕ) → formula_of text ≡ Ok counts → IsFormula counts
  pub visible : (counts : List ℕ) → IsFormula counts → All (λ byte. (32 < byte) × (byte < 127)) (formula_text counts)
  pub numbered : (number : ℕ) (kind : MgfKind) → kind_of_number number ≡ Some kind → kind_number kind ≡ number
  pub number : (kind : MgfKind) → kind_of_number (kind_number kind) ≡ Some kind
  pub text : (kind : MgfKind) → kind_of_text (kind_text kind) ≡ Some kind
  pub spelled : (text : List ℕ) (kind : MgfKind) → kind_of_text text ≡ Some kind → kind_text kind ≡ text

-- a text is a spelling of a value, the space before it left out
abbrev pub IsToken : (kind : Kind) → Of kind → List ℕ → Type 0
IsToken (word_kind word) value token = token ≡ word
IsToken (number_kind least most) value token = WritesNumber value token
IsToken (signed_kind most) value token = WritesSigned value token
IsToken formula_kind value token = IsFormula value × (token ≡ formula_text value)
IsToken mark_kind value token = token ≡ mark_text value
IsToken kind_kind value token = (kind : MgfKind) × (kind_of_number value ≡ Some kind) × (token ≡ kind_text kind)

pub to_token : (kind : Kind) (value : Of kind) (text : List ℕ) → WritesField (field_of kind value) text
    → (token : List ℕ) × (text ≡ 32 ∷ token) × IsToken kind value token
to_token (word_kind word) value text is = (word, is, refl)
to_token (number_kind least most) value text is = (is.0, is.1, is.2)
to_token (signed_kind most) value text is = (is.0, is.1, is.2)
to_token formula_kind value text is = (formula_text value, is.1, (is.0, refl))
to_token mark_kind value text is = (mark_text value, is, refl)
to_token kind_kind value text is = (kind_text is.0, is.2, (is.0, is.1, refl))

pub from_token : (kind : Kind) (value : Of kind) (token : List ℕ) → IsToken kind value token
    → WritesField (field_of kind value) (32 ∷ token)
from_token (word_kind word) value token is = ap (λ t. 32 ∷ t) is
from_token (number_kind least most) value token is = (token, refl, is)
from_token (signed_kind most) value token is = (token, refl, is)
from_token formula_kind value token is = (is.0, ap (λ t. 32 ∷ t) is.1)
from_token mark_kind value token is = ap (λ t. 32 ∷ t) is
from_token kind_kind value token is = (is.0, is.1, ap (λ t. 32 ∷ t) is.2)

digits_no_space : (digits : List ℕ) → all_ascii_digits digits ≡ true → NoSpace digits
digits_no_space [] all = refl
digits_no_space (digit ∷ digits) all =
    let parts = and_parts (is_ascii_digit digit) (all_ascii_digits digits) all in
    let low : 48 ≤ digit = leb-true 48 digit (and_parts (leb 48 digit) (leb digit 57) parts.0).0 in
    and_from _ _ (not_from_false _ (ne_eqb digit 32 (λ same. omega arith))) (digits_no_space digits parts.1)

pub number_digits : (token : List ℕ) → is_number token ≡ true → all_ascii_digits token ≡ true
number_digits [] is = (cc)
number_digits (digit ∷ []) is = and_from _ _ is refl
number_digits (digit ∷ next ∷ digits) is = (and_parts (not (eqb digit 48)) (all_ascii_digits (digit ∷ next ∷ digits))
    is).1

number_no_space : (token : List ℕ) → is_number token ≡ true → NoSpace token
number_no_space token is = digits_no_space token (number_digits token is)

visible_no_space : (token : List ℕ) → AllByRecursion (λ byte. (32 < byte) × (byte < 127)) token → NoSpace token
visible_no_space [] all = refl
visible_no_space (byte ∷ token) all =
    let above : 32 < byte = all.0.0 in
    and_from _ _ (not_from_false _ (ne_eqb byte 32 (λ same. omega arith))) (visible_no_space token all.1)

kind_no_space : (kind : MgfKind) → NoSpace (kind_text kind)
kind_no_space NestedBegin = refl
kind_no_space StrayEnd = refl
kind_no_space OpenBlock = refl
kind_no_space PeakOutside = refl
kind_no_space BadPeak = refl
kind_no_space BadPrecursor = refl
kind_no_space BadCharge = refl
kind_no_space NoForm = refl
kind_no_space LineTooLong = refl
kind_no_space TooManyPeaks = refl

mark_no_space : (mark : Mark) → NoSpace (mark_text mark)
mark_no_space Optimal = refl
mark_no_space Gap = refl

pub signed_no_space : (value : ℤ) (token : List ℕ) → WritesSigned value token → NoSpace token
signed_no_space (pos n) token is = number_no_space token is.0
signed_no_space (negsuc n) token is =
    ap (λ t. list_all (λ byte. not (is_space byte)) t) is.1 ∙ number_no_space is.0 is.2.0

-- a word of a form holds no space, and a range ends before the number that no field may have
abbrev pub is_good_kind : Kind → Bool
is_good_kind (word_kind word) = list_all (λ byte. not (is_space byte)) word
is_good_kind (number_kind least most) = leb least 1000000000000000000 && leb most 1000000000000000000
is_good_kind (signed_kind most) = leb most 1000000000000000000
is_good_kind kind = true

pub token_no_space : Known → (kind : Kind) (value : Of kind) (token : List ℕ) → is_good_kind kind ≡ true
    → IsToken kind value token → NoSpace token
token_no_space laws (word_kind word) value token good is = ap (λ t. list_all (λ byte. not (is_space byte)) t) is ∙ good
token_no_space laws (number_kind least most) value token good is = number_no_space token is.0
token_no_space laws (signed_kind most) value token good is = signed_no_space value token is
token_no_space laws formula_kind value token good is =
    ap (λ t. list_all (λ byte. not (is_space byte)) t) is.1 ∙ visible_no_space (formula_text value)
    (recursion_from_All _ (formula_text value) (laws.visible value is.0))
token_no_space laws mark_kind value token good is =
    ap (λ t. list_all (λ byte. not (is_space byte)) t) is ∙ mark_no_space value
token_no_space laws kind_kind value token good is =
    ap (λ t. list_all (λ byte. not (is_space byte)) t) is.2 ∙ kind_no_space is.0

-- a number that no field may have is read as the least of them
abbrev pub capped_signed : ℤ → ℤ
capped_signed (pos n) = pos (capped n)
capped_signed (negsuc n) = neg_ℤ (pos (capped (suc n)))

abbrev pub capped_of : (kind : Kind) → Of kind → Of kind
capped_of (number_kind least most) value = capped value
capped_of (signed_kind most) value = capped_signed value
capped_of (word_kind word) value = value
capped_of formula_kind value = value
capped_of mark_kind value = value
capped_of kind_kind value = value

same_bytes : (bytes : List ℕ) → bytes_eq bytes bytes ≡ true
same_bytes bytes = (bytes_eq-Decides bytes bytes).1 refl

-- what is written is read
pub number_complete : (n : ℕ) (token : List ℕ) → WritesNumber n token → number_in token ≡ Some (capped n)
number_complete n token is = rw is.0 (ap (λ m. Some (capped m)) is.1)

minus_is_no_digit : (digits : List ℕ) → is_number (45 ∷ digits) ≡ false
minus_is_no_digit [] = refl
minus_is_no_digit (digit ∷ digits) = refl

not_minus : (byte : ℕ) (digits : List ℕ) → is_number (byte ∷ digits) ≡ true → eqb byte 45 ≡ false
not_minus byte digits is = ne_eqb byte 45 (λ same. false≢true
    (sym (minus_is_no_digit digits) ∙ ap (λ b. is_number (b ∷ digits)) (sym same) ∙ is))

pub signed_complete : (z : ℤ) (token : List ℕ) → WritesSigned z token → signed_in token ≡ Some (capped_signed z)
signed_complete (pos n) [] is = absurd (false≢true is.0)
signed_complete (pos n) (byte ∷ digits) is =
    rw (not_minus byte digits is.0) (ap (option_map (λ number. pos number)) (number_complete n (byte ∷ digits) is))
signed_complete (negsuc n) token is =
    let some : eqb (digits_value 10 is.0) 0 ≡ false = ne_eqb _ 0 (λ none. omega (arith, is.2.1)) in
    ap signed_in is.1 ∙ rw (is.2.0, some) (ap (λ m. Some (neg_ℤ (pos (capped m)))) is.2.1)

pub in_complete : Known → (kind : Kind) (value : Of kind) (token : List ℕ) → IsToken kind value token
    → value_in kind token ≡ Some (capped_of kind value)
in_complete laws (word_kind word) value token is = rw is (rw (same_bytes word) refl)
in_complete laws (number_kind least most) value token is = number_complete value token is
in_complete laws (signed_kind most) value token is = signed_complete value token is
in_complete laws formula_kind value token is = rw is.1 (rw (laws.undone value is.0)
    (rw (same_bytes (formula_text value)) refl))
in_complete laws mark_kind Optimal token is = ap mark_in is
in_complete laws mark_kind Gap token is = ap mark_in is
in_complete laws kind_kind value token is =
    ap kind_in is.2 ∙ ap (option_map kind_number) (laws.text is.0) ∙ ap Some (laws.numbered value is.0 is.1)

-- what is read is written
abbrev pub Sound : (kind : Kind) → List ℕ → Of kind → Type 0
Sound kind token v = (value : Of kind) × IsToken kind value token × (v ≡ capped_of kind value)

pub number_sound : (token : List ℕ) (v : ℕ) (b : Bool) → is_number token ≡ b
    → cond b (Some (capped (digits_value 10 token))) None ≡ Some v → (n : ℕ) × WritesNumber n token × (v ≡ capped n)
number_sound token v true good read = (digits_value 10 token, (good, refl), cc)
number_sound token v false bad read = (cc)

positive_sound : (token : List ℕ) (v : ℤ) (o : Option ℕ) → number_in token ≡ o
    → option_map (λ number. pos number) o ≡ Some v → (z : ℤ) × WritesSigned z token × (v ≡ capped_signed z)
positive_sound token v None told read = (cc)
positive_sound token v (Some m) told read =
    let sound = number_sound token m (is_number token) refl told in
    let same : pos m ≡ v = (cc) in
    (pos sound.0, sound.1, sym same ∙ ap (λ n. pos n) sound.2)

negative_sound : (digits : List ℕ) (v : ℤ) (n : ℕ) (b c : Bool) → is_number digits ≡ b → digits_value 10 digits ≡ n
    → eqb n 0 ≡ c
    → cond (b && not c) (Some (neg_ℤ (pos (capped n)))) None ≡ Some v
    → (z : ℤ) × WritesSigned z (45 ∷ digits) × (v ≡ capped_signed z)
negative_sound digits v n false c good value none read = (cc)
negative_sound digits v n true true good value none read = (cc)
negative_sound digits v zero true false good value none read = (cc)
negative_sound digits v (suc n) true false good value none read =
    let same : neg_ℤ (pos (capped (suc n))) ≡ v = (cc) in
    (negsuc n, (digits, refl, (good, value)), sym same)

pub signed_sound : (token : List ℕ) (v : ℤ) → signed_in token ≡ Some v
    → (z : ℤ) × WritesSigned z token × (v ≡ capped_signed z)
signed_sound [] v read = (cc)
signed_sound (byte ∷ digits) v read = step (eqb byte 45) refl read
  where
    step : (b : Bool) → eqb byte 45 ≡ b
        → cond b (cond (is_number digits && not (eqb (digits_value 10 digits) 0))
        (Some (neg_ℤ (pos (capped (digits_value 10 digits))))) None)
        (option_map (λ number. pos number) (number_in (byte ∷ digits))) ≡ Some v
        → (z : ℤ) × WritesSigned z (byte ∷ digits) × (v ≡ capped_signed z)
    step true minus read =
        let sound = negative_sound digits v (digits_value 10 digits) (is_number digits) (eqb (digits_value 10 digits) 0)
        refl refl refl read in
        let first : byte ≡ 45 = eqb-true byte 45 minus in
        (sound.0, subst (λ b. WritesSigned sound.0 (b ∷ digits)) (sym first) sound.1, sound.2)
    step false other read = positive_sound (byte ∷ digits) v (number_in (byte ∷ digits)) refl read

formula_sound : Known → (token v : List ℕ) (r : Result (List ℕ) FormulaFault) → formula_of token ≡ r
    → spelled_formula token r ≡ Some v → Sound formula_kind token v
formula_sound laws token v (Err fault) told read = (cc)
formula_sound laws token v (Ok counts) told read = step (bytes_eq (formula_text counts) token) refl read
  where
    step : (b : Bool) → bytes_eq (formula_text counts) token ≡ b → cond b (Some counts) None ≡ Some v
        → Sound formula_kind token v
    step true same read =
        let is : counts ≡ v = (cc) in
        (counts, (laws.read token counts told, sym ((bytes_eq-Decides (formula_text counts) token).0 same)), sym is)
    step false other read = (cc)

mark_sound : (token : List ℕ) (v : Mark) (a b : Bool) → bytes_eq token (codes "optimal") ≡ a
    → bytes_eq token (codes "gap") ≡ b
    → cond a (Some Optimal) (cond b (Some Gap) None) ≡ Some v → Sound mark_kind token v
mark_sound token v true b first second read = let is : Optimal ≡ v =
    (cc) in (Optimal, (bytes_eq-Decides token (codes "optimal")).0 first, sym is)
mark_sound token v false true first second read = let is : Gap ≡ v =
    (cc) in (Gap, (bytes_eq-Decides token (codes "gap")).0 second, sym is)
mark_sound token v false false first second read = (cc)

kind_sound : Known → (token : List ℕ) (v : ℕ) (o : Option MgfKind) → kind_of_text token ≡ o
    → option_map kind_number o ≡ Some v → Sound kind_kind token v
kind_sound laws token v None told read = (cc)
kind_sound laws token v (Some kind) told read =
    let is : kind_number kind ≡ v = (cc) in
    (kind_number kind, (kind, laws.number kind, sym (laws.spelled token kind told)), sym is)

word_sound : (word token : List ℕ) (v : Unit {0}) (b : Bool) → bytes_eq token word ≡ b
    → cond {A = Option (Unit {0})} b (Some tt) None ≡ Some v → Sound (word_kind word) token v
word_sound word token v true same read = (tt, (bytes_eq-Decides token word).0 same, refl)
word_sound word token v false other read = (cc)

pub in_sound : Known → (kind : Kind) (token : List ℕ) (v : Of kind) → value_in kind token ≡ Some v → Sound kind token v
in_sound laws (word_kind word) token v read = word_sound word token v (bytes_eq token word) refl read
in_sound laws (number_kind least most) token v read = number_sound token v (is_number token) refl read
in_sound laws (signed_kind most) token v read = signed_sound token v read
in_sound laws formula_kind token v read = formula_sound laws token v (formula_of token) refl read
in_sound laws mark_kind token v read =
    mark_sound token v (bytes_eq token (codes "optimal")) (bytes_eq token (codes "gap")) refl refl read
in_sound laws kind_kind token v read = kind_sound laws token v (kind_of_text token) refl read

-- a number is in its range exactly where what is read for it is
leb_capped : (n most : ℕ) → leb most 1000000000000000000 ≡ true → leb (capped n) most ≡ leb n most
leb_capped n most small = let below : most ≤ 1000000000000000000 =
    leb-true most 1000000000000000000 small in same (leb n most) refl
  where
    same : (b : Bool) → leb n most ≡ b → leb (capped n) most ≡ b
    same true is = let le : n ≤ most = leb-true n most is in le-leb (capped n) most (omega arith)
    same false is = let above : most < n = leb-false n most is in let below : most ≤ 1000000000000000000 =
        leb-true most 1000000000000000000 small in lt-leb (capped n) most (omega arith)

leb_of_capped : (least n : ℕ) → leb least 1000000000000000000 ≡ true → leb least (capped n) ≡ leb least n
leb_of_capped least n small = same (leb least n) refl
  where
    same : (b : Bool) → leb least n ≡ b → leb least (capped n) ≡ b
    same true is = let le : least ≤ n = leb-true least n is in let below : least ≤ 1000000000000000000 =
        leb-true least 1000000000000000000 small in le-leb least (capped n) (omega arith)
    same false is = let above : n < least = leb-false least n is in lt-leb least (capped n) (omega arith)

unsigned_abs-neg : (n : ℕ) → unsigned_abs (neg_ℤ (pos n)) ≡ n
unsigned_abs-neg zero = refl
unsigned_abs-neg (suc n) = refl

unsigned_abs-capped : (z : ℤ) → unsigned_abs (capped_signed z) ≡ capped (unsigned_abs z)
unsigned_abs-capped (pos n) = refl
unsigned_abs-capped (negsuc n) = unsigned_abs-neg (capped (suc n))

pub near_capped : (most : ℕ) (z : ℤ) → leb most 1000000000000000000 ≡ true
    → is_near most (capped_signed z) ≡ is_near most z
near_capped most z small = ap (λ n. leb n most) (unsigned_abs-capped z) ∙ leb_capped (unsigned_abs z) most small

pub range_kept : (kind : Kind) (value : Of kind) → is_good_kind kind ≡ true
    → is_field_in_range (field_of kind (capped_of kind value)) ≡ is_field_in_range (field_of kind value)
range_kept (word_kind word) value good = refl
range_kept (number_kind least most) value good =
    let parts = and_parts _ _ good in
    λ i. leb_of_capped least value parts.0 i && leb_capped value most parts.1 i
range_kept (signed_kind most) value good = near_capped most value good
range_kept formula_kind value good = refl
range_kept mark_kind value good = refl
range_kept kind_kind value good = refl

pub capped_below : (n most : ℕ) → leb most 1000000000000000000 ≡ true → leb n most ≡ true → capped n ≡ n
capped_below n most small is =
    let le : n ≤ most = leb-true n most is in
    let below : most ≤ 1000000000000000000 = leb-true most 1000000000000000000 small in
    omega arith

pub signed_below : (most : ℕ) (z : ℤ) → leb most 1000000000000000000 ≡ true → is_near most z ≡ true
    → capped_signed z ≡ z
signed_below most (pos n) small is = ap (λ m. pos m) (capped_below n most small is)
signed_below most (negsuc n) small is = ap (λ m. neg_ℤ (pos m)) (capped_below (suc n) most small is)

-- and then it is the number itself
pub value_kept : (kind : Kind) (value : Of kind) → is_good_kind kind ≡ true
    → is_field_in_range (field_of kind value) ≡ true → capped_of kind value ≡ value
value_kept (word_kind word) value good is = refl
value_kept (number_kind least most) value good is = capped_below value most (and_parts _ _ good).1 (and_parts _ _ is).1
value_kept (signed_kind most) value good is = signed_below most value good is
value_kept formula_kind value good is = refl
value_kept mark_kind value good is = refl
value_kept kind_kind value good is = refl

own : IsNumeralModel (λ ds. all_ascii_digits ds ≡ true) (digits_value 10)
own = numerals_by_value _ (search rules)

nought_first : (token : List ℕ) → is_number token ≡ true → (0 < length token) ×
    (get_or token 0 0 ≡ 48 → length token ≡ 1)
nought_first [] is = (cc)
nought_first (digit ∷ []) is = (omega arith, λ first. refl)
nought_first (digit ∷ next ∷ digits) is =
    let other : eqb digit 48 ≡ false =
    not-true (eqb digit 48) (and_parts (not (eqb digit 48)) (all_ascii_digits (digit ∷ next ∷ digits)) is).0 in
    (omega arith, λ first. absurd (eqb-false digit 48 other first))

-- a number of at most 64 bits has one spelling
number_text : (n : ℕ) (token : List ℕ) → n ≤ 1000000000000000000 → WritesNumber n token → token ≡ decimal n
number_text n token small is =
    let first = nought_first token is.0 in
    sym (decimal-digits_value own token (number_digits token is.0) first.0 first.1 (omega (arith, is.1)))
    ∙ ap decimal is.1

pub signed_text : (most : ℕ) (z : ℤ) (token : List ℕ) → leb most 1000000000000000000 ≡ true → is_near most z ≡ true
    → WritesSigned z token → token ≡ signed_decimal z
signed_text most (pos n) token small near is =
    let le : n ≤ most = leb-true n most near in
    let below : most ≤ 1000000000000000000 = leb-true most 1000000000000000000 small in
    number_text n token (omega arith) is
signed_text most (negsuc n) token small near is =
    let le : suc n ≤ most = leb-true (suc n) most near in
    let below : most ≤ 1000000000000000000 = leb-true most 1000000000000000000 small in
    is.1 ∙ ap (λ t. 45 ∷ t) (number_text (suc n) is.0 (omega arith) is.2)

pub token_text : (kind : Kind) (value : Of kind) (token : List ℕ) → is_good_kind kind ≡ true
    → is_field_in_range (field_of kind value) ≡ true → IsToken kind value token
    → 32 ∷ token ≡ field_text (field_of kind value)
token_text (word_kind word) value token good near is = ap (λ t. 32 ∷ t) is
token_text (number_kind least most) value token good near is =
    let le : value ≤ most = leb-true value most (and_parts (leb least value) (leb value most) near).1 in
    let below : most ≤ 1000000000000000000 =
    leb-true most 1000000000000000000 (and_parts (leb least 1000000000000000000) (leb most 1000000000000000000)
    good).1 in
    ap (λ t. 32 ∷ t) (number_text value token (omega arith) is)
token_text (signed_kind most) value token good near is = ap (λ t. 32 ∷ t) (signed_text most value token good near is)
token_text formula_kind value token good near is = ap (λ t. 32 ∷ t) is.1
token_text mark_kind value token good near is = ap (λ t. 32 ∷ t) is
token_text kind_kind value token good near is = ap (λ t. 32 ∷ t) (is.2 ∙ ap word_of (sym is.1))
