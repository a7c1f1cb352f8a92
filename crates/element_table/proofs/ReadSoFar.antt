-- Of formula_of: a formula that is read piece by piece.
use Rattle.std.proofs.Common.{◌≡◌, ◌<◌, ◌≤◌, ◌+◌, ◌∙◌, ℕ, Bool, true, false, cond, not, ◌&&◌, inl, inr, List, [], ◌∷◌}
use Rattle.std.proofs.Common.{length, drop, get_or, min, Some, None, Ok, Err, ltb, refl, sym, ap, arith}
use Rattle.std.specs.Prelude.{codes, replicate}
use Rattle.std.proofs.lemmas.Bool.{and_left, and_parts, cases_lt, lt-ltb}
use Rattle.std.proofs.Math.ListN.{get_or-eq_default}
use Rattle.std.proofs.lemmas.List.{get_or-replicate}
use Rattle.std.proofs.lemmas.List.Sums.{sum_by-cons}
use Rattle.std.specs.Char.{is_ascii_uppercase}
use Rattle.std.specs.List.{before_first, list_all}
use Rattle.std.specs.Str.{bytes_eq}
use Rattle.element_table.specs.Elements.{symbols}
use Rattle.element_table.specs.Formula.{empty_formula}
use Rattle.element_table.specs.FormulaReading.{count_of_digits, digits_of, formula_of, formula_of_pieces, is_count}
use Rattle.element_table.specs.FormulaReading.{is_formula_text, is_known, pieces_of, share_of, symbol_of, total_of}
use Rattle.element_table.specs.declared.reading.FormulaFault.TheVariants.{NoFormula}
use Rattle.element_table.proofs.Pieces.{Begins, pieces_of-first}

abbrev pub has_count : List ℕ → Bool
has_count piece = is_count (digits_of piece)

abbrev pub has_element : List ℕ → Bool
has_element piece = is_known (symbol_of piece)

-- what the pieces up to the rest come to: with the pieces of the rest, they say of the whole what all pieces say
pub record ReadSoFar (text rest totals : List ℕ) (known : Bool) : Type 0 where
  pub places : length totals ≡ 16
  pub begins : Begins rest
  pub counts : list_all has_count (pieces_of text) ≡ list_all has_count (pieces_of rest)
  pub elements : list_all has_element (pieces_of text) ≡ (known && list_all has_element (pieces_of rest))
  pub total : (place : ℕ) → place < 11
      → min 2000 (total_of (pieces_of text) (get_or symbols place []))
      ≡ min 2000 (get_or totals place 0 + total_of (pieces_of rest) (get_or symbols place []))
  pub capped : (place : ℕ) → get_or totals place 0 ≤ 2000
  pub others : (place : ℕ) → 11 ≤ place → get_or totals place 0 ≡ 0

-- a dash is the empty formula
pub formula_of-dash : (text : List ℕ) → bytes_eq text (codes "-") ≡ true → Ok empty_formula ≡ formula_of text
unfolding formula_of
formula_of-dash text dash = rw dash refl

-- another text that does not begin with a capital letter is none
pub formula_of-no_capital : (text : List ℕ) → bytes_eq text (codes "-") ≡ false
    → (ltb 0 (length text) && is_ascii_uppercase (get_or text 0 0)) ≡ false → Err NoFormula ≡ formula_of text
unfolding formula_of
formula_of-no_capital [] no_dash other = refl
formula_of-no_capital (byte ∷ bytes) no_dash other =
    let some : ltb 0 (length (byte ∷ bytes)) ≡ true = lt-ltb 0 (length (byte ∷ bytes)) (omega arith) in
    let small : is_ascii_uppercase byte ≡ false = sym (ap (λ b. b && is_ascii_uppercase byte) some) ∙ other in
    rw (no_dash, small) refl

-- a text that begins with a capital letter is read by its pieces
pub formula_of-pieces : (text : List ℕ) → bytes_eq text (codes "-") ≡ false
    → (ltb 0 (length text) && is_ascii_uppercase (get_or text 0 0)) ≡ true
    → formula_of text ≡ cond (not (list_all has_count (pieces_of text))) (Err NoFormula)
    (formula_of_pieces (pieces_of text))
unfolding formula_of
formula_of-pieces [] no_dash begins = (cc)
formula_of-pieces (byte ∷ bytes) no_dash begins =
    let capital : is_ascii_uppercase byte ≡ true = (and_parts _ _ begins).1 in
    let form : is_formula_text (byte ∷ bytes) ≡ list_all has_count (pieces_of (byte ∷ bytes)) =
    ap (λ first. first && list_all has_count (pieces_of (byte ∷ bytes))) capital in
    rw no_dash (ap (λ good. cond (not good) (Err NoFormula) (formula_of_pieces (pieces_of (byte ∷ bytes)))) form)

-- a piece whose digits are no count
pub formula_of-no_count : (text rest totals piece : List ℕ) (n : ℕ) (known : Bool) → bytes_eq text (codes "-") ≡ false
    → (ltb 0 (length text) && is_ascii_uppercase (get_or text 0 0)) ≡ true → ReadSoFar text rest totals known
    → 0 < length rest → piece ≡ get_or rest 0 0 ∷ before_first is_ascii_uppercase (drop 1 rest) → None
    ≡ cond (is_count (digits_of piece)) (Some n) None
    → Err NoFormula ≡ formula_of text
formula_of-no_count text [] totals piece n known no_dash begins reads some piece_is none = absurd (omega arith)
formula_of-no_count text (byte ∷ bytes) totals piece n known no_dash begins reads some piece_is none =
    let first = (pieces_of-first byte bytes piece reads.begins piece_is).0 in
    let other : is_count (digits_of piece) ≡ false = no_count (is_count (digits_of piece)) none in
    let counts : list_all has_count (pieces_of text) ≡ false =
    reads.counts ∙ ap (list_all has_count) first ∙ and_left _ _ other in
    rw (formula_of-pieces text no_dash begins, counts) refl
  where
    no_count : (b : Bool) → None ≡ cond b (Some n) None → b ≡ false
    no_count true is = (cc)
    no_count false is = refl

and-middle : (a b c : Bool) → (a && (b && c)) ≡ ((a && b) && c)
and-middle true b c = refl
and-middle false b c = refl

some_count : (b : Bool) (n count : ℕ) → Some count ≡ cond b (Some n) None → (b ≡ true) × (count ≡ n)
some_count true n count is = (refl, cc)
some_count false n count is = (cc)

share-capped : (same : Bool) (n count total rest : ℕ) → count ≡ min 2000 n
    → min 2000 (total + (cond same n 0 + rest)) ≡ min 2000 (min 2000 (total + cond same count 0) + rest)
share-capped true n count total rest is = omega arith
share-capped false n count total rest is = omega arith

within_cap : (n place : ℕ) → (place < 11 → n ≤ 2000) → (11 ≤ place → n ≤ 2000) → n ≤ 2000
within_cap n place below past = elim (cases_lt place 11) [ inl within ↦ below within | inr beyond ↦ past beyond ]

-- one more piece, of a count and an element that may be known
pub ReadSoFar-more : (text rest later totals new piece : List ℕ) (count : ℕ) (known more : Bool)
    → ReadSoFar text rest totals known
    → 0 < length rest → piece ≡ get_or rest 0 0 ∷ before_first is_ascii_uppercase (drop 1 rest) → later
    ≡ drop (length piece) rest
    → Some count ≡ cond (is_count (digits_of piece)) (Some (min 2000 (count_of_digits (digits_of piece)))) None
    → more ≡ is_known (symbol_of piece) → length new ≡ 16
    → ((place : ℕ) → place < 11 → get_or new place 0
    ≡ min 2000 (get_or totals place 0 + share_of (get_or symbols place []) (symbol_of piece) count))
    → ((place : ℕ) → 11 ≤ place → get_or new place 0 ≡ get_or totals place 0)
    → ReadSoFar text later new (known && more)
ReadSoFar-more text [] later totals new piece count known more reads some piece_is later_is some_is more_is long added
    others = absurd (omega arith)
ReadSoFar-more text (byte ∷ bytes) later totals new piece count known more reads some piece_is later_is some_is more_is
    long added others =
    let first = pieces_of-first byte bytes piece reads.begins piece_is in
    let pieces : pieces_of (byte ∷ bytes) ≡ piece ∷ pieces_of later =
    first.0 ∙ ap (λ text. piece ∷ pieces_of text) (sym later_is) in
    let good = some_count (is_count (digits_of piece)) (min 2000 (count_of_digits (digits_of piece))) count some_is in
    record {
      places = long;
      begins = rw later_is first.1;
      counts =
          reads.counts ∙ ap (list_all has_count) pieces ∙ ap (λ b. b && list_all has_count (pieces_of later)) good.0;
      elements =
          reads.elements ∙ ap (λ ps. known && list_all has_element ps) pieces
          ∙ ap (λ b. known && (b && list_all has_element (pieces_of later))) (sym more_is) ∙ and-middle known more _;
      total = λ place within.
          let element : List ℕ = get_or symbols place [] in
          let sum : total_of (pieces_of (byte ∷ bytes)) element
          ≡ share_of element (symbol_of piece) (count_of_digits (digits_of piece))
          + total_of (pieces_of later) element =
          ap (λ ps. total_of ps element) pieces ∙ sum_by-cons _ piece (pieces_of later) in
          reads.total place within
          ∙ ap (λ n. min 2000 (get_or totals place 0 + n)) sum
          ∙ share-capped (bytes_eq element (symbol_of piece)) (count_of_digits (digits_of piece)) count
          (get_or totals place 0) (total_of (pieces_of later) element) good.1
          ∙ ap (λ n. min 2000 (n + total_of (pieces_of later) element)) (sym (added place within));
      capped =
          λ place. within_cap (get_or new place 0) place (λ within. let is = added place within in omega arith)
          (λ past. let same = others place past in let cap = reads.capped place in omega arith);
      others = λ place past. others place past ∙ reads.others place past;
    }

begins : (text : List ℕ) → (ltb 0 (length text) && is_ascii_uppercase (get_or text 0 0)) ≡ true → Begins text
begins [] is = tt
begins (byte ∷ bytes) is = (and_parts _ _ is).1

-- no atom so far
abbrev pub noughts : List ℕ
noughts = replicate 16 0

pub nought : (place : ℕ) → get_or noughts place 0 ≡ 0
nought place =
    elim (cases_lt place 16) [
      | inl within ↦ get_or-replicate 16 place 0 0 within
      | inr past ↦ get_or-eq_default noughts
          0 past
    ]

-- before the first piece
pub ReadSoFar-none : (text : List ℕ) → (ltb 0 (length text) && is_ascii_uppercase (get_or text 0 0)) ≡ true
    → ReadSoFar text text noughts true
ReadSoFar-none text is = record {
  places = refl;
  begins = begins text is;
  counts = refl;
  elements = refl;
  total = λ place within. let none = nought place in omega arith;
  capped = λ place. let none = nought place in omega arith;
  others = λ place past. nought place;
}
