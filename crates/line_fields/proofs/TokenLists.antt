-- Values to the end of a line, each of them a token behind a space, are read as they are written.
use Rattle.std.proofs.Common.{◌≡◌, ◌<◌, ◌+◌, ◌∙◌, ℕ, suc, ℤ, Bool, true, false, not, cond, List, [], ◌∷◌, ◌++◌, length}
use Rattle.std.proofs.Common.{take, drop, map, Option, Some, None, refl, sym, ap, subst, arith}
use Rattle.std.specs.List.{AllByRecursion, before_first, position_or_len, join_with_byte, list_all, slice_split}
use Rattle.std.specs.Option.{option_and_then, option_map}
use Rattle.std.proofs.lemmas.Bool.{and_from, and_parts, eqb-true, eq-eqb, not-true}
use Rattle.std.proofs.lemmas.List.{append-nil, append_assoc, length-append, take-append-drop}
use Rattle.std.proofs.lemmas.List.Elements.{All-from_recursion}
use Rattle.std.proofs.lemmas.List.Splits.{join_with_byte-slice_split, length-slice_split, slice_split_at}
use Rattle.std.proofs.lemmas.List.Splits.{slice_split_none}
use Rattle.std.proofs.lemmas.Option.{none-some, some_pair_parts}
use Rattle.tree_document.specs.Line.{WritesAll, WritesSigned}
use Rattle.line_fields.specs.Field.{Kind, Of, is_space, token_at, value_at, value_in}
use Rattle.line_fields.proofs.Tokens.{IsRest, NoSpace, token_at-sound}
use Rattle.line_fields.proofs.FieldKinds.{signed_no_space}

abbrev pub with_value : {A : Type 0} → A → Option (List A) → Option (List A)
with_value value others = option_map (λ values. value ∷ values) others

-- the values of tokens
abbrev pub each_in : {A : Type 0} → (List ℕ → Option A) → List (List ℕ) → Option (List A)
each_in read [] = Some []
each_in read (token ∷ tokens) = option_and_then (λ value. with_value value (each_in read tokens)) (read token)

-- the values to the end of a line, each behind a space
abbrev pub each_at : {A : Type 0} → (List ℕ → Option A) → List ℕ → Option (List A)
each_at read [] = Some []
each_at read (byte ∷ rest) = cond (is_space byte) (each_in read (slice_split is_space rest)) None

no_spaces : (token : List ℕ) → NoSpace token → AllByRecursion (λ byte. is_space byte ≡ false) token
no_spaces [] none = tt
no_spaces (byte ∷ token) none =
    let parts = and_parts (not (is_space byte)) (list_all (λ b. not (is_space b)) token) none in
    (not-true (is_space byte) parts.0, no_spaces token parts.1)

-- the first value, then the others
pub each_at-front : {A : Type 0} (read : List ℕ → Option A) (token rest : List ℕ) → NoSpace token → IsRest rest
    → each_at read (32 ∷ (token ++ rest)) ≡ option_and_then (λ value. with_value value (each_at read rest)) (read token)
each_at-front read token [] none is =
    ap (λ t. each_in read (slice_split is_space t)) (append-nil token)
    ∙ ap (each_in read) (slice_split_none is_space token (All-from_recursion _ token (no_spaces token none)))
each_at-front read token (byte ∷ rest) none is =
    let space : is_space byte ≡ true = eq-eqb byte 32 is in
    ap (each_in read) (slice_split_at is_space token byte rest (All-from_recursion _ token (no_spaces token none))
    space)
    ∙ ap (λ b. option_and_then (λ value. with_value value (cond b (each_in read (slice_split is_space rest)) None))
    (read token)) (sym space)

pub WritesAll-rest : (zs : List ℤ) (text : List ℕ) → WritesAll zs text → IsRest text
WritesAll-rest [] text is = subst IsRest (sym is) tt
WritesAll-rest (z ∷ zs) text is = subst IsRest (sym is.2) refl

-- a way to read tokens as values that stand for numbers: a token that writes one is read as that, or as one that no
-- field may have
pub record IsReader {A : Type 0} (read : List ℕ → Option A) (number : A → ℤ) (kept : A → A) : Type 0 where
  pub sound : (token : List ℕ) (value : A) → read token ≡ Some value
      → (it : A) × WritesSigned (number it) token × (value ≡ kept it)
  pub complete : (it : A) (token : List ℕ) → WritesSigned (number it) token → read token ≡ Some (kept it)

pub each_complete : {A : Type 0} (read : List ℕ → Option A) (number : A → ℤ) (kept : A → A) → IsReader read number kept
    → (values : List A) (text : List ℕ)
    → WritesAll (map number values) text → each_at read text ≡ Some (map kept values)
each_complete read number kept reader [] text is = ap (each_at read) is
each_complete read number kept reader (it ∷ values) text is =
    ap (each_at read) is.2
    ∙ each_at-front read is.0 is.1 (signed_no_space (number it) is.0 is.3)
    (WritesAll-rest (map number values) is.1 is.4)
    ∙ ap (option_and_then (λ value. with_value value (each_at read is.1))) (reader.complete it is.0 is.3)
    ∙ ap (with_value (kept it)) (each_complete read number kept reader values is.1 is.4)

abbrev Found : {A : Type 0} → (A → ℤ) → (A → A) → List ℕ → List A → Type 0
Found {A = A} number kept text vs = (values : List A) × WritesAll (map number values) text × (vs ≡ map kept values)

one_more : {A : Type 0} (read : List ℕ → Option A) (number : A → ℤ) (kept : A → A) → IsReader read number kept
    → (token rest : List ℕ) (vs : List A) (first : Option A) (others : Option (List A))
    → read token ≡ first → ((later : List A) → others ≡ Some later → Found number kept rest later)
    → option_and_then (λ value. with_value value others) first ≡ Some vs → Found number kept (32 ∷ (token ++ rest)) vs
one_more read number kept reader token rest vs None others told found taken = (cc)
one_more read number kept reader token rest vs (Some v) None told found taken = (cc)
one_more read number kept reader token rest vs (Some v) (Some later) told found taken =
    let is : v ∷ later ≡ vs = (cc) in
    let sound = reader.sound token v told in
    let behind = found later refl in
    (sound.0 ∷ behind.0, (token, rest, refl, sound.1, behind.1), sym is ∙ (λ i. sound.2 i ∷ behind.2 i))

tokens_sound : {A : Type 0} (read : List ℕ → Option A) (number : A → ℤ) (kept : A → A) → IsReader read number kept
    → (tokens : List (List ℕ)) (vs : List A) → 0 < length tokens → each_in read tokens ≡ Some vs
    → Found number kept (32 ∷ join_with_byte 32 tokens) vs
tokens_sound read number kept reader [] vs some taken = absurd (omega arith)
tokens_sound read number kept reader (token ∷ []) vs some taken =
    subst (λ t. Found number kept (32 ∷ t) vs) (append-nil token)
    (one_more read number kept reader token [] vs (read token) (Some []) refl (λ later is. ([], refl, cc)) taken)
tokens_sound read number kept reader (token ∷ next ∷ tokens) vs some taken =
    one_more read number kept reader token (32 ∷ join_with_byte 32 (next ∷ tokens)) vs (read token)
    (each_in read (next ∷ tokens)) refl
    (λ later is. tokens_sound read number kept reader (next ∷ tokens) later (omega arith) is) taken

split_some : (text : List ℕ) → 0 < length (slice_split is_space text)
split_some text = omega (arith, length-slice_split is_space text)

pub each_sound : {A : Type 0} (read : List ℕ → Option A) (number : A → ℤ) (kept : A → A) → IsReader read number kept
    → (text : List ℕ) (vs : List A) → each_at read text ≡ Some vs
    → (values : List A) × WritesAll (map number values) text × (vs ≡ map kept values)
each_sound read number kept reader [] vs taken = ([], refl, cc)
each_sound read number kept reader (byte ∷ text) vs taken = step (is_space byte) refl taken
  where
    step : (b : Bool) → is_space byte ≡ b → cond b (each_in read (slice_split is_space text)) None ≡ Some vs
        → Found number kept (byte ∷ text) vs
    step false other taken = (cc)
    step true space taken =
        let first : byte ≡ 32 = eqb-true byte 32 space in
        let whole : join_with_byte 32 (slice_split is_space text) ≡ text = join_with_byte-slice_split 32 text in
        subst (λ t. Found number kept t vs) (λ i. sym first i ∷ whole i)
        (tokens_sound read number kept reader (slice_split is_space text) vs (split_some text) taken)

-- values one by one
token_is : (text : List ℕ) → NoSpace (before_first is_space text) × IsRest (drop (position_or_len is_space text) text)
token_is [] = (refl, tt)
token_is (byte ∷ text) = step (is_space byte) refl (token_is text)
  where
    step : (b : Bool) → is_space byte ≡ b → NoSpace (before_first is_space text) × IsRest
        (drop (position_or_len is_space text) text)
        → NoSpace (take (cond (not b) (1 + position_or_len is_space text) 0) (byte ∷ text))
        × IsRest (drop (cond (not b) (1 + position_or_len is_space text) 0) (byte ∷ text))
    step true space later = (refl, eqb-true byte 32 space)
    step false other later =
        let more : 1 + position_or_len is_space text ≡ suc (position_or_len is_space text) = omega arith in (
          subst (λ n. NoSpace (take n (byte ∷ text))) (sym more) (and_from _ _ (ap not other) later.0),
          subst
              (λ n. IsRest (drop n (byte ∷ text))) (sym more) later.1,
        )

each_at-value : (kind : Kind) (text : List ℕ) → 0 < length text
    → each_at (value_in kind) text ≡ option_and_then (λ (value : Of kind × List ℕ). with_value value.0
    (each_at (value_in kind) value.1)) (value_at kind text)
each_at-value kind [] some = absurd (omega arith)
each_at-value kind (byte ∷ text) some = step (is_space byte) refl
  where
    inner : (token rest : List ℕ) (o : Option (Of kind)) → value_in kind token ≡ o
        → option_and_then (λ value. with_value value (each_at (value_in kind) rest)) o
        ≡ option_and_then (λ (value : Of kind × List ℕ). with_value value.0 (each_at (value_in kind) value.1))
        (option_map {U = Of kind × List ℕ} (λ v. (v, rest)) o)
    inner token rest None told = refl
    inner token rest (Some v) told = refl

    step : (b : Bool) → is_space byte ≡ b → each_at (value_in kind) (byte ∷ text) ≡ option_and_then
        (λ (value : Of kind × List ℕ). with_value value.0 (each_at (value_in kind) value.1))
        (option_and_then (λ (both : List ℕ × List ℕ). option_map {U = Of kind × List ℕ} (λ v. (v, both.1))
        (value_in kind both.0))
        (cond {A = Option (List ℕ × List ℕ)} b (Some (
          before_first is_space text,
          drop (position_or_len is_space text)
              text,
        )) None))
    step false other = rw other refl
    step true space =
        let is = token_is text in
        let first : byte ≡ 32 = eqb-true byte 32 space in
        let whole : before_first is_space text ++ drop (position_or_len is_space text) text ≡ text =
        take-append-drop (position_or_len is_space text) text in
        ap (λ b. each_at (value_in kind) (b ∷ text)) first ∙ ap (λ t. each_at (value_in kind) (32 ∷ t)) (sym whole)
        ∙ each_at-front (value_in kind) (before_first is_space text) (drop (position_or_len is_space text) text) is.0
        is.1
        ∙ inner (before_first is_space text) (drop (position_or_len is_space text) text)
        (value_in kind (before_first is_space text)) refl

pub one_value : (kind : Kind) (text rest : List ℕ) (value : Of kind) → 0 < length text
    → Some (value, rest) ≡ value_at kind text
    → each_at (value_in kind) text ≡ with_value value (each_at (value_in kind) rest)
one_value kind text rest value some is =
    each_at-value kind text some ∙ ap (option_and_then (λ (value : Of kind × List ℕ). with_value value.0
    (each_at (value_in kind) value.1))) (sym is)

pub no_value : (kind : Kind) (text : List ℕ) → 0 < length text → None ≡ value_at kind text
    → each_at (value_in kind) text ≡ None
no_value kind text some is =
    each_at-value kind text some ∙ ap (option_and_then (λ (value : Of kind × List ℕ). with_value value.0
    (each_at (value_in kind) value.1))) (sym is)

-- what a value that is read was read from
pub taken_from : (kind : Kind) (text rest : List ℕ) (value : Of kind) → Some (value, rest) ≡ value_at kind text
    → (token : List ℕ) × (text ≡ 32 ∷ (token ++ rest)) × (value_in kind token ≡ Some value)
taken_from kind text rest value is = step (token_at text) refl is
  where
    inner : (token behind : List ℕ) (o : Option (Of kind)) → token_at text ≡ Some (token, behind)
        → value_in kind token ≡ o → Some (value, rest) ≡ option_map {U = Of kind × List ℕ} (λ v. (v, behind)) o
        → (token : List ℕ) × (text ≡ 32 ∷ (token ++ rest)) × (value_in kind token ≡ Some value)
    inner token behind None taken read told = absurd (none-some _ (sym told))
    inner token behind (Some v) taken read told =
        let same = some_pair_parts value v rest behind told in (
          token,
          token_at-sound text token behind taken ∙ ap (λ t. 32 ∷ (token ++ t)) (sym same.1),
          read
              ∙ ap Some (sym same.0),
        )

    step : (o : Option (List ℕ × List ℕ)) → token_at text ≡ o
        → Some (value, rest) ≡ option_and_then (λ (both : List ℕ × List ℕ). option_map {U = Of kind × List ℕ}
        (λ v. (v, both.1)) (value_in kind both.0)) o
        → (token : List ℕ) × (text ≡ 32 ∷ (token ++ rest)) × (value_in kind token ≡ Some value)
    step None taken told = absurd (none-some _ (sym told))
    step (Some both) taken told = inner both.0 both.1 (value_in kind both.0) taken refl told

pub shorter : (kind : Kind) (text rest : List ℕ) (value : Of kind) → Some (value, rest) ≡ value_at kind text
    → length rest < length text
shorter kind text rest value is =
    let from = taken_from kind text rest value is in
    let whole : length text ≡ length (32 ∷ (from.0 ++ rest)) = ap length from.1 in
    omega (arith, length-append from.0 rest)

pub so_far : {A : Type 0} (values : List A) (value : A) (o : Option (List A))
    → option_map (λ later. values ++ later) (with_value value o)
    ≡ option_map (λ later. (values ++ value ∷ []) ++ later) o
so_far values value None = refl
so_far values value (Some later) = ap Some (sym (append_assoc values (value ∷ []) later))
