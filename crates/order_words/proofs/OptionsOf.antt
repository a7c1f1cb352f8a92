-- `options_of`: how the options of words are gone through, one after the other.
use Rattle.std.proofs.Common.{◌≡◌, ◌<◌, ◌≤◌, ◌-◌, ◌++◌, ℕ, take, drop, get_or, Bool, true, false, List, [], ◌∷◌, length}
use Rattle.std.proofs.Common.{String, string_bytes, Option, Some, None, IfSome, MatchOption, Bor, refl, sym, ◌∙◌, ap}
use Rattle.std.proofs.Common.{subst, arith, append-nil, append_assoc}
use Rattle.std.specs.declared.alloc.Global.{Global}
use Rattle.std.specs.Prelude.{◌&&◌, is_some, if◌then◌else◌, map, filter}
use Rattle.std.specs.List.{before_first, after_first, position_or_len, list_all}
use Rattle.std.specs.Option.{option_map, option_and_then}
use Rattle.std.specs.Str.{bytes_eq}
use Rattle.std.proofs.lemmas.List.{take_all}
use Rattle.order_words.specs.Words.{Given, KnownOption, begins_with_dash, has_equals_sign, has_form, is_equals_sign}
use Rattle.order_words.specs.Words.{is_flag, is_in_table, joined, formed_options, meets, options_of, texts_of}
use Rattle.order_words.specs.Words.{values_of}
use Rattle.order_words.specs.inside.Words.{value_under}

-- what holds of each value that there may be holds of that which is there
pub if_some : {A : Type 0} (o : Option A) (P : A → Type 0) → ((x : A) → o ≡ Some x → P x) → IfSome o P
if_some None P each = tt
if_some (Some x) P each = each x refl

-- a byte before the end of a word is the first equals sign, so the word has one
pub has_sign-at_first : (word : List ℕ) → position_or_len is_equals_sign word < length word
    → has_equals_sign word ≡ true
has_sign-at_first [] before = absurd (omega arith)
has_sign-at_first (byte ∷ word) before = grind (arith, has_sign-at_first word)

pub has_sign-at_none : (word : List ℕ) → position_or_len is_equals_sign word ≡ length word
    → has_equals_sign word ≡ false
has_sign-at_none [] at_end = refl
has_sign-at_none (byte ∷ word) at_end = grind (arith, has_sign-at_none word)

-- the parts round the first equals sign, where they were looked for
pub split-parts : (word : List ℕ) (parts : Option (Bor (List ℕ) × Bor (List ℕ)))
    → MatchOption parts (position_or_len is_equals_sign word ≡ length word)
    (λ x. (x.0.now ≡ before_first is_equals_sign word) × (x.1.now ≡ after_first is_equals_sign word)
    × (position_or_len is_equals_sign word < length word))
    → MatchOption parts (has_equals_sign word ≡ false)
    (λ x. (has_equals_sign word ≡ true) × (joined word ≡ record { name = x.0.now; value = Some x.1.now }))
split-parts word None at_end = has_sign-at_none word at_end
split-parts word (Some (name, value)) found =
    (has_sign-at_first word found.2, parts word name.now value.now found.0 found.1)
  where
    parts : (word name value : List ℕ) → name ≡ before_first is_equals_sign word
        → value ≡ after_first is_equals_sign word → joined word ≡ record { name = name; value = Some value }
    parts word name value is also = cc

-- the texts of words that are not none: the first one's and those behind it
pub texts-behind : (words : List (String Global)) (first : String Global) (text : List ℕ) → 1 ≤ length words
    → first ≡ get_or words 0 first → text ≡ string_bytes first
    → texts_of words ≡ text ∷ texts_of (take (length words - 1) (drop 1 words))
texts-behind [] first text some at is = absurd (omega arith)
texts-behind (word ∷ words) first text some at is =
    let all : take (length (word ∷ words) - 1) words ≡ words =
    take_all (length (word ∷ words) - 1) words (omega arith) in
    cc

-- a word with an equals sign gives an option by itself
pub options-joined : (table : List KnownOption) (word : List ℕ) (words : List (List ℕ)) (option : Given)
    → has_equals_sign word ≡ true → joined word ≡ option
    → options_of table (word ∷ words) ≡ option_map (λ options. option ∷ options) (options_of table words)
options-joined table word [] option has is = rw (has, is)
options-joined table word (next ∷ later) option has is = rw (has, is)

-- so does an option without a value
pub options-flag : (table : List KnownOption) (word : List ℕ) (words : List (List ℕ)) → has_equals_sign word ≡ false
    → is_flag table word ≡ true
    → options_of table (word ∷ words) ≡ option_map (λ options. record { name = word; value = None } ∷ options)
    (options_of table words)
options-flag table word [] lacks is = rw (lacks, is)
options-flag table word (next ∷ later) lacks is = rw (lacks, is)

-- another word gives an option with the next word, where that begins with no dash
pub options-apart : (table : List KnownOption) (word next : List ℕ) (words later : List (List ℕ)) → words ≡ next ∷ later
    → has_equals_sign word ≡ false
    → is_flag table word ≡ false → begins_with_dash next ≡ false
    → options_of table (word ∷ words) ≡ option_map (λ options. record { name = word; value = Some next } ∷ options)
    (options_of table later)
options-apart table word next words later is lacks valued undashed = rw (is, lacks, valued, undashed)

-- where that begins with a dash, or is not there, it gives none
pub options-dashed : (table : List KnownOption) (word next : List ℕ) (words later : List (List ℕ))
    → words ≡ next ∷ later → has_equals_sign word ≡ false
    → is_flag table word ≡ false → begins_with_dash next ≡ true → options_of table (word ∷ words) ≡ None
options-dashed table word next words later is lacks valued dashed = rw (is, lacks, valued, dashed)

-- The options that are left are the last of all, and P holds of those before them.
abbrev pub Scanned : Option (List Given) → Option (List Given) → (List Given → Type 0) → Type 0
Scanned None all P = all ≡ None
Scanned (Some left) all P = (done : List Given) × (all ≡ Some (done ++ left)) × P done

pub scanned_none : (all : Option (List Given)) (P : List Given → Type 0) → P [] → Scanned all all P
scanned_none None P holds = refl
scanned_none (Some left) P holds = ([], refl, holds)

pub scanned_more : (option : Given) (left all : Option (List Given)) (P Q : List Given → Type 0)
    → Scanned (option_map (λ options. option ∷ options) left) all P
    → ((done : List Given) → P done → Q (done ++ option ∷ [])) → Scanned left all Q
scanned_more option None all P Q scanned next = scanned
scanned_more option (Some left) all P Q scanned next = (
  scanned.0 ++ option ∷ [],
  scanned.1 ∙ ap Some (sym (append_assoc scanned.0 (option ∷ []) left)),
  next scanned.0
      scanned.2,
)

pub scanned_all : (all : Option (List Given)) (P : List Given → Type 0) → Scanned (Some []) all P → IfSome all P
scanned_all all P scanned =
    subst (λ o. IfSome o P) (sym scanned.1) (subst P (sym (append-nil scanned.0)) scanned.2)

values_of-append : (name : List ℕ) (done : List Given) (option : Given)
    → values_of name (done ++ option ∷ []) ≡ values_of name done ++ value_under name option
values_of-append name [] option = single (bytes_eq option.name name)
  where
    single : (same : Bool)
        → map (λ (g : Given). g.value) (if same then option ∷ [] else []) ≡ (if same then option.value ∷ [] else [])
    single true = refl
    single false = refl
values_of-append name (first ∷ done) option = more (bytes_eq first.name name) (values_of-append name done option)
  where
    more : (same : Bool) → values_of name (done ++ option ∷ []) ≡ values_of name done ++ value_under name option
        → map (λ (g : Given). g.value)
        (if same then first ∷ filter (λ g. bytes_eq g.name name) (done ++ option ∷ []) else filter
        (λ g. bytes_eq g.name name) (done ++ option ∷ []))
        ≡ map (λ (g : Given). g.value)
        (if same then first ∷ filter (λ g. bytes_eq g.name name) done else filter (λ g. bytes_eq g.name name) done)
        ++ value_under name option
    more true rest = ap (λ (values : List (Option (List ℕ))). first.value ∷ values) rest
    more false rest = rest

-- what is found of one option more
pub found_more : (name : List ℕ) (option : Given) (F G : List (Option (List ℕ)) → Type 0)
    → ((values : List (Option (List ℕ))) → F values → G (values ++ value_under name option))
    → (done : List Given) → F (values_of name done) → G (values_of name (done ++ option ∷ []))
found_more name option F G next done found =
    subst G (sym (values_of-append name done option)) (next (values_of name done) found)

-- all options so far are known, and one more is
pub known_more : (p : Given → Bool) (option : Given) → p option ≡ true → (done : List Given) → list_all p done ≡ true
    → list_all p (done ++ option ∷ []) ≡ true
known_more p option is [] all = both (p option) is
  where
    both : (known : Bool) → known ≡ true → (known && true) ≡ true
    both true is = refl
    both false is = cc
known_more p option is (first ∷ done) all =
    both (p first) (list_all p done) all (λ rest. known_more p option is done rest)
  where
    both : (known rest : Bool) → (known && rest) ≡ true → (rest ≡ true → list_all p (done ++ option ∷ []) ≡ true)
        → (known && list_all p (done ++ option ∷ [])) ≡ true
    both true rest all next = next all
    both false rest all next = cc

unknown-within : (p : Given → Bool) (option : Given) (left : List Given) → p option ≡ false → (done : List Given)
    → list_all p (done ++ option ∷ left) ≡ false
unknown-within p option left not [] = one (p option) not
  where
    one : (known : Bool) → known ≡ false → (known && list_all p left) ≡ false
    one true is = cc
    one false is = refl
unknown-within p option left not (first ∷ done) = more (p first) (unknown-within p option left not done)
  where
    more : (known : Bool) → list_all p (done ++ option ∷ left) ≡ false
        → (known && list_all p (done ++ option ∷ left)) ≡ false
    more true rest = rest
    more false rest = refl

-- an option that is not known is one of all
pub unknown : (p : Given → Bool) (option : Given) (left all : Option (List Given)) (P : List Given → Type 0)
    → Scanned (option_map (λ options. option ∷ options) left) all P → p option ≡ false
    → MatchOption all (false ≡ false) (λ options. false ≡ list_all p options)
unknown p option None all P scanned not =
    subst (λ o. MatchOption o (false ≡ false) (λ options. false ≡ list_all p options)) (sym scanned) refl
unknown p option (Some left) all P scanned not =
    subst (λ o. MatchOption o (false ≡ false) (λ options. false ≡ list_all p options)) (sym scanned.1)
    (sym (unknown-within p option left not scanned.0))

-- all options are known
pub known_all : (p : Given → Bool) (all : Option (List Given)) → Scanned (Some []) all (λ done. list_all p done ≡ true)
    → MatchOption all (true ≡ false) (λ options. true ≡ list_all p options)
known_all p all scanned =
    subst (λ o. MatchOption o (true ≡ false) (λ options. true ≡ list_all p options)) (sym scanned.1)
    (sym (subst (λ (done : List Given). list_all p done ≡ true) (sym (append-nil scanned.0)) scanned.2))

-- words are of the form of options where all options are known and each need is met
pub form-decides : (table : List KnownOption) (words : List (List ℕ)) (known met : Bool)
    → MatchOption (options_of table words) (known ≡ false) (λ options. known ≡ list_all (is_in_table table) options)
    → IfSome (options_of table words)
    (λ options. met ≡ list_all (λ known. meets known.need (values_of known.name options)) table)
    → (known && met) ≡ is_some (formed_options table words)
form-decides table words known met all_known all_met = by_options (options_of table words) all_known all_met
  where
    none : (known met : Bool) → known ≡ false → (known && met) ≡ false
    none true met is = cc
    none false met is = refl

    formed : (options : List Given) (form : Bool) → form ≡ is_some (if form then Some options else None)
    formed options true = refl
    formed options false = refl

    by_options : (all : Option (List Given))
        → MatchOption all (known ≡ false) (λ options. known ≡ list_all (is_in_table table) options)
        → IfSome all (λ options. met ≡ list_all (λ known. meets known.need (values_of known.name options)) table)
        → (known && met) ≡ is_some
        (option_and_then (λ options. if has_form table options then Some options else None) all)
    by_options None one other = none known met one
    by_options (Some options) one other =
        ap (λ (b : Bool). b && met) one ∙ ap (λ (b : Bool). list_all (is_in_table table) options && b) other
        ∙ formed options (has_form table options)
