-- A title is read back from its spelling.
use Rattle.std.proofs.Common.{◌≡◌, ◌<◌, ◌≤◌, ◌+◌, ◌*◌, ◌/◌, ◌%◌, ◌∙◌, ℕ, suc, Bool, true, false, not, ◌&&◌, cond, List}
use Rattle.std.proofs.Common.{[], ◌∷◌, ◌++◌, length, drop, get_or, Option, Some, None, eqb, leb, ltb, refl, sym, ap}
use Rattle.std.proofs.Common.{arith}
use Rattle.std.proofs.lemmas.Bool.{and_from, lt-ltb, and_parts, cond-false, cond-true, le-ltb, ltb-true, lt-leb, le-leb}
use Rattle.std.proofs.lemmas.Bool.{ltb-false, ne_eqb, not-true}
use Rattle.std.proofs.lemmas.Option.{none-some, some_pair_parts}
use Rattle.tree_document.specs.Title.{are_bytes, escaped, hexadecimal}
use Rattle.line_fields.specs.Field.{nibble_of, title_byte_at, title_of}

title_of-plain : (byte : ℕ) (rest : List ℕ) → eqb byte 92 ≡ false → title_of (byte ∷ rest) ≡ byte ∷ title_of rest
title_of-plain byte [] other = rw other refl
title_of-plain byte (mark ∷ []) other = rw other refl
title_of-plain byte (mark ∷ high ∷ []) other = rw other refl
title_of-plain byte (mark ∷ high ∷ low ∷ rest) other = rw other refl

nibble_of-hexadecimal : (digit : ℕ) → digit < 16 → nibble_of (hexadecimal digit) ≡ digit
nibble_of-hexadecimal digit small = step (ltb digit 10) refl
  where
    step : (b : Bool) → ltb digit 10 ≡ b → nibble_of (cond b (48 + digit) (87 + digit)) ≡ digit
    step true is = let low : digit < 10 =
        ltb-true digit 10 is in rw (le-leb (48 + digit) 57 (omega arith)) (omega arith)
    step false is = let high : 10 ≤ digit =
        ltb-false digit 10 is in rw (lt-leb (87 + digit) 57 (omega arith)) (omega arith)

pub title_again : (title : List ℕ) → are_bytes title ≡ true → title_of (escaped title) ≡ title
title_again [] all = refl
title_again (byte ∷ title) all =
    let parts = and_parts (ltb byte 256) (are_bytes title) all in
    step (leb 32 byte && (leb byte 126 && not (eqb byte 92))) refl (ltb-true byte 256 parts.0)
    (title_again title parts.1)
  where
    step : (b : Bool) → (leb 32 byte && (leb byte 126 && not (eqb byte 92))) ≡ b → byte < 256
        → title_of (escaped title) ≡ title
        → title_of (cond b (byte ∷ []) (92 ∷ 120 ∷ hexadecimal (byte / 16) ∷ hexadecimal (byte % 16) ∷ [])
        ++ escaped title) ≡ byte ∷ title
    step true plain small later =
        let other : eqb byte 92 ≡ false =
        not-true (eqb byte 92) (and_parts (leb byte 126) (not (eqb byte 92))
        (and_parts (leb 32 byte) (leb byte 126 && not (eqb byte 92)) plain).1).1 in
        title_of-plain byte (escaped title) other ∙ ap (λ rest. byte ∷ rest) later
    step false plain small later =
        let high : nibble_of (hexadecimal (byte / 16)) ≡ byte / 16 = nibble_of-hexadecimal (byte / 16) (omega arith) in
        let low : nibble_of (hexadecimal (byte % 16)) ≡ byte % 16 = nibble_of-hexadecimal (byte % 16) (omega arith) in
        let whole : nibble_of (hexadecimal (byte / 16)) * 16 + nibble_of (hexadecimal (byte % 16)) ≡ byte =
        omega arith in
        λ i. whole i ∷ later i

-- a title byte by byte
abbrev Next : List ℕ → ℕ → List ℕ → Type 0
Next text byte rest = (title_of text ≡ byte ∷ title_of rest) × (length rest < length text)

plain_next : (first : ℕ) (text : List ℕ) (byte : ℕ) (rest : List ℕ) → eqb first 92 ≡ false
    → ◌≡◌ {A = Option (ℕ × List ℕ)} (Some (byte, rest)) (Some (first, text)) → Next (first ∷ text) byte rest
plain_next first text byte rest other is =
    let same = some_pair_parts byte first rest text is in (
      title_of-plain first text other ∙ (λ i. sym same.0 i ∷ title_of (sym same.1 i)),
      let short : length rest ≡ length
          text = ap length same.1 in omega arith,
    )

-- the byte that an escape spells, and what stands behind it
abbrev escape_at : List ℕ → Option (ℕ × List ℕ)
escape_at text = cond {A = Option (ℕ × List ℕ)} (ltb (length text) 4) None
    (Some (nibble_of (get_or text 2 0) * 16 + nibble_of (get_or text 3 0), drop 4 text))

title_byte_at-some : (first : ℕ) (text : List ℕ) → title_byte_at (first ∷ text)
    ≡ cond {A = Option (ℕ × List ℕ)} (eqb first 92) (escape_at (first ∷ text)) (Some (first, text))
title_byte_at-some first text =
    cond-false (eqb (length (first ∷ text)) 0) _ _ (ne_eqb (length (first ∷ text)) 0 (λ none. omega arith))

pub title_of-next : (text : List ℕ) (byte : ℕ) (rest : List ℕ) → Some (byte, rest) ≡ title_byte_at text
    → (title_of text ≡ byte ∷ title_of rest) × (length rest < length text)
title_of-next [] byte rest is = absurd (none-some _ (sym is))
title_of-next (first ∷ text) byte rest is = step (eqb first 92) refl (is ∙ title_byte_at-some first text)
  where
    long : (t : List ℕ) → text ≡ t → eqb first 92 ≡ true
        → Some (byte, rest) ≡ escape_at (first ∷ t) → Next (first ∷ t) byte rest
    long [] same slash told = absurd (none-some _ (sym told))
    long (a ∷ []) same slash told = absurd (none-some _ (sym told))
    long (a ∷ b ∷ []) same slash told = absurd (none-some _ (sym told))
    long (a ∷ b ∷ c ∷ t) same slash told =
        let enough : ltb (length (first ∷ a ∷ b ∷ c ∷ t)) 4 ≡ false =
        le-ltb (length (first ∷ a ∷ b ∷ c ∷ t)) 4 (omega arith) in
        let is = some_pair_parts byte (nibble_of b * 16 + nibble_of c) rest t
        (told ∙ cond-false (ltb (length (first ∷ a ∷ b ∷ c ∷ t)) 4) None (Some (nibble_of b * 16 + nibble_of c, t))
        enough) in
        let short : length rest ≡ length t = ap length is.1 in (
          cond-true (eqb first 92) ((nibble_of b * 16 + nibble_of c) ∷ title_of t) (first ∷ title_of (a ∷ b ∷ c ∷ t))
              slash ∙ (λ i. sym is.0 i ∷ title_of (sym is.1 i)),
          omega arith,
        )

    step : (b : Bool) → eqb first 92 ≡ b
        → Some (byte, rest) ≡ cond {A = Option (ℕ × List ℕ)} b (escape_at (first ∷ text)) (Some (first, text))
        → Next (first ∷ text) byte rest
    step false other told = plain_next first text byte rest other told
    step true slash told = long text refl slash told

pub title_of-none : (text : List ℕ) → None ≡ title_byte_at text → title_of text ≡ []
title_of-none [] is = refl
title_of-none (first ∷ text) is = step (eqb first 92) refl (is ∙ title_byte_at-some first text)
  where
    long : (t : List ℕ) → eqb first 92 ≡ true
        → None ≡ escape_at (first ∷ t) → title_of (first ∷ t) ≡ []
    long [] slash told = rw slash refl
    long (a ∷ []) slash told = rw slash refl
    long (a ∷ b ∷ []) slash told = rw slash refl
    long (a ∷ b ∷ c ∷ t) slash told =
        let enough : ltb (length (first ∷ a ∷ b ∷ c ∷ t)) 4 ≡ false =
        le-ltb (length (first ∷ a ∷ b ∷ c ∷ t)) 4 (omega arith) in
        absurd (none-some _ (told ∙ cond-false (ltb (length (first ∷ a ∷ b ∷ c ∷ t)) 4) None
        (Some (nibble_of b * 16 + nibble_of c, t)) enough))

    step : (b : Bool) → eqb first 92 ≡ b
        → None ≡ cond {A = Option (ℕ × List ℕ)} b (escape_at (first ∷ text)) (Some (first, text))
        → title_of (first ∷ text) ≡ []
    step false other told = absurd (none-some _ told)
    step true slash told = long text slash told

pub fit_bytes : (title : List ℕ) → ((place : ℕ) → get_or title place 0 < 256) → are_bytes title ≡ true
fit_bytes [] fits = refl
fit_bytes (byte ∷ title) fits = and_from _ _ (lt-ltb byte 256 (fits 0)) (fit_bytes title (λ place. fits (suc place)))
