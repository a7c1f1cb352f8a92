-- The first whole line of a text, and its whole lines.
use Rattle.std.proofs.Common.{◌≡◌, ◌<◌, ◌≤◌, ◌+◌, ◌-◌, ◌∙◌, ℕ, suc, Bool, true, false, not, cond, List, [], ◌∷◌, ◌++◌}
use Rattle.std.proofs.Common.{length, slice_index, take, drop, Option, Some, None, eqb, ltb, refl, sym, ap, arith}
use Rattle.std.specs.List.{position, position_or_len}
use Rattle.std.specs.Option.{option_map}
use Rattle.std.proofs.lemmas.Bool.{cond-false, cond-true, eqb-true, le-ltb, lt-ltb, ltb-false, ltb-true}
use Rattle.std.proofs.lemmas.List.{length-append, take_rest}
use Rattle.std.proofs.lemmas.List.Sums.{position_or_len_is}
use Rattle.std.proofs.lemmas.Option.{none-some, same_Some, some_pair_parts}
use Rattle.memchr.specs.Find.{IsFirstByte, Passes, is_byte}
use Rattle.mgf_reader.specs.Text.{ended_lines, unfinished_line}
use Rattle.line_reader.specs.inside.Cut.{cut_line, is_feed}

-- what is known of a whole line that was cut off
pub record IsCut (bytes line rest : List ℕ) : Type 0 where
  pub whole : bytes ≡ line ++ 10 ∷ rest
  pub lines : ended_lines bytes ≡ line ∷ ended_lines rest
  pub unfinished : unfinished_line bytes ≡ unfinished_line rest

ended-feed : (byte : ℕ) (bytes : List ℕ) → eqb byte 10 ≡ true → ended_lines (byte ∷ bytes) ≡ [] ∷ ended_lines bytes
ended-feed byte bytes is = rw is refl

ended-some : (byte : ℕ) (bytes line : List ℕ) (lines : List (List ℕ)) → eqb byte 10 ≡ false
    → ended_lines bytes ≡ line ∷ lines → ended_lines (byte ∷ bytes) ≡ (byte ∷ line) ∷ lines
ended-some byte bytes line lines is some = rw (is, some) refl

ended-none : (byte : ℕ) (bytes : List ℕ) → eqb byte 10 ≡ false → ended_lines bytes ≡ []
    → ended_lines (byte ∷ bytes) ≡ []
ended-none byte bytes is none = rw (is, none) refl

unfinished-more : (byte : ℕ) (bytes line : List ℕ) (lines : List (List ℕ))
    → ended_lines (byte ∷ bytes) ≡ line ∷ lines → unfinished_line (byte ∷ bytes) ≡ unfinished_line bytes
unfinished-more byte bytes line lines is =
    let some : ltb 0 (length (ended_lines (byte ∷ bytes))) ≡ true =
    ap (λ ls. ltb 0 (length ls)) is ∙ lt-ltb 0 (length (line ∷ lines)) (omega arith) in
    cond-true (ltb 0 (length (ended_lines (byte ∷ bytes)))) (unfinished_line bytes) (byte ∷ bytes) some

abbrev onto : ℕ → Option (List ℕ × List ℕ) → Option (List ℕ × List ℕ)
onto byte cut = option_map (λ parts. (byte ∷ parts.0, parts.1)) cut

abbrev after : ℕ → List ℕ → Bool → Option (List ℕ × List ℕ)
after byte bytes b = cond b (Some ([], bytes)) (onto byte (cut_line bytes))

onto-none : (byte : ℕ) (cut : Option (List ℕ × List ℕ)) → onto byte cut ≡ None → cut ≡ None
onto-none byte None is = refl
onto-none byte (Some parts) is = (cc)

pub cut_none : (bytes : List ℕ) → cut_line bytes ≡ None → ended_lines bytes ≡ []
cut_none [] none = refl
cut_none (byte ∷ bytes) none = step (eqb byte 10) refl (cut_none bytes) none
  where
    step : (b : Bool) → eqb byte 10 ≡ b → (cut_line bytes ≡ None → ended_lines bytes ≡ []) → after byte bytes b ≡ None
        → ended_lines (byte ∷ bytes) ≡ []
    step true is later cut = absurd (none-some _ (sym cut))
    step false is later cut = ended-none byte bytes is (later (onto-none byte (cut_line bytes) cut))

pub cut_some : (bytes line rest : List ℕ) → cut_line bytes ≡ Some (line, rest) → IsCut bytes line rest
cut_some [] line rest is = absurd (none-some _ is)
cut_some (byte ∷ bytes) line rest is = step (eqb byte 10) refl (λ l r told. cut_some bytes l r told) is
  where
    inner : (o : Option (List ℕ × List ℕ)) → eqb byte 10 ≡ false → cut_line bytes ≡ o
        → ((l r : List ℕ) → cut_line bytes ≡ Some (l, r) → IsCut bytes l r) → onto byte o ≡ Some (line, rest)
        → IsCut (byte ∷ bytes) line rest
    inner None other told later cut = absurd (none-some _ cut)
    inner (Some parts) other told later cut =
        let same = some_pair_parts (byte ∷ parts.0) line parts.1 rest cut in
        let behind = later parts.0 parts.1 told in
        let lines : ended_lines (byte ∷ bytes) ≡ (byte ∷ parts.0) ∷ ended_lines parts.1 =
        ended-some byte bytes parts.0 (ended_lines parts.1) other behind.lines in
        record {
          whole = ap (λ t. byte ∷ t) behind.whole ∙ (λ i. same.0 i ++ 10 ∷ same.1 i);
          lines = lines ∙ (λ i. same.0 i ∷ ended_lines (same.1 i));
          unfinished = unfinished-more byte bytes (byte ∷ parts.0) (ended_lines parts.1) lines ∙ behind.unfinished
              ∙ ap unfinished_line same.1;
        }

    step : (b : Bool) → eqb byte 10 ≡ b → ((l r : List ℕ) → cut_line bytes ≡ Some (l, r) → IsCut bytes l r)
        → after byte bytes b ≡ Some (line, rest) → IsCut (byte ∷ bytes) line rest
    step true feed later cut =
        let same = some_pair_parts [] line bytes rest cut in
        let lines : ended_lines (byte ∷ bytes) ≡ [] ∷ ended_lines bytes = ended-feed byte bytes feed in
        let first : byte ≡ 10 = eqb-true byte 10 feed in
        record {
          whole = (λ i. first i ∷ bytes) ∙ (λ i. same.0 i ++ 10 ∷ same.1 i);
          lines = lines ∙ (λ i. same.0 i ∷ ended_lines (same.1 i));
          unfinished = unfinished-more byte bytes [] (ended_lines bytes) lines ∙ ap unfinished_line same.1;
        }
    step false other later cut = inner (cut_line bytes) other refl later cut

abbrev At : List ℕ → ℕ → Option (List ℕ × List ℕ)
At bytes place = Some (take place bytes, drop (place + 1) bytes)

at_place : (bytes : List ℕ) → position_or_len is_feed bytes < length bytes
    → cut_line bytes ≡ At bytes (position_or_len is_feed bytes)
at_place [] within = absurd (omega arith)
at_place (byte ∷ bytes) within = step (eqb byte 10) refl (at_place bytes) within
  where
    step : (b : Bool) → eqb byte 10 ≡ b → (position_or_len is_feed bytes < length bytes
        → cut_line bytes ≡ At bytes (position_or_len is_feed bytes))
        → cond (not b) (1 + position_or_len is_feed bytes) 0 < length (byte ∷ bytes)
        → after byte bytes b ≡ At (byte ∷ bytes) (cond (not b) (1 + position_or_len is_feed bytes) 0)
    step true is later within = refl
    step false is later within =
        let more : 1 + position_or_len is_feed bytes ≡ suc (position_or_len is_feed bytes) = omega arith in
        let next : suc (position_or_len is_feed bytes) + 1 ≡ suc (position_or_len is_feed bytes + 1) = omega arith in
        ap (onto byte) (later (omega arith))
        ∙ ap (λ n. Some (byte ∷ take (position_or_len is_feed bytes) bytes, drop n (byte ∷ bytes))) (sym next)
        ∙ ap (At (byte ∷ bytes)) (sym more)

past_place : (bytes : List ℕ) → length bytes ≤ position_or_len is_feed bytes → cut_line bytes ≡ None
past_place [] past = refl
past_place (byte ∷ bytes) past = step (eqb byte 10) refl (past_place bytes) past
  where
    step : (b : Bool) → eqb byte 10 ≡ b → (length bytes ≤ position_or_len is_feed bytes → cut_line bytes ≡ None)
        → length (byte ∷ bytes) ≤ cond (not b) (1 + position_or_len is_feed bytes) 0 → after byte bytes b ≡ None
    step true is later past = absurd (omega arith)
    step false is later past = ap (onto byte) (later (omega arith))

-- a byte that is no line feed
no_feed : (bytes : List ℕ) (place : ℕ) → ¬ Passes (is_byte 10) bytes place → is_feed (slice_index bytes place) ≡ false
no_feed bytes place other = step (is_feed (slice_index bytes place)) refl
  where
    step : (b : Bool) → is_feed (slice_index bytes place) ≡ b → is_feed (slice_index bytes place) ≡ false
    step true is = absurd (other is)
    step false is = is

-- The first line feed that a search finds is the first one.
pub feed-found : (bytes : List ℕ) (place : Option ℕ) → IsFirstByte (is_byte 10) bytes place
    → place ≡ position is_feed bytes
feed-found bytes None none =
    let past : position_or_len is_feed bytes ≡ length bytes =
    position_or_len_is is_feed bytes (length bytes) 0 (omega arith)
    (λ at before. no_feed bytes at (none at (omega arith) before)) (λ within. absurd (omega arith)) in
    sym (cond-false (ltb (position_or_len is_feed bytes) (length bytes)) (Some (position_or_len is_feed bytes)) None
    (le-ltb _ _ (omega (arith, past))))
feed-found bytes (Some place) found =
    let here : position_or_len is_feed bytes ≡ place =
    position_or_len_is is_feed bytes place 0 (omega (arith, found.0.high))
    (λ at before. no_feed bytes at (found.0.before at (omega arith) before)) (λ within. found.1) in
    sym (cond-true (ltb (position_or_len is_feed bytes) (length bytes)) (Some (position_or_len is_feed bytes)) None
    (lt-ltb _ _ (omega (arith, found.0.high))) ∙ ap Some here)

-- by the place of the first line feed
pub cut-found : (bytes : List ℕ) (end : ℕ) → Some end ≡ position is_feed bytes
    → Some (take end bytes, take (length bytes - (end + 1)) (drop (end + 1) bytes)) ≡ cut_line bytes
cut-found bytes end is =
    ap (λ rest. Some (take end bytes, rest)) (take_rest bytes (end + 1))
    ∙ step (ltb (position_or_len is_feed bytes) (length bytes)) refl is
  where
    step : (b : Bool) → ltb (position_or_len is_feed bytes) (length bytes) ≡ b
        → Some end ≡ cond b (Some (position_or_len is_feed bytes)) None → At bytes end ≡ cut_line bytes
    step true within found = let same : end ≡ position_or_len is_feed bytes =
        same_Some _ _ found in ap (At bytes) same ∙ sym (at_place bytes (ltb-true _ _ within))
    step false past found = absurd (none-some _ (sym found))

pub cut-missing : (bytes : List ℕ) → None ≡ position is_feed bytes → None ≡ cut_line bytes
cut-missing bytes is = step (ltb (position_or_len is_feed bytes) (length bytes)) refl is
  where
    step : (b : Bool) → ltb (position_or_len is_feed bytes) (length bytes) ≡ b
        → None ≡ cond b (Some (position_or_len is_feed bytes)) None → None ≡ cut_line bytes
    step true within found = absurd (none-some _ found)
    step false past found = sym (past_place bytes (ltb-false _ _ past))

pub one_line : (bytes line rest : List ℕ) → Some (line, rest) ≡ cut_line bytes
    → (length (ended_lines bytes) ≡ length (ended_lines rest) + 1) × (length rest + 1 ≤ length bytes)
one_line bytes line rest is =
    let cut = cut_some bytes line rest (sym is) in
    let lines : length (ended_lines bytes) ≡ length (line ∷ ended_lines rest) = ap length cut.lines in
    let whole : length bytes ≡ length (line ++ 10 ∷ rest) = ap length cut.whole in
    (omega arith, omega (arith, length-append line (10 ∷ rest)))

pub no_line : (bytes : List ℕ) → None ≡ cut_line bytes → length (ended_lines bytes) ≡ 0
no_line bytes is = ap length (cut_none bytes (sym is))
