-- Numbers to the end of a line are read as they are written.
use Rattle.std.proofs.Common.{◌≡◌, ◌<◌, ◌≤◌, ◌∙◌, ◌^◌, ℕ, zero, suc, ℤ, pos, negsuc, neg_ℤ, true, ◌&&◌, List, [], ◌∷◌}
use Rattle.std.proofs.Common.{◌++◌, length, map, Some, None, leb, refl, sym, ap, subst, arith}
use Rattle.std.specs.Fmt.{signed_decimal}
use Rattle.std.specs.List.{flat_map, list_all}
use Rattle.std.proofs.lemmas.Bool.{and_parts}
use Rattle.std.proofs.lemmas.List.{map-id}
use lib.Signed.{mag}
use Rattle.tree_document.specs.Line.{WritesAll, is_number}
use Rattle.tree_certificate.specs.Number.{is_near}
use Rattle.line_fields.specs.Field.{capped, naturals_at, number_in, numbers_at, signed_in, signed_kind}
use Rattle.line_fields.specs.Field.{value_at}
use Rattle.line_fields.proofs.FieldKinds.{capped_below, capped_signed, near_capped, number_complete, number_sound}
use Rattle.line_fields.proofs.FieldKinds.{signed_below, signed_complete, signed_sound, signed_text}
use Rattle.line_fields.proofs.TokenLists.{IsReader, each_at, each_complete, each_sound, no_value, one_value}
use Rattle.line_fields.proofs.TokenLists.{taken_from, with_value}

signed_reader : IsReader signed_in (λ z. z) capped_signed
signed_reader = record { sound = signed_sound; complete = signed_complete }

natural_reader : IsReader number_in (λ n. pos n) capped
natural_reader = record {
  sound = λ token v read. number_sound token v (is_number token) refl read;
  complete =
      number_complete;
}

pub numbers_at-each : (text : List ℕ) → numbers_at text ≡ each_at signed_in text
numbers_at-each [] = refl
numbers_at-each (byte ∷ text) = refl

pub naturals_at-each : (text : List ℕ) → 0 < length text → naturals_at text ≡ each_at number_in text
naturals_at-each [] some = absurd (omega arith)
naturals_at-each (byte ∷ text) some = refl

pub numbers_complete : (zs : List ℤ) (text : List ℕ) → WritesAll zs text → numbers_at text ≡ Some (map capped_signed zs)
numbers_complete zs text is =
    each_complete signed_in (λ z. z) capped_signed signed_reader zs text
    (subst (λ list. WritesAll list text) (sym (map-id zs)) is)

pub numbers_sound : (text : List ℕ) (vs : List ℤ) → numbers_at text ≡ Some vs
    → (zs : List ℤ) × WritesAll zs text × (vs ≡ map capped_signed zs)
numbers_sound text vs read =
    let found = each_sound signed_in (λ z. z) capped_signed signed_reader text vs (sym (numbers_at-each text) ∙ read) in
    (found.0, subst (λ list. WritesAll list text) (map-id found.0) found.1, found.2)

written_some : (ns : List ℕ) (text : List ℕ) → 1 ≤ length (map (λ n. pos n) ns) → WritesAll (map (λ n. pos n) ns) text
    → 0 < length text
written_some [] text some is = absurd (omega arith)
written_some (n ∷ ns) text some is = let whole : length text ≡ length (32 ∷ (is.0 ++ is.1)) =
    ap length is.2 in omega arith

pub naturals_complete : (ns : List ℕ) (text : List ℕ) → 1 ≤ length (map (λ n. pos n) ns)
    → WritesAll (map (λ n. pos n) ns) text → naturals_at text ≡ Some (map capped ns)
naturals_complete ns text some is =
    naturals_at-each text (written_some ns text some is) ∙ each_complete number_in (λ n. pos n) capped natural_reader ns
    text is

some_written : (zs : List ℤ) (text : List ℕ) → 0 < length text → WritesAll zs text → 1 ≤ length zs
some_written [] text some is = let none : length text ≡ 0 = ap length is in absurd (omega arith)
some_written (z ∷ zs) text some is = omega arith

pub naturals_sound : (text : List ℕ) (vs : List ℕ) → naturals_at text ≡ Some vs
    → (ns : List ℕ) × (1 ≤ length (map (λ n. pos n) ns)) × WritesAll (map (λ n. pos n) ns) text × (vs ≡ map capped ns)
naturals_sound [] vs read = (cc)
naturals_sound (byte ∷ text) vs read =
    let found = each_sound number_in (λ n. pos n) capped natural_reader (byte ∷ text) vs read in
    (found.0, some_written (map (λ n. pos n) found.0) (byte ∷ text) (omega arith) found.1, found.1, found.2)

-- their ranges
pub near_kept : (most : ℕ) (zs : List ℤ) → leb most 1000000000000000000 ≡ true
    → list_all (is_near most) (map capped_signed zs) ≡ list_all (is_near most) zs
near_kept most [] small = refl
near_kept most (z ∷ zs) small = λ i. near_capped most z small i && near_kept most zs small i

pub numbers_kept : (most : ℕ) (zs : List ℤ) → leb most 1000000000000000000 ≡ true → list_all (is_near most) zs ≡ true
    → map capped_signed zs ≡ zs
numbers_kept most [] small near = refl
numbers_kept most (z ∷ zs) small near =
    let parts = and_parts (is_near most z) (list_all (is_near most) zs) near in
    λ i. signed_below most z small parts.0 i ∷ numbers_kept most zs small parts.1 i

pub naturals_capped : (ns : List ℕ) → map (λ n. pos n) (map capped ns) ≡ map capped_signed (map (λ n. pos n) ns)
naturals_capped [] = refl
naturals_capped (n ∷ ns) = ap (λ zs. pos (capped n) ∷ zs) (naturals_capped ns)

pub naturals_kept : (most : ℕ) (ns : List ℕ) → leb most 1000000000000000000 ≡ true
    → list_all (is_near most) (map (λ n. pos n) ns) ≡ true → map capped ns ≡ ns
naturals_kept most [] small near = refl
naturals_kept most (n ∷ ns) small near =
    let parts = and_parts (is_near most (pos n)) (list_all (is_near most) (map (λ n. pos n) ns)) near in
    λ i. capped_below n most small parts.0 i ∷ naturals_kept most ns small parts.1 i

pub numbers_text : (most : ℕ) (zs : List ℤ) (text : List ℕ) → leb most 1000000000000000000 ≡ true
    → list_all (is_near most) zs ≡ true → WritesAll zs text
    → text ≡ flat_map (λ number. 32 ∷ signed_decimal number) zs
numbers_text most [] text small near is = is
numbers_text most (z ∷ zs) text small near is =
    let parts = and_parts (is_near most z) (list_all (is_near most) zs) near in
    let first : is.0 ≡ signed_decimal z = signed_text most z is.0 small parts.0 is.3 in
    let others : is.1 ≡ flat_map (λ number. 32 ∷ signed_decimal number) zs =
    numbers_text most zs is.1 small parts.1 is.4 in
    is.2 ∙ (λ i. 32 ∷ (first i ++ others i))

-- numbers one by one
pub one_number : (text rest : List ℕ) (number : ℤ) → 0 < length text
    → Some (number, rest) ≡ value_at (signed_kind 0) text → numbers_at text ≡ with_value number (numbers_at rest)
one_number text rest number some is =
    numbers_at-each text ∙ one_value (signed_kind 0) text rest number some is
    ∙ ap (with_value number) (sym (numbers_at-each rest))

pub no_number : (text : List ℕ) → 0 < length text → None ≡ value_at (signed_kind 0) text → numbers_at text ≡ None
no_number text some is = numbers_at-each text ∙ no_value (signed_kind 0) text some is

-- a number that is read fits 64 bits
mag-neg-le : (n : ℕ) → mag (neg_ℤ (pos n)) ≤ n
mag-neg-le zero = omega arith
mag-neg-le (suc n) = omega arith

small_capped : (z : ℤ) → mag (capped_signed z) < 2 ^ 63
small_capped (pos n) = omega arith
small_capped (negsuc n) = let below = mag-neg-le (capped (suc n)) in omega arith

pub small_next : (text rest : List ℕ) (number : ℤ) → Some (number, rest) ≡ value_at (signed_kind 0) text
    → mag number < 2 ^ 63
small_next text rest number is =
    let from = taken_from (signed_kind 0) text rest number is in
    let sound = signed_sound from.0 number from.2 in
    subst (λ z. mag z < 2 ^ 63) (sym sound.2) (small_capped sound.0)
