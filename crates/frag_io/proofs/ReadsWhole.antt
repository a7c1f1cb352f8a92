-- For `ReadsWhole`: what comes of a reading that ends before its text does.
use Rattle.std.proofs.Common.{◌≡◌, ◌<◌, ◌≤◌, ◌+◌, ◌-◌, ◌++◌, ◌↔◌, ℕ, List, Option, Some, None, IfSome, Result, Ok}
use Rattle.std.proofs.Common.{Err, IsErrAnd, length, take, drop, append-nil, sym, ap, ◌∙◌, subst, append_assoc, arith}
use Rattle.std.proofs.Common.{length-append}
use Rattle.std.proofs.lemmas.List.{length-take-le, take_all, drop_all}
use Rattle.frag_io.specs.declared.whole.ReadWhole.{ReadWhole}
use Rattle.frag_io.specs.declared.whole.ReadWhole.TheVariants.{TooLong}
use Rattle.frag_io.specs.Desk.{Moves}
use Rattle.frag_io.specs.Whole.{ReadsWhole, greatest_piece}

-- the error that an `Err` holds
pub Err-of : {T E : Type 0} (result : Result T E) (fault : E) → IsErrAnd result (λ e. e ≡ fault) → result ≡ Err fault
Err-of (Ok value) fault is = absurd is
Err-of (Err e) fault is = ap (λ x. Err x) is

-- A reading that ends with a read of more bytes, and not with all of the text.
pub ReadsWhole-part : (limit n : ℕ) (told left left' : Option (List ℕ)) (so_far buffer : List ℕ) (fault : ReadWhole)
    → IfSome told (λ text. (rest : List ℕ) × (left ≡ Some rest) × (text ≡ so_far ++ rest))
    → Moves left left' buffer n
    → n ≤ length buffer
    → ((fault ≡ TooLong) ↔ (limit < length so_far + n))
    → length so_far + n ≤ limit + greatest_piece
    → IfSome told (ReadsWhole limit left' (Err fault))
ReadsWhole-part limit n None left left' so_far buffer fault had moved fits too_long stops = tt
ReadsWhole-part limit n (Some text) left left' so_far buffer fault had moved fits too_long stops =
    let moves : Moves (Some had.0) left' buffer n =
    subst (λ (told : Option (List ℕ)). Moves told left' buffer n) had.1 moved in
    let long : length (so_far ++ take n buffer) ≡ length so_far + n =
    omega (arith, length-append so_far (take n buffer), length-take-le n buffer fits) in
    record {
      read = so_far ++ take n buffer;
      rest = moves.0;
      parts = had.2 ∙ ap (λ (l : List ℕ). so_far ++ l) moves.2 ∙ sym (append_assoc so_far (take n buffer) moves.0);
      rest_is_left = moves.1;
      whole = tt;
      too_long = (
        λ is. omega (arith, long, too_long.0 cc),
        λ above. ap (λ (f : ReadWhole). Err f) (too_long.1 (omega (arith, long))),
      );
      stops = omega (arith, long, stops);
    }

-- a buffer that was written wholly is what was written
pub buffer_now : (new items : List ℕ) (len : ℕ) → len ≡ length items → length new ≡ length items
    → take len (new ++ drop (length new) items) ≡ new
buffer_now new items len is same =
    rw (drop_all (length new) items (omega arith), append-nil) (take_all len new (omega arith))

-- a read that stays within the limit
pub stays_short : (so_far so_far' buffer : List ℕ) (n limit taken : ℕ) → so_far' ≡ so_far ++ take n buffer
    → n ≤ length buffer → taken ≡ length so_far → n ≤ limit - taken → length so_far ≤ limit → length so_far' ≤ limit
stays_short so_far so_far' buffer n limit taken is fits counted room short =
    omega (arith, ap length is, length-append so_far (take n buffer), length-take-le n buffer fits)

-- what is left behind one read more
pub left_behind : (told left left' : Option (List ℕ)) (so_far so_far' buffer : List ℕ) (n : ℕ)
    → IfSome told (λ text. (rest : List ℕ) × (left ≡ Some rest) × (text ≡ so_far ++ rest))
    → Moves left left' buffer n → so_far' ≡ so_far ++ take n buffer
    → IfSome told (λ text. (rest : List ℕ) × (left' ≡ Some rest) × (text ≡ so_far' ++ rest))
left_behind None left left' so_far so_far' buffer n had moved is = tt
left_behind (Some text) left left' so_far so_far' buffer n had moved is =
    let moves : Moves (Some had.0) left' buffer n =
    subst (λ (told : Option (List ℕ)). Moves told left' buffer n) had.1 moved in
    let behind = had.2 ∙ ap (λ (l : List ℕ). so_far ++ l) moves.2 ∙ sym (append_assoc so_far (take n buffer) moves.0) in
    (moves.0, moves.1, behind ∙ ap (λ (l : List ℕ). l ++ moves.0) (sym is))
