-- Of is_allowed and keeping: sets of edges, what is in them, and when two are the same.
use Rattle.std.proofs.Common.{◌≡◌, ◌+◌, ◌*◌, ◌/◌, ◌%◌, ◌^◌, ◌<◌, ◌≤◌, ◌∙◌, ◌⊎◌, inl, inr, ℕ, Bool, true, false, not}
use Rattle.std.proofs.Common.{◌&&◌, ◌||◌, eqb, leb, ltb, List, [], ◌∷◌, ◌++◌, length, replicate, get_or, set, take, ap}
use Rattle.std.proofs.Common.{sym, refl, arith}
use Rattle.std.proofs.lemmas.Bool.{cases_eq, cases_lt, eq-eqb, le-leb, le-ltb, lt-ltb, ne_eqb}
use Rattle.std.proofs.lemmas.List.{get_or-replicate, get_or-set_other, get_or-set_same, get_or_past, length-replicate}
use Rattle.std.proofs.lemmas.List.{length-set, take_more}
use Rattle.std.proofs.lemmas.List.FromFn.{fill_by_all, get_or-map-range_with_len, length-map-range_with_len}
use Rattle.std.proofs.lemmas.Nat.Bits.{bit_at_ones}
use Rattle.colour_graph.specs.EdgeSet.{is_allowed, is_named, keeping}
use Rattle.colour_graph.specs.inside.Bits.{is_marked, marks_of}
use Rattle.colour_graph.proofs.Marks.{get_or-marks_of, length-marks_of}

-- a set that is kept as bits
pub length-kept : (words : List ℕ) (count : ℕ) (value : List Bool) → marks_of words count ≡ value → length value ≡ count
length-kept words count value is = sym (ap (λ marks. length marks) is) ∙ length-marks_of words count

pub is_allowed-kept : (words : List ℕ) (count : ℕ) (value : List Bool) → marks_of words count ≡ value → (edge : ℕ)
    → edge < length value → is_marked words edge ≡ is_allowed value edge
is_allowed-kept words count value is edge within =
    sym (get_or-marks_of words count edge false (omega (arith, length-kept words count value is)))
    ∙ ap (λ marks. get_or marks edge false) is

marks_of-set : (words new : List ℕ) (count edge : ℕ) (value : List Bool) (mark : Bool) → marks_of words count ≡ value
    → edge < length value
    → is_marked new edge ≡ mark → ((other : ℕ) → (other ≡ edge → ⊥) → is_marked new other ≡ is_marked words other)
    → marks_of new count ≡ set value edge mark
marks_of-set words new count edge value mark is within here others =
    sym (fill_by_all (is_marked new) (set value edge mark) count false
    (length-set value edge mark ∙ length-kept words count value is) each)
  where
    each : (other : ℕ) → other < count → get_or (set value edge mark) other false ≡ is_marked new other
    each other at = choose (cases_eq other edge)
      where
        choose : (other ≡ edge) ⊎ (other ≡ edge → ⊥) → get_or (set value edge mark) other false ≡ is_marked new other
        choose (inl same) = rw same (get_or-set_same value edge mark false within ∙ sym here)
        choose (inr apart) =
            get_or-set_other value edge other mark false apart
            ∙ sym (is_allowed-kept words count value is other (omega (arith, length-kept words count value is)))
            ∙ sym (others other apart)

pub marks_of-mark : (words new : List ℕ) (count edge : ℕ) (value : List Bool) → marks_of words count ≡ value
    → edge < length value
    → ((other : ℕ) → is_marked new other ≡ (eqb other edge || is_marked words other)) → marks_of new count
    ≡ set value edge true
marks_of-mark words new count edge value is within each =
    marks_of-set words new count edge value true is within
    (each edge ∙ ap (λ same. same || is_marked words edge) (eq-eqb edge edge refl))
    (λ other apart. each other ∙ ap (λ same. same || is_marked words other) (ne_eqb other edge apart))

pub marks_of-unmark : (words new : List ℕ) (count edge : ℕ) (value : List Bool) → marks_of words count ≡ value
    → edge < length value
    → ((other : ℕ) → is_marked new other ≡ (not (eqb other edge) && is_marked words other)) → marks_of new count
    ≡ set value edge false
marks_of-unmark words new count edge value is within each =
    marks_of-set words new count edge value false is within
    (each edge ∙ ap (λ same. not same && is_marked words edge) (eq-eqb edge edge refl))
    (λ other apart. each other ∙ ap (λ same. not same && is_marked words other) (ne_eqb other edge apart))

-- all bits are set
pub marks_of-all : (words : List ℕ) (long count : ℕ) → words ≡ replicate long 18446744073709551615 → count ≤ 64 * long
    → marks_of words count ≡ replicate count true
marks_of-all words long count is within =
    sym (fill_by_all (is_marked words) (replicate count true) count false (length-replicate count true) each)
  where
    in_word : (place : ℕ) → place < 64 * long → place / 64 < long
    in_word place at = omega arith

    in_bits : (place : ℕ) → place % 64 < 64
    in_bits place = omega arith

    each : (place : ℕ) → place < count → get_or (replicate count true) place false ≡ is_marked words place
    each place at =
        get_or-replicate count place true false at
        ∙ sym (ap (λ bit. eqb bit 1) (ap (λ items. get_or items (place / 64) 0 / 2 ^ (place % 64) % 2) is
        ∙ ap (λ word. word / 2 ^ (place % 64) % 2)
        (get_or-replicate long (place / 64) 18446744073709551615 0 (in_word place (omega arith)))
        ∙ bit_at_ones 64 (place % 64) (in_bits place)))

-- the set without the edges that fail a test
pub is_allowed-keeping : (test : ℕ → Bool) (allowed : List Bool) (edge : ℕ)
    → is_allowed (keeping test allowed) edge ≡ (is_allowed allowed edge && test edge)
is_allowed-keeping test allowed edge = choose (cases_lt edge (length allowed))
  where
    choose : (edge < length allowed) ⊎ (length allowed ≤ edge)
        → is_allowed (keeping test allowed) edge ≡ (is_allowed allowed edge && test edge)
    choose (inl within) =
        get_or-map-range_with_len (λ at. is_allowed allowed at && test at) 0 (length allowed) edge edge false within
        (omega arith)
    choose (inr past) =
        get_or_past (keeping test allowed) edge false
        (omega (arith, length-map-range_with_len (λ at. is_allowed allowed at && test at) 0 (length allowed)))
        ∙ sym (ap (λ here. here && test edge) (get_or_past allowed edge false past))

pub length-keeping : (test : ℕ → Bool) (allowed : List Bool) → length (keeping test allowed) ≡ length allowed
length-keeping test allowed = length-map-range_with_len (λ at. is_allowed allowed at && test at) 0 (length allowed)

pub keeping-same : (test : ℕ → Bool) (allowed new : List Bool) → length new ≡ length allowed
    → ((edge : ℕ) → edge < length allowed → is_allowed new edge ≡ (is_allowed allowed edge && test edge))
    → new ≡ keeping test allowed
keeping-same test allowed new long each =
    fill_by_all (λ at. is_allowed allowed at && test at) new (length allowed) false long each

-- what a list names, one edge further
pub is_named-more : (part : List ℕ) (place edge : ℕ) → place < length part
    → is_named (take (place + 1) part) edge ≡ (is_named (take place part) edge || eqb (get_or part place 0) edge)
is_named-more part place edge within =
    ap (λ named. is_named named edge) (take_more part place 0 within) ∙ at_end (take place part) (get_or part place 0)
  where
    at_end : (front : List ℕ) (last : ℕ) → is_named (front ++ last ∷ []) edge ≡ (is_named front edge || eqb last edge)
    at_end [] last = or_false (eqb last edge)
      where
        or_false : (b : Bool) → (b || false) ≡ b
        or_false true = refl
        or_false false = refl
    at_end (first ∷ front) last =
        ap (λ rest. eqb first edge || rest) (at_end front last)
        ∙ regroup (eqb first edge) (is_named front edge) (eqb last edge)
      where
        regroup : (a b c : Bool) → (a || (b || c)) ≡ ((a || b) || c)
        regroup true b c = refl
        regroup false b c = refl

-- one edge more is taken out
pub taken_out : (allowed : List Bool) (part : List ℕ) (place : ℕ) (now : List Bool) → length now ≡ length allowed
    → ((edge : ℕ) → is_allowed now edge ≡ (is_allowed allowed edge && not (is_named (take place part) edge)))
    → place < length part → get_or part place 0 < length allowed
    → (edge : ℕ) → is_allowed (set now (get_or part place 0) false) edge
    ≡ (is_allowed allowed edge && not (is_named (take (place + 1) part) edge))
taken_out allowed part place now long so_far within at edge =
    choose (cases_eq edge (get_or part place 0))
    ∙ ap (λ named. is_allowed allowed edge && not named) (sym (is_named-more part place edge within))
  where
    cleared : (a b : Bool) → false ≡ (a && not (b || true))
    cleared true true = refl
    cleared true false = refl
    cleared false b = refl

    same : (a b : Bool) → (a && not b) ≡ (a && not (b || false))
    same true true = refl
    same true false = refl
    same false b = refl

    choose : (edge ≡ get_or part place 0) ⊎ (edge ≡ get_or part place 0 → ⊥)
        → is_allowed (set now (get_or part place 0) false) edge
        ≡ (is_allowed allowed edge && not (is_named (take place part) edge || eqb (get_or part place 0) edge))
    choose (inl is) =
        ap (λ e. is_allowed (set now (get_or part place 0) false) e) is
        ∙ get_or-set_same now (get_or part place 0) false false (omega (arith, long))
        ∙ cleared (is_allowed allowed edge) (is_named (take place part) edge)
        ∙ ap (λ last. is_allowed allowed edge && not (is_named (take place part) edge || last))
        (sym (eq-eqb (get_or part place 0) edge (sym is)))
    choose (inr apart) =
        get_or-set_other now (get_or part place 0) edge false false apart ∙ so_far edge
        ∙ same (is_allowed allowed edge) (is_named (take place part) edge)
        ∙ ap (λ last. is_allowed allowed edge && not (is_named (take place part) edge || last))
        (sym (ne_eqb (get_or part place 0) edge (λ is. apart (sym is))))

-- one edge more of a row is taken out
abbrev pub in_row : ℕ → ℕ → ℕ → Bool
in_row first past edge = leb first edge && ltb edge past

pub taken_from_row : (allowed now : List Bool) (first place edge : ℕ) → length now ≡ length allowed → first ≤ place
    → place < length allowed
    → ((other : ℕ) → is_allowed now other ≡ (is_allowed allowed other && not (in_row first place other)))
    → is_allowed (set now place false) edge ≡ (is_allowed allowed edge && not (in_row first (place + 1) edge))
taken_from_row allowed now first place edge long from within so_far = choose (cases_eq edge place)
  where
    cleared : (a b c : Bool) → b ≡ true → c ≡ true → false ≡ (a && not (b && c))
    cleared true b c one other = rw (one, other) refl
    cleared false b c one other = refl

    choose : (edge ≡ place) ⊎ (edge ≡ place → ⊥)
        → is_allowed (set now place false) edge ≡ (is_allowed allowed edge && not (in_row first (place + 1) edge))
    choose (inl is) =
        ap (λ e. is_allowed (set now place false) e) is ∙ get_or-set_same now place false false (omega (arith, long))
        ∙ cleared (is_allowed allowed edge) (leb first edge) (ltb edge (place + 1)) (le-leb first edge (omega arith))
        (lt-ltb edge (place + 1) (omega arith))
    choose (inr apart) =
        get_or-set_other now place edge false false apart ∙ so_far edge
        ∙ ap (λ below. is_allowed allowed edge && not (leb first edge && below)) (one_more (cases_lt edge place))
      where
        one_more : (edge < place) ⊎ (place ≤ edge) → ltb edge place ≡ ltb edge (place + 1)
        one_more (inl below) = lt-ltb edge place below ∙ sym (lt-ltb edge (place + 1) (omega arith))
        one_more (inr above) = le-ltb edge place above ∙ sym (le-ltb edge (place + 1) (omega arith))

-- one edge more is put back, where the other set has it
pub put_back-put : (old other now : List Bool) (part : List ℕ) (place edge : ℕ) → length now ≡ length old
    → place < length part → get_or part place 0 < length old
    → is_allowed other (get_or part place 0) ≡ true
    → ((at : ℕ) → is_allowed now at ≡ (is_allowed old at || (is_allowed other at && is_named (take place part) at)))
    → is_allowed (set now (get_or part place 0) true) edge
    ≡ (is_allowed old edge || (is_allowed other edge && is_named (take (place + 1) part) edge))
put_back-put old other now part place edge long within at has so_far =
    choose (cases_eq edge (get_or part place 0))
    ∙ ap (λ named. is_allowed old edge || (is_allowed other edge && named))
    (sym (is_named-more part place edge within))
  where
    put : (a b c : Bool) → b ≡ true → true ≡ (a || (b && (c || true)))
    put true b c is = refl
    put false b true is = rw is refl
    put false b false is = rw is refl

    same : (a b c : Bool) → (a || (b && c)) ≡ (a || (b && (c || false)))
    same a b true = refl
    same a b false = refl

    choose : (edge ≡ get_or part place 0) ⊎ (edge ≡ get_or part place 0 → ⊥)
        → is_allowed (set now (get_or part place 0) true) edge
        ≡ (is_allowed old edge ||
        (is_allowed other edge && (is_named (take place part) edge || eqb (get_or part place 0) edge)))
    choose (inl is) =
        ap (λ e. is_allowed (set now (get_or part place 0) true) e) is
        ∙ get_or-set_same now (get_or part place 0) true false (omega (arith, long))
        ∙ put (is_allowed old edge) (is_allowed other edge) (is_named (take place part) edge)
        (ap (λ e. is_allowed other e) is ∙ has)
        ∙ ap (λ last. is_allowed old edge || (is_allowed other edge && (is_named (take place part) edge || last)))
        (sym (eq-eqb (get_or part place 0) edge (sym is)))
    choose (inr apart) =
        get_or-set_other now (get_or part place 0) edge true false apart ∙ so_far edge
        ∙ same (is_allowed old edge) (is_allowed other edge) (is_named (take place part) edge)
        ∙ ap (λ last. is_allowed old edge || (is_allowed other edge && (is_named (take place part) edge || last)))
        (sym (ne_eqb (get_or part place 0) edge (λ is. apart (sym is))))

-- it stays out, where the other set does not have it
pub put_back-passed : (old other now : List Bool) (part : List ℕ) (place edge : ℕ) → place < length part
    → is_allowed other (get_or part place 0) ≡ false
    → ((at : ℕ) → is_allowed now at ≡ (is_allowed old at || (is_allowed other at && is_named (take place part) at)))
    → is_allowed now edge ≡ (is_allowed old edge || (is_allowed other edge && is_named (take (place + 1) part) edge))
put_back-passed old other now part place edge within lacks so_far =
    so_far edge ∙ ap (λ both. is_allowed old edge || both) (choose (cases_eq edge (get_or part place 0)))
    ∙ ap (λ named. is_allowed old edge || (is_allowed other edge && named)) (sym (is_named-more part place edge within))
  where
    same : (b c : Bool) → (b && c) ≡ (b && (c || false))
    same b true = refl
    same b false = refl

    none : (b c d : Bool) → b ≡ false → (b && c) ≡ (b && d)
    none b c d is = rw is refl

    choose : (edge ≡ get_or part place 0) ⊎ (edge ≡ get_or part place 0 → ⊥)
        → (is_allowed other edge && is_named (take place part) edge)
        ≡ (is_allowed other edge && (is_named (take place part) edge || eqb (get_or part place 0) edge))
    choose (inl is) =
        none (is_allowed other edge) (is_named (take place part) edge)
        (is_named (take place part) edge || eqb (get_or part place 0) edge) (ap (λ e. is_allowed other e) is ∙ lacks)
    choose (inr apart) =
        same (is_allowed other edge) (is_named (take place part) edge)
        ∙ ap (λ last. is_allowed other edge && (is_named (take place part) edge || last))
        (sym (ne_eqb (get_or part place 0) edge (λ is. apart (sym is))))
