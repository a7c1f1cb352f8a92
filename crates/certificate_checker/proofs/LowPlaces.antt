-- The first number of a vertex that is too low: from sets of one size to all places of its row.
use Rattle.std.proofs.Common.{◌≡◌, ◌⊎◌, inl, inr, ◌+◌, ◌-◌, ◌*◌, ◌/◌, ◌%◌, ◌^◌, ◌<◌, ◌≤◌, ◌↔◌, ℕ, zero, suc, ℤ, pos}
use Rattle.std.proofs.Common.{◌≤ℤ◌, ◌<ℤ◌, Bool, true, false, List, [], ◌∷◌, Option, Some, None, length, ap, sym, refl}
use Rattle.std.proofs.Common.{subst, ◌∙◌, arith, mul-zero, mul_assoc, mul_comm, pow-suc, pow_pos}
use Rattle.std.proofs.Math.Nat.{lt_of_mul-lt-mul_left, mul-lt-mul_of_pos_left}
use Rattle.std.proofs.lemmas.Bool.{cases_eq, cases_lt}
use Rattle.std.proofs.lemmas.Nat.{pow-add}
use Rattle.colour_graph.specs.Graph.{Graph, colour_count, colour_of}
use Rattle.tree_certificate.specs.ColourSet.{place_of}
use Rattle.tree_certificate.specs.TableHolds.{IsHighAt, IsHighEnough, number_at, number_of, place_in, row_at}
use Rattle.tree_certificate.specs.TableHolds.{row_length}
use Rattle.tree_certificate.proofs.Tables.{place_in-lt}
use Rattle.certificate_checker.specs.declared.low.Low.{Low}
use Rattle.tree_certificate.specs.Enough.{IsEnough}
use Rattle.tree_certificate.specs.Number.{number_in}
use Rattle.certificate_checker.specs.inside.Enough.{AreGainsBefore, AreNumbersBelow}
use Rattle.certificate_checker.specs.inside.Low.{IsEarlier, IsFoundOfSizes, IsFoundOfVertex, IsFoundSet, IsLowOfSizes}
use Rattle.certificate_checker.specs.inside.Low.{IsLowOfVertex, IsSetHigh}
use Rattle.certificate_checker.proofs.EnoughIsHigh.{AreGathered, enough_is_high}
use Rattle.tree_certificate.proofs.SetParts.{place-lt}

-- a set of so many colours that stands at a place
pub record SetAt (size place : ℕ) : Type 0 where
  pub set : List Bool
  pub long : length set ≡ size
  pub at_place : place_of set ≡ place

-- one more colour before a set that stands at half a place
set_at-more : (size place : ℕ) → SetAt size (place / 2) → SetAt (suc size) place
set_at-more size place rest = choose (cases_eq (place % 2) 1)
  where
    odd : (n h : ℕ) → n % 2 ≡ 1 → h ≡ n / 2 → 1 + 2 * h ≡ n
    odd n h is same = omega arith

    even : (n h : ℕ) → (n % 2 ≡ 1 → ⊥) → h ≡ n / 2 → 2 * h ≡ n
    even n h is same = omega arith

    choose : (place % 2 ≡ 1) ⊎ (place % 2 ≡ 1 → ⊥) → SetAt (suc size) place
    choose (inl is) = record {
      set = true ∷ rest.set;
      long = ap suc rest.long;
      at_place = odd place (place_of rest.set) is rest.at_place;
    }
    choose (inr is) = record {
      set = false ∷ rest.set;
      long = ap suc rest.long;
      at_place = even place (place_of rest.set) is rest.at_place;
    }

pub half : (n power more : ℕ) → more ≡ power * 2 → n < more → n / 2 < power
half n power more twice few = omega arith

-- The places of the sets of so many colours are the numbers below 2 to their number.
pub set_at : (size place : ℕ) → place < 2 ^ size → SetAt size place
set_at zero place within = record { set = []; long = refl; at_place = none place within }
  where
    none : (n : ℕ) → n < 1 → 0 ≡ n
    none n few = omega arith
set_at (suc size) place within = set_at-more size place
    (set_at size (place / 2) (half place (2 ^ size) (2 ^ suc size) (pow-suc 2 size) within))

-- Two sets of as many colours at one place are one.
same_set : (set other : List Bool) → length set ≡ length other → place_of set ≡ place_of other → set ≡ other
same_set [] [] long at = refl
same_set [] (there ∷ other) long at = absurd (omega arith)
same_set (here ∷ set) [] long at = absurd (omega arith)
same_set (true ∷ set) (true ∷ other) long at = ap (λ s. true ∷ s) (same_set set other (omega arith) (omega arith))
same_set (false ∷ set) (false ∷ other) long at = ap (λ s. false ∷ s) (same_set set other (omega arith) (omega arith))
same_set (true ∷ set) (false ∷ other) long at = absurd (omega arith)
same_set (false ∷ set) (true ∷ other) long at = absurd (omega arith)

pub double : (power odd : ℕ) → 2 ^ suc power * odd ≡ 2 * (2 ^ power * odd)
double power odd = ap (λ n. n * odd) (pow-suc 2 power ∙ mul_comm (2 ^ power) 2) ∙ mul_assoc 2 (2 ^ power) odd

-- An odd number times a power of 2 has one odd number and one power.
same_power : (one other x y : ℕ) → 2 ^ one * (1 + 2 * x) ≡ 2 ^ other * (1 + 2 * y) → (one ≡ other) × (x ≡ y)
same_power zero zero x y is = (refl, once x y is)
  where
    once : (a b : ℕ) → 1 * (1 + 2 * a) ≡ 1 * (1 + 2 * b) → a ≡ b
    once a b same = omega arith
same_power zero (suc other) x y is = absurd (not_even x (2 ^ other * (1 + 2 * y)) (is ∙ double other (1 + 2 * y)))
  where
    not_even : (a b : ℕ) → 1 * (1 + 2 * a) ≡ 2 * b → ⊥
    not_even a b same = omega arith
same_power (suc one) zero x y is = absurd (not_even y (2 ^ one * (1 + 2 * x)) (sym is ∙ double one (1 + 2 * x)))
  where
    not_even : (a b : ℕ) → 1 * (1 + 2 * a) ≡ 2 * b → ⊥
    not_even a b same = omega arith
same_power (suc one) (suc other) x y is =
    let rest = same_power one other x y (halves (2 ^ one * (1 + 2 * x)) (2 ^ other * (1 + 2 * y))
    (sym (double one (1 + 2 * x)) ∙ is ∙ double other (1 + 2 * y))) in
    (ap suc rest.0, rest.1)
  where
    halves : (a b : ℕ) → 2 * a ≡ 2 * b → a ≡ b
    halves a b same = omega arith

-- One place of a row is that of one set.
same_place : (graph : Graph) (vertex : ℕ) (set other : List Bool)
    → colour_of graph vertex + length set < colour_count graph
    → colour_of graph vertex + length other < colour_count graph
    → place_in graph vertex (true ∷ set) ≡ place_in graph vertex (true ∷ other) → set ≡ other
same_place graph vertex set other room also is =
    let same = same_power (colour_count graph - suc (length set) - colour_of graph vertex)
    (colour_count graph - suc (length other) - colour_of graph vertex) (place_of set) (place_of other) is in
    same_set set other (same_length (colour_count graph) (colour_of graph vertex) (length set)
    (length other) room also same.0) same.1
  where
    same_length : (count colour a b : ℕ) → colour + a < count → colour + b < count
        → count - suc a - colour ≡ count - suc b - colour → a ≡ b
    same_length count colour a b one two same = omega arith

some_place : (graph : Graph) (vertex : ℕ) (set : List Bool) → 0 < place_in graph vertex (true ∷ set)
some_place graph vertex set = some (2 ^ (colour_count graph - suc (length set) - colour_of graph vertex))
    (1 + 2 * place_of set) (pow_pos (colour_count graph - suc (length set) - colour_of graph vertex)) (omega arith)
  where
    some : (power odd : ℕ) → 0 < power → 0 < odd → 0 < power * odd
    some power odd one two =
        let product : power * 0 < power * odd = mul-lt-mul_of_pos_left two one in
        omega (arith, product, mul-zero power)

-- How a row is split by a colour and the sets of the colours behind it.
pub row_split : (count colour size step : ℕ) → colour + size < count → step ≡ 2 ^ (count - suc size - colour)
    → 2 ^ size * (2 * step) ≡ 2 ^ (count - colour)
row_split count colour size step room is =
    ap (λ n. 2 ^ size * n) (twice (count - suc size - colour) step is)
    ∙ sym (pow-add 2 size (suc (count - suc size - colour))) ∙ ap (λ n. 2 ^ n) (whole count colour size room)
  where
    twice : (power s : ℕ) → s ≡ 2 ^ power → 2 * s ≡ 2 ^ suc power
    twice power s same = ap (λ n. 2 * n) same ∙ mul_comm 2 (2 ^ power) ∙ sym (pow-suc 2 power)

    whole : (k c n : ℕ) → c + n < k → n + suc (k - suc n - c) ≡ k - c
    whole k c n few = omega arith

pub step_twice : (count colour size step : ℕ) → colour + size < count → step ≡ 2 ^ (count - suc size - colour)
    → 2 * step ≡ 2 ^ (count - size - colour)
step_twice count colour size step room is =
    ap (λ n. 2 * n) is ∙ mul_comm 2 (2 ^ (count - suc size - colour)) ∙ sym (pow-suc 2 (count - suc size - colour))
    ∙ ap (λ n. 2 ^ n) (one_more count colour size room)
  where
    one_more : (k c n : ℕ) → c + n < k → suc (k - suc n - c) ≡ k - n - c
    one_more k c n few = omega arith

pub gathered : (graph : Graph) (rows : List (List ℤ)) (vertex colour size step : ℕ) (row own gains : List ℤ)
    → colour + size ≡ colour_count graph
    → colour_of graph vertex + size < colour_count graph
    → step ≡ 2 ^ (colour_count graph - suc size - colour_of graph vertex) → row ≡ row_at rows vertex
    → AreNumbersBelow row (length row) → length row ≡ row_length graph vertex
    → ((place : ℕ) → place < 2 ^ size → number_in own place ≡ number_in row ((2 * step) * place))
    → AreGainsBefore graph rows vertex colour (length graph.edges) (2 ^ size) gains
    → AreGathered graph rows vertex colour size own gains
gathered graph rows vertex colour size step row own gains at room step_is row_is near long copied are = record {
  at = at;
  copied = λ place within. copied place within ∙ ap (λ r. number_in r ((2 * step) * place)) row_is
      ∙ ap (λ n. number_at rows vertex (n * place))
      (step_twice (colour_count graph) (colour_of graph vertex) size step room step_is);
  near = λ place within. rw (copied place within) (near ((2 * step) * place) (in_row place within));
  gained = are;
}
  where
    below : (twice place power all : ℕ) → 0 < twice → place < power → power * twice ≡ all → twice * place < all
    below twice place power all some within whole =
        let product : twice * place < twice * power = mul-lt-mul_of_pos_left within some in
        let turned : twice * power ≡ power * twice = mul_comm twice power in
        omega (arith, product, turned, whole)

    some_step : (s power : ℕ) → s ≡ power → 0 < power → 0 < 2 * s
    some_step s power same some = omega arith

    in_row : (place : ℕ) → place < 2 ^ size → (2 * step) * place < length row
    in_row place within = below (2 * step) place (2 ^ size) (length row)
        (some_step step (2 ^ (colour_count graph - suc size - colour_of graph vertex)) step_is
        (pow_pos (colour_count graph - suc size - colour_of graph vertex)))
        within (row_split (colour_count graph) (colour_of graph vertex) size step room step_is ∙ sym long)

both : {P Q R : Type 0} → P ↔ Q → Q ↔ R → P ↔ R
both one other = (λ p. other.0 (one.0 p), λ r. one.1 (other.1 r))

pub found_of_size : (graph : Graph) (rows : List (List ℤ)) (vertex colour size step : ℕ) (row own gains : List ℤ)
    → AreGathered graph rows vertex colour size own gains
    → step ≡ 2 ^ (colour_count graph - suc size - colour_of graph vertex) → row ≡ row_at rows vertex
    → (found : Option Low)
    → IsFoundSet row own gains step (2 ^ size) found → IsFoundOfSizes graph rows vertex size (size + 1) found
found_of_size graph rows vertex colour size step row own gains are step_is row_is found is = choose found is
  where
    place_is : (set : List Bool) → length set ≡ size
        → step * (1 + 2 * place_of set) ≡ place_in graph vertex (true ∷ set)
    place_is set long = ap (λ n. n * (1 + 2 * place_of set)) (step_is
        ∙ ap (λ n. 2 ^ (colour_count graph - suc n - colour_of graph vertex)) (sym long))

    there : (set : List Bool) → length set ≡ size
        → number_in row (step * (1 + 2 * place_of set)) ≡ number_of graph rows vertex (true ∷ set)
    there set long = ap (λ r. number_in r (step * (1 + 2 * place_of set))) row_is
        ∙ ap (λ place. number_at rows vertex place) (place_is set long)

    high : (set : List Bool) → length set ≡ size
        → IsEnough own gains set (number_in row (step * (1 + 2 * place_of set))) → IsSetHigh graph rows vertex set
    high set long enough =
        let P : ℤ → Type 0 = λ n. IsHighEnough graph rows vertex set n in
        subst P (there set long) ((enough_is_high graph rows vertex colour size own gains are set long
        (number_in row (step * (1 + 2 * place_of set)))).0 enough)

    one_size : (n : ℕ) → size ≤ n → n < size + 1 → n ≡ size
    one_size n low up = omega arith

    within : (set : List Bool) → length set ≡ size → place_of set < 2 ^ size
    within set long = rw (← long) (place-lt set)

    choose : (f : Option Low) → IsFoundSet row own gains step (2 ^ size) f
        → IsFoundOfSizes graph rows vertex size (size + 1) f
    choose None none = λ set low up. high set (one_size (length set) low up)
        (none set (within set (one_size (length set) low up)))
    choose (Some low) one = record {
      set = at.set;
      not_smaller = at_least (length at.set) at.long;
      not_larger = at_most (length at.set) at.long;
      place = one.place ∙ ap (λ n. step * (1 + 2 * n)) (sym at.at_place) ∙ place_is at.set at.long;
      needed = λ upper. both (one.needed at.set at.at_place upper)
          (enough_is_high graph rows vertex colour size own gains are at.set at.long upper);
      is_low = (let P : List ℤ → Type 0 = λ r. number_in r low.place <ℤ low.needed in subst P row_is one.is_low);
      before = λ other small large earlier. high other (one_size (length other) small large)
          (one.before other (lower other (one_size (length other) small large) earlier));
    }
      where
        at : SetAt size one.set
        at = set_at size one.set one.counted

        at_least : (n : ℕ) → n ≡ size → size ≤ n
        at_least n same = omega arith

        at_most : (n : ℕ) → n ≡ size → n < size + 1
        at_most n same = omega arith

        less : (a b : ℕ) → step * (1 + 2 * a) < step * (1 + 2 * b) → a < b
        less a b is_less =
            let more : 1 + 2 * a < 1 + 2 * b = lt_of_mul-lt-mul_left step is_less in
            omega (arith, more)

        lower : (other : List Bool) → length other ≡ size → place_in graph vertex (true ∷ other) < low.place
            → place_of other < one.set
        lower other long earlier = less (place_of other) one.set (rw (place_is other long, ← one.place) earlier)

-- Of two first ones, for smaller and for larger sets, the earlier is the first of all.
pub found_earlier : (graph : Graph) (rows : List (List ℤ)) (vertex middle past : ℕ) → middle ≤ past
    → (first second found : Option Low)
    → IsFoundOfSizes graph rows vertex 0 middle first → IsFoundOfSizes graph rows vertex middle past second
    → IsEarlier first second found
    → IsFoundOfSizes graph rows vertex 0 past found
found_earlier graph rows vertex middle past within first second found is also earlier =
    choose first second is also earlier
  where
    P : Option Low → Type 0
    P = λ f. IsFoundOfSizes graph rows vertex 0 past f

    weaker : (n : ℕ) → n < middle → n < past
    weaker n low = omega arith

    from_first : (low : Low) (one : IsLowOfSizes graph rows vertex 0 middle low)
        → ((other : List Bool) → middle ≤ length other → length other < past
        → place_in graph vertex (true ∷ other) < low.place → IsSetHigh graph rows vertex other)
        → IsLowOfSizes graph rows vertex 0 past low
    from_first low one rest = record {
      set = one.set;
      not_smaller = omega arith;
      not_larger = weaker (length one.set) one.not_larger;
      place = one.place;
      needed = one.needed;
      is_low = one.is_low;
      before = λ other small large before. pick other large before (cases_lt (length other) middle);
    }
      where
        pick : (other : List Bool) → length other < past → place_in graph vertex (true ∷ other) < low.place
            → (length other < middle) ⊎ (middle ≤ length other) → IsSetHigh graph rows vertex other
        pick other large before (inl low') = one.before other (omega arith) low' before
        pick other large before (inr up) = rest other up large before

    from_second : (low : Low) (one : IsLowOfSizes graph rows vertex middle past low)
        → ((other : List Bool) → length other < middle → place_in graph vertex (true ∷ other) < low.place
        → IsSetHigh graph rows vertex other)
        → IsLowOfSizes graph rows vertex 0 past low
    from_second low one rest = record {
      set = one.set;
      not_smaller = omega arith;
      not_larger = one.not_larger;
      place = one.place;
      needed = one.needed;
      is_low = one.is_low;
      before = λ other small large before. pick other large before (cases_lt (length other) middle);
    }
      where
        pick : (other : List Bool) → length other < past → place_in graph vertex (true ∷ other) < low.place
            → (length other < middle) ⊎ (middle ≤ length other) → IsSetHigh graph rows vertex other
        pick other large before (inl low') = rest other low' before
        pick other large before (inr up) = one.before other up large before

    choose : (f s : Option Low) → IsFoundOfSizes graph rows vertex 0 middle f
        → IsFoundOfSizes graph rows vertex middle past s → IsEarlier f s found
        → IsFoundOfSizes graph rows vertex 0 past found
    choose None None one other e = subst P (sym e) each
      where
        pick : (set : List Bool) → length set < past → (length set < middle) ⊎ (middle ≤ length set)
            → IsSetHigh graph rows vertex set
        pick set large (inl low) = one set (omega arith) low
        pick set large (inr up) = other set up large

        each : (set : List Bool) → 0 ≤ length set → length set < past → IsSetHigh graph rows vertex set
        each set small large = pick set large (cases_lt (length set) middle)
    choose None (Some low) one other e =
        subst P (sym e) (from_second low other (λ set large before. one set (omega arith) large))
    choose (Some low) None one other e =
        subst P (sym e) (from_first low one (λ set small large before. other set small large))
    choose (Some low) (Some later) one other e = pick (cases_lt later.place low.place)
      where
        through : (a b c : ℕ) → a < b → b ≤ c → a < c
        through a b c is_less at_most = omega arith

        pick : (later.place < low.place) ⊎ (low.place ≤ later.place) → IsFoundOfSizes graph rows vertex 0 past found
        pick (inl before) = subst P (sym (e.1 before))
            (from_second later other (λ set large is_before. one.before set (omega arith) large
            (through (place_in graph vertex (true ∷ set)) later.place low.place is_before (omega arith))))
        pick (inr before) = subst P (sym (e.0 before))
            (from_first low one (λ set small large is_before. other.before set small large
            (through (place_in graph vertex (true ∷ set)) low.place later.place is_before before)))

high_at : (graph : Graph) (rows : List (List ℤ)) (vertex place : ℕ) → pos 0 ≤ℤ number_at rows vertex 0
    → ((set : List Bool) → colour_of graph vertex + length set < colour_count graph
    → place_in graph vertex (true ∷ set) ≡ place → IsSetHigh graph rows vertex set)
    → IsHighAt graph rows vertex place
high_at graph rows vertex place empty each = record {
  empty = λ is. rw is empty;
  high = λ set room at. (let P : ℕ → Type 0 = λ p. IsHighEnough graph rows vertex set (number_at rows vertex p) in
      subst P at (each set room at));
}

pub found_of_vertex : (graph : Graph) (rows : List (List ℤ)) (vertex : ℕ) (found : Option Low)
    → pos 0 ≤ℤ number_at rows vertex 0
    → IsFoundOfSizes graph rows vertex 0 (colour_count graph - colour_of graph vertex) found
    → IsFoundOfVertex graph rows vertex found
found_of_vertex graph rows vertex found empty is = choose found is
  where
    size_in : (size : ℕ) → colour_of graph vertex + size < colour_count graph
        → size < colour_count graph - colour_of graph vertex
    size_in size room = omega arith

    room_for : (size : ℕ) → size < colour_count graph - colour_of graph vertex
        → colour_of graph vertex + size < colour_count graph
    room_for size in_sizes = omega arith

    fits_row : (colour size count : ℕ) → colour + size < count → colour + suc size ≤ count
    fits_row colour size count room = omega arith

    choose : (f : Option Low) → IsFoundOfSizes graph rows vertex 0 (colour_count graph - colour_of graph vertex) f
        → IsFoundOfVertex graph rows vertex f
    choose None none = λ place within. high_at graph rows vertex place empty
        (λ set room at. none set (omega arith) (size_in (length set) room))
    choose (Some low) one = record {
      in_row = rw one.place (place_in-lt graph vertex (true ∷ one.set)
          (fits_row (colour_of graph vertex) (length one.set) (colour_count graph)
          (room_for (length one.set) one.not_larger)));
      before = λ at earlier. high_at graph rows vertex at empty
          (λ set room is_at. one.before set (omega arith) (size_in (length set) room) (rw is_at earlier));
      needed = record {
        empty = λ none. absurd (not_none (place_in graph vertex (true ∷ one.set)) (some_place graph vertex one.set)
            (sym one.place ∙ none));
        high = λ set room at.
            (let P : List Bool → Type 0 = λ s. (upper : ℤ)
            → (low.needed ≤ℤ upper) ↔ IsHighEnough graph rows vertex s upper in
            subst P (same_place graph vertex one.set set (room_for (length one.set) one.not_larger) room (sym one.place
            ∙ sym at)) one.needed);
      };
      is_low = one.is_low;
    }
      where
        not_none : (place : ℕ) → 0 < place → place ≡ 0 → ⊥
        not_none place some none = omega arith

pub low_empty : (graph : Graph) (rows : List (List ℤ)) (vertex : ℕ) → number_at rows vertex 0 <ℤ pos 0
    → IsLowOfVertex graph rows vertex (record { place = 0; needed = pos 0 })
low_empty graph rows vertex low = record {
  in_row = pow_pos (colour_count graph - colour_of graph vertex);
  before = λ at earlier. absurd (omega arith);
  needed = record {
    empty = λ is. refl;
    high = λ set room at. absurd (not_none (place_in graph vertex (true ∷ set)) (some_place graph vertex set) at);
  };
  is_low = low;
}
  where
    not_none : (place : ℕ) → 0 < place → place ≡ 0 → ⊥
    not_none place some none = omega arith
