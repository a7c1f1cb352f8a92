-- A table that fails somewhere does not hold.
use Rattle.std.proofs.Common.{◌≡◌, ◌⊎◌, inl, inr, ◌+◌, ◌-◌, ◌*◌, ◌/◌, ◌%◌, ◌^◌, ◌<◌, ◌≤◌, ◌↔◌, ℕ, zero, suc, ℤ, pos}
use Rattle.std.proofs.Common.{◌≤ℤ◌, ◌<ℤ◌, Bool, true, List, ◌∷◌, length, ap, refl, ◌∙◌, arith, pow-suc, Result, IfOk}
use Rattle.std.proofs.lemmas.Bool.{cases_eq}
use Rattle.std.proofs.lemmas.Int.{ints}
use Rattle.std.proofs.lemmas.Result.{IfOk-weaker}
use Rattle.colour_graph.specs.EdgeSet.{all_edges}
use Rattle.colour_graph.specs.Graph.{Graph, colour_count, colour_of}
use Rattle.tree_certificate.specs.CertHolds.{CertHolds}
use Rattle.tree_certificate.specs.ColourSet.{place_of}
use Rattle.tree_certificate.specs.TableHolds.{HasRow, IsHighAt, TableHolds, number_at, place_in, row_length}
use Rattle.tree_certificate.specs.TableHolds.{table_total}
use Rattle.tree_certificate.specs.Value.{CertValue, a_bound, a_table}
use Rattle.tree_certificate.specs.declared.place.Place.{Place}
use Rattle.tree_certificate.specs.declared.place.Place.TheVariants.{TableColours, TableShape, TableRow, TableTotal}
use Rattle.certificate_checker.specs.declared.verdict.Verdict.{Verdict}
use Rattle.certificate_checker.specs.declared.verdict.Verdict.TheVariants.{Holds, Fails}
use Rattle.certificate_checker.specs.Places.{IsNeeded, IsTablePlace, IsVerdict}
use Rattle.certificate_checker.proofs.BoundVerdicts.{no_bound_place}
use Rattle.certificate_checker.proofs.LowPlaces.{SetAt, double, half, set_at}

-- a set whose colours stand, behind one smaller colour, at a place among so many colours
record SetBehind (count place : ℕ) : Type 0 where
  set : List Bool
  short : length set < count
  at_place : 2 ^ (count - suc (length set)) * (1 + 2 * place_of set) ≡ place

none_left : (count size : ℕ) → size ≡ count → suc count - suc size ≡ 0
none_left count size same = omega arith

one_left : (count size : ℕ) → size < count → suc count - suc size ≡ suc (count - suc size)
one_left count size few = omega arith

set_behind-more : (count place : ℕ) → place < 2 ^ suc count → 0 < place
    → (0 < place / 2 → place / 2 < 2 ^ count → SetBehind count (place / 2)) → SetBehind (suc count) place
set_behind-more count place within some rest = choose (cases_eq (place % 2) 1)
  where
    below : place / 2 < 2 ^ count
    below = half place (2 ^ count) (2 ^ suc count) (pow-suc 2 count) within

    as_one : SetAt count (place / 2)
    as_one = set_at count (place / 2) below

    odd : (n h : ℕ) → n % 2 ≡ 1 → h ≡ n / 2 → 1 * (1 + 2 * h) ≡ n
    odd n h is same = omega arith

    even : (n h : ℕ) → (n % 2 ≡ 1 → ⊥) → h ≡ n / 2 → 2 * h ≡ n
    even n h is same = omega arith

    more_than_none : (n : ℕ) → (n % 2 ≡ 1 → ⊥) → 0 < n → 0 < n / 2
    more_than_none n is one = omega arith

    short_by_one : (a b : ℕ) → a ≡ b → a < suc b
    short_by_one a b same = omega arith

    longer : (a b : ℕ) → a < b → a < suc b
    longer a b few = omega arith

    later : (place % 2 ≡ 1 → ⊥) → SetBehind count (place / 2) → SetBehind (suc count) place
    later is known = record {
      set = known.set;
      short = longer (length known.set) count known.short;
      at_place = ap (λ n. 2 ^ n * (1 + 2 * place_of known.set)) (one_left count (length known.set) known.short)
          ∙ double (count - suc (length known.set)) (1 + 2 * place_of known.set)
          ∙ even place (2 ^ (count - suc (length known.set)) * (1 + 2 * place_of known.set)) is known.at_place;
    }

    choose : (place % 2 ≡ 1) ⊎ (place % 2 ≡ 1 → ⊥) → SetBehind (suc count) place
    choose (inl is) = record {
      set = as_one.set;
      short = short_by_one (length as_one.set) count as_one.long;
      at_place = ap (λ n. 2 ^ n * (1 + 2 * place_of as_one.set)) (none_left count (length as_one.set) as_one.long)
          ∙ odd place (place_of as_one.set) is as_one.at_place;
    }
    choose (inr is) = later is (rest (more_than_none place is some) below)

-- Each place but the first is that of such a set.
set_behind : (count place : ℕ) → 0 < place → place < 2 ^ count → SetBehind count place
set_behind zero place some within = absurd (no_place place some within)
  where
    no_place : (n : ℕ) → 0 < n → n < 1 → ⊥
    no_place n one few = omega arith
set_behind (suc count) place some within =
    set_behind-more count place within some (λ more less. set_behind count (place / 2) more less)

not_below : (held needed : ℤ) → held <ℤ needed → needed ≤ℤ held → ⊥
not_below held needed low high = omega (arith, ints)

same_high : (number held needed : ℤ) → held ≡ number → needed ≤ℤ number → needed ≤ℤ held
same_high number held needed same high = rw same high

none_needed : (number needed : ℤ) → needed ≡ pos 0 → pos 0 ≤ℤ number → needed ≤ℤ number
none_needed number needed is high = rw is high

-- a number that is high enough is at least what is needed
needed-le : (graph : Graph) (rows : List (List ℤ)) (vertex place : ℕ) (needed : ℤ) → place < row_length graph vertex
    → IsNeeded graph rows vertex place needed
    → IsHighAt graph rows vertex place → needed ≤ℤ number_at rows vertex place
needed-le graph rows vertex place needed within is high = choose (cases_eq place 0)
  where
    some : (n : ℕ) → (n ≡ 0 → ⊥) → 0 < n
    some n apart = omega arith

    room : (count colour size : ℕ) → size < count - colour → colour + size < count
    room count colour size few = omega arith

    turned : (count colour size : ℕ) → count - suc size - colour ≡ count - colour - suc size
    turned count colour size = omega arith

    by_set : SetBehind (colour_count graph - colour_of graph vertex) place → needed ≤ℤ number_at rows vertex place
    by_set known =
        let fits : colour_of graph vertex + length known.set < colour_count graph =
        room (colour_count graph) (colour_of graph vertex) (length known.set) known.short in
        let at : place_in graph vertex (true ∷ known.set) ≡ place =
        ap (λ n. 2 ^ n * (1 + 2 * place_of known.set))
        (turned (colour_count graph) (colour_of graph vertex) (length known.set)) ∙ known.at_place in
        (is.high known.set fits at (number_at rows vertex place)).1 (high.high known.set fits at)

    choose : (place ≡ 0) ⊎ (place ≡ 0 → ⊥) → needed ≤ℤ number_at rows vertex place
    choose (inl none) = none_needed (number_at rows vertex place) needed (is.empty none) (high.empty none)
    choose (inr apart) = by_set (set_behind (colour_count graph - colour_of graph vertex) place
        (some place apart) within)

pub no_place : (graph : Graph) (rows : List (List ℤ)) (upper : ℤ) (place : Place) → IsTablePlace graph rows upper place
    → TableHolds graph rows upper → ⊥
no_place graph rows upper (TableColours colours) is holds = many (colour_count graph) is.0 holds.fits.colours
  where
    many : (n : ℕ) → 12 < n → n ≤ 12 → ⊥
    many n more few = omega arith
no_place graph rows upper (TableShape vertex) is holds = choose is.fails
  where
    more : (a b : ℕ) → a ≡ b → b < a → ⊥
    more a b same above = omega arith

    choose : ((vertex < length graph.colours) × ¬ (HasRow graph rows vertex))
        ⊎ ((vertex ≡ length graph.colours) × (length graph.colours < length rows)) → ⊥
    choose (inl fails) = fails.1 (holds.fits.each vertex fails.0)
    choose (inr fails) = more (length rows) (length graph.colours) holds.fits.count fails.1
no_place graph rows upper (TableRow vertex place held needed) is holds =
    not_below held needed is.low (same_high (number_at rows vertex place) held needed is.is_held
    (needed-le graph rows vertex place needed is.in_row is.is_needed (holds.high vertex place is.in_graph is.in_row)))
no_place graph rows upper (TableTotal total) is holds =
    not_below upper total is.above (at_most total is.is_total holds.total)
  where
    at_most : (t : ℤ) → t ≡ table_total graph rows → table_total graph rows ≤ℤ upper → t ≤ℤ upper
    at_most t same few = rw same few
no_place graph rows upper place is holds = absurd is

exactly_at : (graph : Graph) (cert : CertValue) (upper : ℤ) (verdict : Verdict) → IsVerdict graph cert upper verdict
    → (verdict ≡ Holds) ↔ CertHolds graph cert upper
exactly_at graph cert upper Holds is = (λ same. is, λ holds. refl)
exactly_at graph (a_bound bound) upper (Fails place) is = (
  λ same. absurd (differ same),
  λ holds. absurd
      (no_bound_place graph (all_edges graph) bound upper 0 place is holds),
)
  where
    differ : Fails place ≡ Holds → ⊥
    differ same = cc
exactly_at graph (a_table rows) upper (Fails place) is =
    (λ same. absurd (differ same), λ holds. absurd (no_place graph rows upper place is holds))
  where
    differ : Fails place ≡ Holds → ⊥
    differ same = cc

pub exactly_from : {E : Type 0} (graph : Graph) (cert : CertValue) (upper : ℤ) (result : Result Verdict E)
    → IfOk result (λ verdict. IsVerdict graph cert upper verdict)
    → IfOk result (λ verdict. (verdict ≡ Holds) ↔ CertHolds graph cert upper)
exactly_from graph cert upper result is =
    IfOk-weaker result (λ verdict. IsVerdict graph cert upper verdict)
    (λ verdict. (verdict ≡ Holds) ↔ CertHolds graph cert upper)
    (λ verdict said. exactly_at graph cert upper verdict said) is
