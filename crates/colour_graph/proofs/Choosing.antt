-- Of only and AreBack: the set that is left where a colour keeps only some of its edges.
use Rattle.std.proofs.Common.{◌≡◌, ◌<◌, ◌∙◌, ◌⊎◌, inl, inr, ℕ, Bool, true, false, not, ◌&&◌, ◌||◌, eqb, leb, ltb, List}
use Rattle.std.proofs.Common.{length, ap, sym, refl, arith}
use Rattle.std.proofs.lemmas.Bool.{cases_eq, and_from, and_parts, eq-eqb, false_from_ne_true, leb-true, le-leb, lt-ltb}
use Rattle.std.proofs.lemmas.Bool.{ltb-true, ne_eqb}
use Rattle.colour_graph.specs.EdgeSet.{AreInto, is_allowed, is_named, keeping, only}
use Rattle.colour_graph.specs.Graph.{Graph, head_colour}
use Rattle.colour_graph.specs.inside.Sets.{AreBack}
use Rattle.colour_graph.proofs.Sets.{in_row, is_allowed-keeping, keeping-same, length-keeping}

-- the row of a colour
pub in_row-is : (graph : Graph) (colour first past edge : ℕ) → AreInto graph colour first past
    → edge < length graph.edges → in_row first past edge ≡ eqb (head_colour graph edge) colour
in_row-is graph colour first past edge into at = choose (cases_eq (head_colour graph edge) colour)
  where
    choose : (head_colour graph edge ≡ colour) ⊎ (head_colour graph edge ≡ colour → ⊥)
        → in_row first past edge ≡ eqb (head_colour graph edge) colour
    choose (inl same) =
        let is = (into.members edge at).1 same in
        and_from (leb first edge) (ltb edge past) (le-leb first edge is.0) (lt-ltb edge past is.1)
        ∙ sym (eq-eqb (head_colour graph edge) colour same)
    choose (inr apart) =
        false_from_ne_true (in_row first past edge) (λ is. let parts = and_parts (leb first edge) (ltb edge past) is in
        apart ((into.members edge at).0 (leb-true first edge parts.0, ltb-true edge past parts.1)))
        ∙ sym (ne_eqb (head_colour graph edge) colour apart)

regroup : (a row named : Bool) → ((a && not row) || (a && named)) ≡ (a && (not row || named))
regroup true row named = refl
regroup false row named = refl

pub only-is : (graph : Graph) (allowed middle new : List Bool) (colour first past : ℕ) (part : List ℕ)
    → length allowed ≡ length graph.edges → AreInto graph colour first past
    → middle ≡ keeping (λ edge. not (in_row first past edge)) allowed → AreBack middle new allowed part → new
    ≡ only graph allowed colour part
only-is graph allowed middle new colour first past part long into is back =
    keeping-same (λ edge. not (eqb (head_colour graph edge) colour) || is_named part edge) allowed new
    (back.long ∙ ap (λ set. length set) is ∙ length-keeping (λ edge. not (in_row first past edge)) allowed) each
  where
    each : (edge : ℕ) → edge < length allowed
        → is_allowed new edge ≡ (is_allowed allowed edge
        && (not (eqb (head_colour graph edge) colour) || is_named part edge))
    each edge within =
        back.each edge
        ∙ ap (λ set. is_allowed set edge || (is_allowed allowed edge && is_named part edge)) is
        ∙ ap (λ kept. kept || (is_allowed allowed edge && is_named part edge))
        (is_allowed-keeping (λ at. not (in_row first past at)) allowed edge)
        ∙ regroup (is_allowed allowed edge) (in_row first past edge) (is_named part edge)
        ∙ ap (λ row. is_allowed allowed edge && (not row || is_named part edge))
        (in_row-is graph colour first past edge into (omega (arith, long)))
