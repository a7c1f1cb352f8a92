-- What stands while a best list of edges is read out of a table: the edges so far are colourful and rise, the owners
-- are reached, and the score with the numbers of the reached vertices for what they own is what the table says of the
-- graph.
use Rattle.std.proofs.Common.{◌≡◌, ◌≢◌, ◌⊎◌, inl, inr, ◌+◌, ◌<◌, ◌≤◌, ℕ, zero, suc, ℤ, pos, ◌+ℤ◌, Bool, true, List, []}
use Rattle.std.proofs.Common.{◌∷◌, ◌++◌, length, drop, get_or, replicate, ap, ap₂, sym, refl, subst, ◌∙◌, arith}
use Rattle.std.proofs.lemmas.Bool.{cases_eq, cases_order, eq-eqb, ne_eqb}
use Rattle.std.proofs.lemmas.Int.{ints}
use Rattle.std.proofs.lemmas.List.{drop_all, drop_more, length-append, length-drop, length-replicate, map-append}
use Rattle.std.proofs.lemmas.List.Elements.{All-append}
use Rattle.std.proofs.lemmas.List.Quantifiers.{all_pairs_push}
use Rattle.std.specs.List.{All, AllPairs}
use Rattle.colour_graph.specs.declared.edge.Edge.{Edge}
use Rattle.colour_graph.specs.Colourful.{IsColourful, IsReached, at_head, at_root, heads_of, score_of, total}
use Rattle.colour_graph.specs.Colourful.{weights_of}
use Rattle.colour_graph.specs.Graph.{Graph, IsEdge, IsGraph, StandsBefore, colour_count, colour_of, edge_at}
use Rattle.colour_graph.specs.Graph.{head_colour}
use Rattle.tree_certificate.specs.ColourSet.{without}
use Rattle.tree_certificate.specs.TableHolds.{number_at, number_of, table_total}
use Rattle.tree_certificate.proofs.Sums.{Different, IsIn, sum_of}
use Rattle.tree_certificate.proofs.Tables.{place_in-left_out}
use Rattle.subset_tree.specs.inside.Exact.{IsExact}
use Rattle.subset_tree.specs.inside.Rebuilding.{IsLeftOut, IsStep, IsTaken, given, owned}
use Rattle.subset_tree.proofs.Growing.{Contains-from_IsIn, Different-push, IsIn-left, IsIn-push, IsIn-push_cases}
use Rattle.subset_tree.proofs.Growing.{sum_of-more, sum_of-none, sum_of-push, sum_of-same}
use Rattle.subset_tree.proofs.Owned.{IsIn-given, IsIn-replicate, length-given, length-owned, length-part, owned-all}
use Rattle.subset_tree.proofs.Owned.{owned-given_from, owned-given_new, owned-given_other}

-- the root and the heads
abbrev pub reached : Graph → List ℕ → List ℕ
reached graph edges = 0 ∷ heads_of graph edges

-- what a vertex adds up to for what it owns
abbrev pub worth_of : Graph → List (List ℤ) → List ℕ → ℕ → ℤ
worth_of graph rows owners vertex = number_of graph rows vertex (owned vertex owners)

-- a vertex before the colours that the owners own
pub record IsSeated (graph : Graph) (owners : List ℕ) (vertex : ℕ) : Type 0 where
  pub within : vertex < length graph.colours
  pub before : colour_of graph vertex + length owners ≤ colour_count graph

pub record Standing (graph : Graph) (rows : List (List ℤ)) (edges after : List ℕ) : Type 0 where
  pub in_range : All (λ edge. edge < length graph.edges) edges
  pub rising : AllPairs (λ first later. head_colour graph first < head_colour graph later) edges
  pub tails : All (λ edge. IsIn (edge_at graph edge).tail (reached graph edges)) edges
  pub owners : (owner : ℕ) → IsIn owner after → IsIn owner (reached graph edges)
  pub seats : (vertex : ℕ) → IsIn vertex (reached graph edges) → IsSeated graph after vertex
  pub different : Different (λ vertex. vertex) (reached graph edges)
  pub few : length edges + length after ≤ colour_count graph
  pub worth : (score_of graph edges +ℤ sum_of (worth_of graph rows after) (reached graph edges))
      ≡ table_total graph rows

first_worth : (score number : ℤ) → ((score +ℤ pos 0) +ℤ (number +ℤ pos 0)) ≡ (score +ℤ number)
first_worth score number = omega (arith, ints)

-- At first the root owns all.
pub at_first : (graph : Graph) (rows : List (List ℤ)) (size : ℕ) → IsGraph graph → size ≡ colour_count graph
    → Standing graph rows [] (replicate size 0)
at_first graph rows size is counted = record {
  in_range = λ k d within. absurd (omega arith);
  rising = λ i j d before within. absurd (omega arith);
  tails = λ k d within. absurd (omega arith);
  owners = λ owner within. inl (IsIn-replicate 0 owner size within);
  seats = seats;
  different = ((λ y within. absurd within), tt);
  few = omega (arith, long, counted);
  worth = first_worth graph.root_score (number_of graph rows 0 (owned 0 (replicate size 0)))
      ∙ ap (λ set. graph.root_score +ℤ number_of graph rows 0 set) (owned-all 0 size
      ∙ ap (λ n. replicate n true) counted);
}
  where
    long : length (replicate {A = ℕ} size 0) ≡ size
    long = length-replicate size 0

    seats : (vertex : ℕ) → IsIn vertex (reached graph []) → IsSeated graph (replicate size 0) vertex
    seats vertex (inl root) = subst (IsSeated graph (replicate size 0)) (sym root)
        (record { within = is.colours.some; before = omega (arith, long, counted, is.colours.root) })
    seats vertex (inr later) = absurd later

-- one colour less
fewer : (graph : Graph) (owner : ℕ) (owners : List ℕ) (vertex : ℕ) → IsSeated graph (owner ∷ owners) vertex
    → IsSeated graph owners vertex
fewer graph owner owners vertex seat = record { within = seat.within; before = omega (arith, seat.before) }

-- What is not the next colour's owner adds up to the same without it.
other_worth : (graph : Graph) (rows : List (List ℤ)) (owner : ℕ) (owners : List ℕ) (vertex : ℕ)
    → IsSeated graph (owner ∷ owners) vertex → owner ≢ vertex
    → worth_of graph rows (owner ∷ owners) vertex ≡ worth_of graph rows owners vertex
other_worth graph rows owner owners vertex seat apart =
    ap (λ b. number_of graph rows vertex (b ∷ owned vertex owners)) (ne_eqb owner vertex apart)
    ∙ ap (number_at rows vertex) (place_in-left_out graph vertex (owned vertex owners)
    (omega (arith, seat.before, length-owned vertex owners)))

own_worth : (graph : Graph) (rows : List (List ℤ)) (owner : ℕ) (owners : List ℕ)
    → worth_of graph rows (owner ∷ owners) owner ≡ number_of graph rows owner (true ∷ owned owner owners)
own_worth graph rows owner owners = ap (λ b. number_of graph rows owner (b ∷ owned owner owners))
    (eq-eqb owner owner refl)

-- The next colour is left out.
pub leaving_out : (graph : Graph) (rows : List (List ℤ)) (edges : List ℕ) (owner : ℕ) (owners : List ℕ)
    → Standing graph rows edges (owner ∷ owners)
    → IsLeftOut graph rows owner (owned owner owners) → Standing graph rows edges owners
leaving_out graph rows edges owner owners stands left_out = record {
  in_range = stands.in_range;
  rising = stands.rising;
  tails = stands.tails;
  owners = λ o within. stands.owners o (inr within);
  seats = λ vertex within. fewer graph owner owners vertex (stands.seats vertex within);
  different = stands.different;
  few = omega (arith, stands.few);
  worth = ap (λ sum. score_of graph edges +ℤ sum)
      (sym (sum_of-same (worth_of graph rows (owner ∷ owners)) (worth_of graph rows owners) (reached graph edges) same))
      ∙ stands.worth;
}
  where
    same : (vertex : ℕ) → IsIn vertex (reached graph edges)
        → worth_of graph rows (owner ∷ owners) vertex ≡ worth_of graph rows owners vertex
    same vertex within = choose (cases_eq owner vertex)
      where
        choose : (owner ≡ vertex) ⊎ (owner ≡ vertex → ⊥)
            → worth_of graph rows (owner ∷ owners) vertex ≡ worth_of graph rows owners vertex
        choose (inl is) = subst (λ v. worth_of graph rows (owner ∷ owners) v ≡ worth_of graph rows owners v) is
            (own_worth graph rows owner owners ∙ sym left_out)
        choose (inr apart) = other_worth graph rows owner owners vertex (stands.seats vertex within) apart

-- sums of a step
own_sum : (weight part rest number : ℤ) → ((weight +ℤ part) +ℤ rest) ≡ number → number ≡ (rest +ℤ (weight +ℤ part))
own_sum weight part rest number is = omega (arith, ints, is)

step_sum : (root weights weight sum part before : ℤ) → before ≡ (sum +ℤ (weight +ℤ part))
    → ((root +ℤ (weights +ℤ weight)) +ℤ (sum +ℤ part)) ≡ ((root +ℤ weights) +ℤ before)
step_sum root weights weight sum part before is = omega (arith, ints, is)

-- The owner of the next colour takes an edge.
pub taking : (graph : Graph) (rows : List (List ℤ)) (edges : List ℕ) (owner : ℕ) (owners : List ℕ) (edge : ℕ)
    (part : List Bool) → IsGraph graph
    → Standing graph rows edges (owner ∷ owners) → IsTaken graph rows owner (owned owner owners) edge part
    → Standing graph rows (edges ++ edge ∷ []) (given part (edge_at graph edge).head owners)
taking graph rows edges owner owners edge part is stands taken = record {
  in_range = All-append (λ e. e < length graph.edges) edges (edge ∷ []) stands.in_range
      (λ k d within. only_one (λ e. e < length graph.edges) taken.within k d within);
  rising = all_pairs_push (λ first later. head_colour graph first < head_colour graph later) edges edge stands.rising
      (λ k d within. omega (
        arith,
        (stands.seats (edge_at graph (get_or edges k d)).head
            (head_within k d within)).before,
        at_head_colour,
      ));
  tails = All-append (λ e. IsIn (edge_at graph e).tail (reached graph (edges ++ edge ∷ []))) edges (edge ∷ [])
      (λ k d within. wider (edge_at graph (get_or edges k d)).tail (stands.tails k d within))
      (λ k d within. only_one (λ e. IsIn (edge_at graph e).tail (reached graph (edges ++ edge ∷ [])))
      (subst (λ v. IsIn v (reached graph (edges ++ edge ∷ []))) (sym taken.tail) (wider owner owner_within)) k d
      within);
  owners = λ o within. new_owner o (IsIn-given part head o owners within);
  seats = λ vertex within. new_seat vertex
      (IsIn-push_cases vertex head (reached graph edges) (subst (IsIn vertex) more within));
  different = subst (λ vertices. Different (λ vertex. vertex) vertices) (sym more)
      (Different-push (λ vertex. vertex) head (reached graph edges) stands.different
      (λ v within same. head_apart v within (sym same)));
  few = omega (arith, stands.few, length-append edges (edge ∷ []), long);
  worth = new_worth;
}
  where
    head : ℕ
    head = (edge_at graph edge).head

    weight : ℤ
    weight = (edge_at graph edge).weight

    after : List ℕ
    after = given part head owners

    long : length after ≡ length owners
    long = length-given part head owners

    more : reached graph (edges ++ edge ∷ []) ≡ reached graph edges ++ head ∷ []
    more = ap (λ heads. 0 ∷ heads) (map-append (λ e. (edge_at graph e).head) edges (edge ∷ []))

    wider : (vertex : ℕ) → IsIn vertex (reached graph edges) → IsIn vertex (reached graph (edges ++ edge ∷ []))
    wider vertex within = subst (IsIn vertex) (sym more) (IsIn-left vertex (reached graph edges) (head ∷ []) within)

    only_one : (P : ℕ → Type 0) → P edge → (k d : ℕ) → k < 1 → P (get_or (edge ∷ []) k d)
    only_one P holds zero d within = holds
    only_one P holds (suc k) d within = absurd (omega arith)

    at_head_colour : colour_of graph head + length owners ≡ colour_count graph
    at_head_colour = ap (λ n. colour_of graph head + n) (sym (length-owned owner owners)) ∙ taken.head

    is_edge : IsEdge graph (edge_at graph edge)
    is_edge = is.edges edge (record { tail = 0; head = 0; weight = pos 0 }) taken.within

    owner_within : IsIn owner (reached graph edges)
    owner_within = stands.owners owner (inl refl)

    head_within : (k d : ℕ) → k < length edges → IsIn (edge_at graph (get_or edges k d)).head (reached graph edges)
    head_within k d within = inr (in_map edges k d within)
      where
        in_map : (es : List ℕ) (k d : ℕ) → k < length es → IsIn (edge_at graph (get_or es k d)).head (heads_of graph es)
        in_map [] k d within = absurd (omega arith)
        in_map (e ∷ es) zero d within = inl refl
        in_map (e ∷ es) (suc k) d within = inr (in_map es k d (omega arith))

    head_apart : (vertex : ℕ) → IsIn vertex (reached graph edges) → vertex ≢ head
    head_apart vertex within same =
        let colours : colour_of graph vertex ≡ colour_of graph head = ap (colour_of graph) same in
        absurd (omega (arith, (stands.seats vertex within).before, at_head_colour, colours))

    seat_in : (vertex : ℕ) → vertex < length graph.colours → colour_of graph vertex + length owners ≤ colour_count graph
        → IsSeated graph after vertex
    seat_in vertex within before = record { within = within; before = omega (arith, before, long) }

    new_seat : (vertex : ℕ) → IsIn vertex (reached graph edges) ⊎ (vertex ≡ head) → IsSeated graph after vertex
    new_seat vertex (inl within) = let seat = fewer graph owner owners vertex (stands.seats vertex within) in
        seat_in vertex seat.within seat.before
    new_seat vertex (inr new) = subst (IsSeated graph after) (sym new)
        (seat_in head is_edge.head (omega (arith, at_head_colour)))

    new_owner : (o : ℕ) → (o ≡ head) ⊎ IsIn o owners → IsIn o (reached graph (edges ++ edge ∷ []))
    new_owner o (inl new) = subst (IsIn o) (sym more)
        (subst (λ h. IsIn o (reached graph edges ++ h ∷ [])) new (IsIn-push o (reached graph edges)))
    new_owner o (inr before) = wider o (stands.owners o (inr before))

    others : (vertex : ℕ) → IsIn vertex (reached graph edges) → vertex ≢ owner
        → worth_of graph rows (owner ∷ owners) vertex ≡ worth_of graph rows after vertex
    others vertex within apart =
        other_worth graph rows owner owners vertex (stands.seats vertex within) (λ same. apart (sym same))
        ∙ ap (number_of graph rows vertex)
        (sym (owned-given_other part owner head vertex owners apart (head_apart vertex within) taken.is_part))

    of_owner : worth_of graph rows (owner ∷ owners) owner
        ≡ (worth_of graph rows after owner +ℤ (weight +ℤ number_of graph rows head part))
    of_owner =
        own_worth graph rows owner owners
        ∙ own_sum weight (number_of graph rows head part) (worth_of graph rows after owner)
        (number_of graph rows owner (true ∷ owned owner owners))
        (ap (λ set. (weight +ℤ number_of graph rows head part) +ℤ number_of graph rows owner set)
        (owned-given_from part owner head owners (head_apart owner owner_within) taken.is_part)
        ∙ ap (λ v. (weight +ℤ number_of graph rows head part) +ℤ number_of graph rows v
        (without (owned owner owners) part)) (sym taken.tail) ∙ taken.reached)

    of_head : worth_of graph rows after head ≡ number_of graph rows head part
    of_head = ap (number_of graph rows head)
        (owned-given_new part head owners (length-part part (owned owner owners) taken.is_part
        ∙ length-owned owner owners) (λ o within. head_apart o (stands.owners o (inr within))))

    new_weights : total (weights_of graph (edges ++ edge ∷ [])) ≡ (total (weights_of graph edges) +ℤ weight)
    new_weights = sum_of-push (λ e. (edge_at graph e).weight) edge edges

    new_sum : sum_of (worth_of graph rows after) (reached graph (edges ++ edge ∷ []))
        ≡ (sum_of (worth_of graph rows after) (reached graph edges) +ℤ number_of graph rows head part)
    new_sum = ap (sum_of (worth_of graph rows after)) more
        ∙ sum_of-push (worth_of graph rows after) head (reached graph edges)
        ∙ ap (λ last. sum_of (worth_of graph rows after) (reached graph edges) +ℤ last) of_head

    new_worth : (score_of graph (edges ++ edge ∷ []) +ℤ sum_of (worth_of graph rows after)
        (reached graph (edges ++ edge ∷ []))) ≡ table_total graph rows
    new_worth =
        ap₂ (λ (weights sum : ℤ). (graph.root_score +ℤ weights) +ℤ sum) new_weights new_sum
        ∙ step_sum graph.root_score (total (weights_of graph edges)) weight
        (sum_of (worth_of graph rows after) (reached graph edges)) (number_of graph rows head part)
        (sum_of (worth_of graph rows (owner ∷ owners)) (reached graph edges))
        (sum_of-more (λ vertex. vertex) (worth_of graph rows (owner ∷ owners)) (worth_of graph rows after)
        (weight +ℤ number_of graph rows head part) owner (reached graph edges)
        stands.different owner_within of_owner others)
        ∙ stands.worth

-- When all colours are decided.
pub at_last_colourful : (graph : Graph) (rows : List (List ℤ)) (edges : List ℕ) → Standing graph rows edges []
    → IsColourful graph edges
at_last_colourful graph rows edges stands = record {
  in_range = stands.in_range;
  one_of_a_colour = λ i j d before within same. absurd (omega (arith, stands.rising i j d before within, same));
  tails = λ k d within. is_reached (edge_at graph (get_or edges k d)).tail (stands.tails k d within);
}
  where
    is_reached : (vertex : ℕ) → IsIn vertex (reached graph edges) → IsReached graph edges vertex
    is_reached vertex (inl root) = at_root root
    is_reached vertex (inr within) = at_head (Contains-from_IsIn vertex (heads_of graph edges) within)

nothing_more : (a b : ℤ) → b ≡ pos 0 → (a +ℤ b) ≡ a
nothing_more a b is = omega (arith, ints, is)

pub at_last_score : (graph : Graph) (rows : List (List ℤ)) (edges : List ℕ) → IsExact graph rows
    → Standing graph rows edges [] → score_of graph edges ≡ table_total graph rows
at_last_score graph rows edges exact stands =
    sym (nothing_more (score_of graph edges) (sum_of (worth_of graph rows []) (reached graph edges))
    (sum_of-none (worth_of graph rows []) (reached graph edges)
    (λ vertex within. exact.empty vertex (stands.seats vertex within).within)))
    ∙ stands.worth

-- Edges to smaller colours stand before.
pub at_last_rising : (graph : Graph) (rows : List (List ℤ)) (edges : List ℕ) → IsGraph graph
    → Standing graph rows edges [] → AllPairs (λ edge later. edge < later) edges
at_last_rising graph rows edges is stands i j d before within =
    choose (get_or edges i d) (get_or edges j d) (stands.in_range i d (omega arith)) (stands.rising i j d before within)
    (cases_order (get_or edges i d) (get_or edges j d))
  where
    no_edge : Edge
    no_edge = record { tail = 0; head = 0; weight = pos 0 }

    turned : (first later : ℕ) → later < first → first < length graph.edges
        → head_colour graph later ≤ head_colour graph first
    turned first later behind here = choose (cases_order (edge_at graph later).head (edge_at graph first).head)
      where
        stand : StandsBefore (edge_at graph later) (edge_at graph first)
        stand = is.in_order later first no_edge behind here

        head_here : (edge_at graph first).head < length graph.colours
        head_here = (is.edges first no_edge here).head

        choose : ((edge_at graph later).head ≡ (edge_at graph first).head)
            ⊎ (((edge_at graph later).head < (edge_at graph first).head)
            ⊎ ((edge_at graph first).head < (edge_at graph later).head))
            → head_colour graph later ≤ head_colour graph first
        choose (inl same) = let colours : head_colour graph later ≡ head_colour graph first =
            ap (colour_of graph) same in omega (arith, colours)
        choose (inr (inl less)) = is.colours.in_order (edge_at graph later).head
            (edge_at graph first).head 0 less head_here
        choose (inr (inr more)) = absurd (omega (arith, stand.heads))

    choose : (first later : ℕ) → first < length graph.edges → head_colour graph first < head_colour graph later
        → (first ≡ later) ⊎ ((first < later) ⊎ (later < first)) → first < later
    choose first later here rises (inl same) = let colours : head_colour graph first ≡ head_colour graph later =
        ap (head_colour graph) same in absurd (omega (arith, colours))
    choose first later here rises (inr (inl less)) = less
    choose first later here rises (inr (inr more)) = absurd (omega (arith, turned first later more here))

-- The next owner is reached, and stands before its colour.
pub seat_of_next : (graph : Graph) (rows : List (List ℤ)) (edges owners : List ℕ) (decided : ℕ)
    → length owners ≡ colour_count graph → decided < length owners → Standing graph rows edges (drop decided owners)
    → (get_or owners decided 0 < length graph.colours) × (colour_of graph (get_or owners decided 0) ≤ decided)
seat_of_next graph rows edges owners decided count next stands =
    (seat.within, omega (arith, seat.before, length-drop decided owners, count, next))
  where
    seat : IsSeated graph (drop decided owners) (get_or owners decided 0)
    seat = stands.seats (get_or owners decided 0)
        (stands.owners (get_or owners decided 0)
        (subst (IsIn (get_or owners decided 0)) (sym (drop_more owners decided 0 next)) (inl refl)))

pub when_decided : (graph : Graph) (rows : List (List ℤ)) (edges owners : List ℕ) (decided : ℕ)
    → length owners ≤ decided → Standing graph rows edges (drop decided owners) → Standing graph rows edges []
when_decided graph rows edges owners decided all stands =
    subst (Standing graph rows edges) (drop_all decided owners all) stands

-- One colour more is decided.
pub standing_left : (graph : Graph) (rows : List (List ℤ)) (edges owners new : List ℕ) (decided : ℕ)
    → decided < length owners → Standing graph rows edges (drop decided owners) → new ≡ owners
    → IsLeftOut graph rows (get_or owners decided 0) (owned (get_or owners decided 0) (drop (decided + 1) owners))
    → Standing graph rows edges (drop (decided + 1) new)
standing_left graph rows edges owners new decided next stands same left_out =
    subst (λ os. Standing graph rows edges (drop (decided + 1) os)) (sym same)
    (leaving_out graph rows edges (get_or owners decided 0) (drop (decided + 1) owners)
    (subst (Standing graph rows edges) (drop_more owners decided 0 next) stands) left_out)

pub standing_step : (graph : Graph) (rows : List (List ℤ)) (edges owners new : List ℕ) (decided edge : ℕ)
    → IsGraph graph → decided < length owners → Standing graph rows edges (drop decided owners)
    → IsStep graph rows (get_or owners decided 0) (drop (decided + 1) owners) (drop (decided + 1) new) edge
    → Standing graph rows (edges ++ edge ∷ []) (drop (decided + 1) new)
standing_step graph rows edges owners new decided edge is next stands step =
    subst (Standing graph rows (edges ++ edge ∷ [])) (sym step.passed)
    (taking graph rows edges (get_or owners decided 0) (drop (decided + 1) owners) edge step.part is
    (subst (Standing graph rows edges) (drop_more owners decided 0 next) stands) step.taken)

pub first_standing : (graph : Graph) (rows : List (List ℤ)) (size : ℕ) (edges owners : List ℕ) → IsGraph graph
    → size ≡ colour_count graph → edges ≡ [] → owners ≡ replicate size 0 → Standing graph rows edges owners
first_standing graph rows size edges owners is counted none all =
    subst (λ es. Standing graph rows es owners) (sym none)
    (subst (Standing graph rows []) (sym all) (at_first graph rows size is counted))
