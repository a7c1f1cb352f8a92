-- What numbers of vertices for sets of colours have to hold, so that no colourful list of edges scores more than the
-- root's score and the root's number for all colours: one argument for tables, prices and caps. The root counts as the
-- head of an edge of its own. Each of the last colours has an owner, a reached vertex of a smaller colour. What is
-- looked at is the sum, over the edges into the other colours, of the weight and the head's number for the colours that
-- it owns. It begins with the score, and falls with no further colour.
use Rattle.std.proofs.Common.{◌≡◌, ◌≢◌, ◌+◌, ◌-◌, ◌<◌, ◌≤◌, ◌⊎◌, inl, inr, ℕ, zero, suc, ℤ, pos, ◌+ℤ◌, ◌≤ℤ◌, Bool, true}
use Rattle.std.proofs.Common.{cond, eqb, leb, List, [], ◌∷◌, length, replicate, ap, ap₂, sym, refl, subst, ◌∙◌, arith}
use Rattle.std.proofs.lemmas.Bool.{cases_eq, cases_lt, cond-false, cond-true, eq-eqb, le-leb, lt-leb}
use Rattle.std.proofs.lemmas.Int.{ints}
use Rattle.colour_graph.specs.declared.edge.Edge.{Edge}
use Rattle.colour_graph.specs.Graph.{Graph, HasColours, IsEdge, IsGraph, colour_count, colour_of}
use Rattle.tree_certificate.specs.ColourSet.{IsPartOf, without}
use Rattle.tree_certificate.proofs.Owners.{IsIn-pass, IsPartOf-pass, length-owned, length-pass, owned, owned-all}
use Rattle.tree_certificate.proofs.Owners.{owned-pass_other, pass, without-pass}
use Rattle.tree_certificate.proofs.Sums.{Different, IsIn, same_key, sum_of, sum_of-le, sum_of-two, sum_of-zero}
use Rattle.tree_certificate.proofs.Sums.{with_key}

-- Numbers bound what edges below a vertex add up to within a set of the last colours: at least 0, no less for a further
-- colour, and enough for an edge to the least colour, whose head gets a part of the others.
pub record Bounds (graph : Graph) (IsOpen : Edge → Type 0) (number : ℕ → List Bool → ℤ) : Type 0 where
  pub empty : (vertex : ℕ) → vertex < length graph.colours → pos 0 ≤ℤ number vertex []
  pub grows : (vertex : ℕ) (here : Bool) (set : List Bool) → vertex < length graph.colours
      → colour_of graph vertex + length set < colour_count graph
      → number vertex set ≤ℤ number vertex (here ∷ set)
  pub takes : (edge : Edge) (set part : List Bool) → IsOpen edge
      → colour_of graph edge.head + length set ≡ colour_count graph → IsPartOf part set
      → (edge.weight +ℤ (number edge.head part +ℤ number edge.tail (without set part))) ≤ℤ number edge.tail (true ∷ set)

-- the edge whose head is the root
abbrev pub root_edge : Graph → Edge
root_edge graph = record { tail = 0; head = 0; weight = graph.root_score }

-- the colour that an edge goes to
abbrev pub colour_into : Graph → Edge → ℕ
colour_into graph edge = colour_of graph edge.head

-- Edges of a colourful list, as they are: with the root's, their heads differ in colour, and each tail is a head.
pub record IsTree (graph : Graph) (IsOpen : Edge → Type 0) (edges : List Edge) : Type 0 where
  pub each : (edge : Edge) → IsIn edge edges → (IsEdge graph edge) × (IsOpen edge)
  pub different : Different (colour_into graph) (root_edge graph ∷ edges)
  pub tails : (edge : Edge) → IsIn edge edges → (above : Edge) × (IsIn above (root_edge graph ∷ edges)) ×
      (above.head ≡ edge.tail)

-- No colour is greater than the last vertex's.
pub colour-le_count : (graph : Graph) (vertex : ℕ) → HasColours graph.colours → vertex < length graph.colours
    → colour_of graph vertex ≤ colour_count graph
colour-le_count graph vertex has within = choose (cases_eq vertex (length graph.colours - 1))
  where
    choose : (vertex ≡ length graph.colours - 1) ⊎ (vertex ≡ length graph.colours - 1 → ⊥)
        → colour_of graph vertex ≤ colour_count graph
    choose (inl last) = let same : colour_of graph vertex ≡ colour_count graph =
        ap (λ v. colour_of graph v) last in omega (arith, same)
    choose (inr before) = has.in_order vertex (length graph.colours - 1) 0 (omega arith) (omega arith)

-- Sums of a few numbers.
weight_and_more : (weight number : ℤ) → pos 0 ≤ℤ number → weight ≤ℤ (weight +ℤ number)
weight_and_more weight number more = omega (arith, ints)

weight_and_less : (weight less more : ℤ) → less ≤ℤ more → (weight +ℤ less) ≤ℤ (weight +ℤ more)
weight_and_less weight less more is = omega (arith, ints)

taken_in : (weight part above rest more : ℤ) → (weight +ℤ (part +ℤ rest)) ≤ℤ more
    → ((weight +ℤ part) +ℤ (above +ℤ rest)) ≤ℤ (pos 0 +ℤ (above +ℤ more))
taken_in weight part above rest more is = omega (arith, ints)

le_same : (a b c d : ℤ) → a ≡ b → c ≡ d → b ≤ℤ d → a ≤ℤ c
le_same a b c d one other is = rw (one, other) is

le-trans : (a b c : ℤ) → a ≤ℤ b → b ≤ℤ c → a ≤ℤ c
le-trans a b c one other = omega (arith, ints)

one_left : (score first rest whole : ℤ) → score ≤ℤ (first +ℤ rest) → rest ≤ℤ pos 0 → first ≡ whole → score ≤ℤ whole
one_left score first rest whole most none is = rw (← is) (at_most score first rest most none)
  where
    at_most : (s f r : ℤ) → s ≤ℤ (f +ℤ r) → r ≤ℤ pos 0 → s ≤ℤ f
    at_most s f r most none = omega (arith, ints)

-- Places of a few colours.
still_before : (colour size count : ℕ) → colour + size ≤ count → (colour + size ≡ count → ⊥) → colour + suc size ≤ count
still_before colour size count within apart = omega arith

past_more : (colour size count : ℕ) → count < colour + size → count < colour + suc size
past_more colour size count past = omega arith

none_before : (colour count : ℕ) → colour + count ≤ count → colour ≡ 0
none_before colour count within = omega arith

same_place : (one other size count : ℕ) → one + size ≡ count → other + size ≡ count → one ≡ other
same_place one other size count is also = omega arith

module _ (graph : Graph) (is : IsGraph graph) (IsOpen : Edge → Type 0) (number : ℕ → List Bool → ℤ)
    (bounds : Bounds graph IsOpen number) (rest : List Edge) (tree : IsTree graph IsOpen rest) where
  abbrev all : List Edge
  all = root_edge graph ∷ rest

  -- what an edge adds where so many of the last colours have owners
  abbrev share : ℕ → List ℕ → Edge → ℤ
  share size owners edge =
      cond (leb (colour_into graph edge + size) (colour_count graph))
      (edge.weight +ℤ number edge.head (owned edge.head owners)) (pos 0)

  share-counts : (size : ℕ) (owners : List ℕ) (edge : Edge) → colour_into graph edge + size ≤ colour_count graph
      → share size owners edge ≡ edge.weight +ℤ number edge.head (owned edge.head owners)
  share-counts size owners edge within =
      cond-true (leb (colour_into graph edge + size) (colour_count graph))
      (edge.weight +ℤ number edge.head (owned edge.head owners)) (pos 0) (le-leb _ _ within)

  share-past : (size : ℕ) (owners : List ℕ) (edge : Edge) → colour_count graph < colour_into graph edge + size
      → share size owners edge ≡ pos 0
  share-past size owners edge past =
      cond-false (leb (colour_into graph edge + size) (colour_count graph))
      (edge.weight +ℤ number edge.head (owned edge.head owners)) (pos 0) (lt-leb _ _ past)

  head_within : (edge : Edge) → IsIn edge all → edge.head < length graph.colours
  head_within edge (inl root) = subst (λ (e : Edge). e.head < length graph.colours) (sym root) is.colours.some
  head_within edge (inr later) = (tree.each edge later).0.head

  -- an owner of one of so many last colours: the head of an edge into a colour before them
  pub record IsOwner (size owner : ℕ) : Type 0 where
    pub above : Edge
    pub among : IsIn above all
    pub at_head : above.head ≡ owner
    pub before : colour_of graph owner + size ≤ colour_count graph

  pub record HoldsFrom (size : ℕ) : Type 0 where
    pub owners : List ℕ
    pub long : length owners ≡ size
    pub reached : (owner : ℕ) → IsIn owner owners → IsOwner size owner
    pub enough : sum_of (λ edge. edge.weight) all ≤ℤ sum_of (share size owners) all

  no_colour : HoldsFrom 0
  no_colour = record {
    owners = [];
    long = refl;
    reached = λ owner within. absurd within;
    enough = sum_of-le (λ edge. edge.weight) (share 0 []) all each;
  }
    where
      from_zero : (colour count : ℕ) → colour ≤ count → colour + 0 ≤ count
      from_zero colour count most = omega arith

      each : (edge : Edge) → IsIn edge all → edge.weight ≤ℤ share 0 [] edge
      each edge within =
          le_same edge.weight edge.weight (share 0 [] edge) (edge.weight +ℤ number edge.head []) refl
          (share-counts 0 [] edge (from_zero (colour_into graph edge) (colour_count graph)
          (colour-le_count graph edge.head is.colours (head_within edge within))))
          (weight_and_more edge.weight (number edge.head []) (bounds.empty edge.head (head_within edge within)))

  -- An edge that does not go to the next colour adds no less, whoever owns that colour.
  kept : (size : ℕ) (owners more : List ℕ) (here : Bool) (edge : Edge) → IsIn edge all → length owners ≡ size
      → owned edge.head more ≡ here ∷ owned edge.head owners
      → (colour_into graph edge + size ≡ colour_count graph → ⊥) → share size owners edge ≤ℤ share (suc size) more edge
  kept size owners more here edge within long same apart =
      choose (cases_lt (colour_count graph) (colour_into graph edge + size))
    where
      room : (colour size count set : ℕ) → colour + suc size ≤ count → set ≡ size → colour + set < count
      room colour size count set most is = omega arith

      choose : (colour_count graph < colour_into graph edge + size)
          ⊎ (colour_into graph edge + size ≤ colour_count graph) → share size owners edge ≤ℤ share (suc size) more edge
      choose (inl past) =
          le_same (share size owners edge) (pos 0) (share (suc size) more edge) (pos 0)
          (share-past size owners edge past)
          (share-past (suc size) more edge (past_more (colour_into graph edge) size (colour_count graph) past))
          (omega (arith, ints))
      choose (inr counts) =
          let still : colour_into graph edge + suc size ≤ colour_count graph =
          still_before (colour_into graph edge) size (colour_count graph) counts apart in
          le_same (share size owners edge) (edge.weight +ℤ number edge.head (owned edge.head owners))
          (share (suc size) more edge) (edge.weight +ℤ number edge.head (here ∷ owned edge.head owners))
          (share-counts size owners edge counts)
          (share-counts (suc size) more edge still ∙ ap (λ set. edge.weight +ℤ number edge.head set) same)
          (weight_and_less edge.weight (number edge.head (owned edge.head owners))
          (number edge.head (here ∷ owned edge.head owners))
          (bounds.grows edge.head here (owned edge.head owners) (head_within edge within)
          (room (colour_into graph edge) size (colour_count graph) (length (owned edge.head owners)) still
          (length-owned edge.head owners ∙ long))))

  -- No edge goes to the next colour: the root owns it.
  no_edge : (size : ℕ) → size < colour_count graph → HoldsFrom size
      → ((edge : Edge) → IsIn edge all → colour_into graph edge ≢ colour_count graph - size) → HoldsFrom (suc size)
  no_edge size small holds none = record {
    owners = 0 ∷ holds.owners;
    long = ap suc holds.long;
    reached = reached;
    enough =
        le-trans (sum_of (λ edge. edge.weight) all) (sum_of (share size holds.owners) all)
        (sum_of (share (suc size) (0 ∷ holds.owners)) all) holds.enough
        (sum_of-le (share size holds.owners) (share (suc size) (0 ∷ holds.owners)) all
        (λ edge within. kept size holds.owners (0 ∷ holds.owners) (eqb 0 edge.head) edge within holds.long refl
        (not_next edge within)));
  }
    where
      next_is : (colour size count : ℕ) → colour + size ≡ count → colour ≡ count - size
      next_is colour size count at = omega arith

      not_next : (edge : Edge) → IsIn edge all → colour_into graph edge + size ≡ colour_count graph → ⊥
      not_next edge within at = none edge within (next_is (colour_into graph edge) size (colour_count graph) at)

      at_front : (colour size count : ℕ) → colour ≡ 0 → size < count → colour + suc size ≤ count
      at_front colour size count root small = omega arith

      reached : (owner : ℕ) → IsIn owner (0 ∷ holds.owners) → IsOwner (suc size) owner
      reached owner (inl root) = record {
        above = root_edge graph;
        among = inl refl;
        at_head = sym root;
        before = at_front (colour_of graph owner) size (colour_count graph)
            (ap (λ v. colour_of graph v) root ∙ is.colours.root) small;
      }
      reached owner (inr within) =
          let old = holds.reached owner within in
          record {
            above = old.above;
            among = old.among;
            at_head = old.at_head;
            before =
                still_before (colour_of graph owner) size (colour_count graph) old.before
                (λ at. not_next old.above old.among (ap (λ v. colour_of graph v + size) old.at_head ∙ at));
          }

  -- What an edge adds is enough for its tail, which takes over all that the head owned.
  tail_takes : (edge : Edge) (to : ℕ) (owners : List ℕ) → IsOpen edge
      → colour_into graph edge + length owners ≡ colour_count graph → edge.tail ≡ to → edge.head ≢ to
      → (edge.weight +ℤ (number edge.head (owned edge.head owners) +ℤ number to (owned to owners))) ≤ℤ number to
      (owned to (to ∷ pass edge.head to owners))
  tail_takes edge to owners is_open next to_is apart =
      subst (λ b. AtMost (owned to owners) b to) (sym (eq-eqb to to refl))
      (subst (λ left. AtMost left true to) (without-pass edge.head to owners apart)
      (subst (λ v. AtMost (without set part) true v) to_is
      (bounds.takes edge set part is_open (ap (λ n. colour_into graph edge + n)
      (length-owned to (pass edge.head to owners) ∙ length-pass edge.head to owners) ∙ next)
      (IsPartOf-pass edge.head to owners))))
    where
      set : List Bool
      set = owned to (pass edge.head to owners)

      part : List Bool
      part = owned edge.head owners

      AtMost : List Bool → Bool → ℕ → Type 0
      AtMost left b v = (edge.weight +ℤ (number edge.head part +ℤ number v left)) ≤ℤ number v (b ∷ set)

  -- An edge goes to the next colour: its tail owns it and all that the head owned.
  with_edge : (size : ℕ) → size < colour_count graph → HoldsFrom size → (edge : Edge) → IsIn edge rest
      → colour_into graph edge + size ≡ colour_count graph → HoldsFrom (suc size)
  with_edge size small holds edge within next = record {
    owners = to ∷ pass edge.head to holds.owners;
    long = ap suc (length-pass edge.head to holds.owners ∙ holds.long);
    reached = reached;
    enough =
        le-trans (sum_of (λ e. e.weight) all) (sum_of (share size holds.owners) all) (sum_of (share (suc size) new) all)
        holds.enough
        (sum_of-two (colour_into graph) (share size holds.owners) (share (suc size) new) edge above all tree.different
        (inr within) among apart both others);
  }
    where
      above : Edge
      above = (tree.tails edge within).0

      among : IsIn above all
      among = (tree.tails edge within).1

      to : ℕ
      to = above.head

      to_is : edge.tail ≡ to
      to_is = sym (tree.tails edge within).2

      new : List ℕ
      new = to ∷ pass edge.head to holds.owners

      rising : colour_of graph to < colour_into graph edge
      rising = subst (λ v. colour_of graph v < colour_into graph edge) to_is (tree.each edge within).0.rising

      apart : colour_into graph edge ≢ colour_into graph above
      apart is = absurd (omega (arith, rising, is))

      not_to : edge.head ≢ to
      not_to is = apart (ap (λ v. colour_of graph v) is)

      before : colour_of graph to + suc size ≤ colour_count graph
      before = omega (arith, rising, next)

      both : (share size holds.owners edge +ℤ share size holds.owners above) ≤ℤ
          (share (suc size) new edge +ℤ share (suc size) new above)
      both =
          le_same (share size holds.owners edge +ℤ share size holds.owners above)
          ((edge.weight +ℤ number edge.head (owned edge.head holds.owners)) +ℤ
          (above.weight +ℤ number to (owned to holds.owners)))
          (share (suc size) new edge +ℤ share (suc size) new above)
          (pos 0 +ℤ (above.weight +ℤ number to (owned to new)))
          (ap₂ (λ a b. a +ℤ b) (share-counts size holds.owners edge (omega (arith, next)))
          (share-counts size holds.owners above (omega (arith, before))))
          (ap₂ (λ a b. a +ℤ b) (share-past (suc size) new edge (omega (arith, next)))
          (share-counts (suc size) new above before))
          (taken_in edge.weight (number edge.head (owned edge.head holds.owners)) above.weight
          (number to (owned to holds.owners)) (number to (owned to new))
          (tail_takes edge to holds.owners (tree.each edge within).1
          (ap (λ n. colour_into graph edge + n) holds.long ∙ next) to_is not_to))

      others : (other : Edge) → IsIn other all → colour_into graph other ≢ colour_into graph edge
          → colour_into graph other ≢ colour_into graph above
          → share size holds.owners other ≤ℤ share (suc size) new other
      others other at not_edge not_above =
          kept size holds.owners new (eqb to other.head) other at holds.long
          (ap (λ set. eqb to other.head ∷ set) (owned-pass_other edge.head to other.head holds.owners
          (λ is. not_edge (ap (λ v. colour_of graph v) is)) (λ is. not_above (ap (λ v. colour_of graph v) is))))
          (λ at_next. not_edge (same_place (colour_into graph other) (colour_into graph edge) size (colour_count graph)
          at_next next))

      the_tail : (owner : ℕ) → owner ≡ to → IsOwner (suc size) owner
      the_tail owner is_to = record {
        above = above;
        among = among;
        at_head = sym is_to;
        before = subst (λ v. colour_of graph v + suc size ≤ colour_count graph) (sym is_to) before;
      }

      -- The edge alone goes to the next colour.
      no_other : (owner : ℕ) → IsOwner size owner → colour_of graph owner + size ≡ colour_count graph
          → owner ≡ edge.head
      no_other owner old at_next =
          sym old.at_head
          ∙ ap (λ (e : Edge). e.head) (same_key (colour_into graph) old.above edge all tree.different old.among
          (inr within)
          (ap (λ v. colour_of graph v) old.at_head ∙ same_place (colour_of graph owner) (colour_into graph edge) size
          (colour_count graph) at_next next))

      reached : (owner : ℕ) → IsIn owner new → IsOwner (suc size) owner
      reached owner (inl is_to) = the_tail owner is_to
      reached owner (inr passed) = choose (IsIn-pass edge.head to owner holds.owners passed)
        where
          choose : (owner ≡ to) ⊎ ((IsIn owner holds.owners) × (owner ≢ edge.head)) → IsOwner (suc size) owner
          choose (inl is_to) = the_tail owner is_to
          choose (inr (at, not_head)) =
              let old = holds.reached owner at in
              record {
                above = old.above;
                among = old.among;
                at_head = old.at_head;
                before = still_before (colour_of graph owner) size (colour_count graph) old.before
                    (λ at_next. not_head (no_other owner old at_next));
              }

  one_more : (size : ℕ) → size < colour_count graph → HoldsFrom size → HoldsFrom (suc size)
  one_more size small holds = choose (with_key (colour_into graph) (colour_count graph - size) all)
    where
      next_of : (colour size count : ℕ) → colour ≡ count - size → size < count → colour + size ≡ count
      next_of colour size count is small = omega arith

      not_root : (colour size count : ℕ) → colour ≡ count - size → size < count → colour ≡ 0 → ⊥
      not_root colour size count is small root = absurd (omega arith)

      choose : ((edge : Edge) × (IsIn edge all) × (colour_into graph edge ≡ colour_count graph - size))
          ⊎ ((edge : Edge) → IsIn edge all → colour_into graph edge ≢ colour_count graph - size)
          → HoldsFrom (suc size)
      choose (inl (edge, inl root, at)) =
          absurd (not_root (colour_into graph edge) size (colour_count graph) at small
          (ap (λ (e : Edge). colour_into graph e) root ∙ is.colours.root))
      choose (inl (edge, inr within, at)) =
          with_edge size small holds edge within (next_of (colour_into graph edge) size (colour_count graph) at small)
      choose (inr none) = no_edge size small holds none

  from_first : (size : ℕ) → size ≤ colour_count graph → HoldsFrom size
  from_first zero within = no_colour
  from_first (suc size) within = one_more size (omega arith) (from_first size (omega arith))

  -- In the end the root owns all, and its edge alone counts.
  pub score-le : sum_of (λ edge. edge.weight) all ≤ℤ (graph.root_score +ℤ number 0
      (replicate (colour_count graph) true))
  score-le =
      one_left (sum_of (λ edge. edge.weight) all) (share count last.owners (root_edge graph))
      (sum_of (share count last.owners) rest)
      (graph.root_score +ℤ number 0 (replicate count true)) last.enough
      (sum_of-zero (share count last.owners) rest none)
      (share-counts count last.owners (root_edge graph) (omega (arith, is.colours.root))
      ∙ ap (λ set. graph.root_score +ℤ number 0 set) (owned-all 0 last.owners count last.long is_root))
    where
      count : ℕ
      count = colour_count graph

      last : HoldsFrom count
      last = from_first count (omega arith)

      is_root : (owner : ℕ) → IsIn owner last.owners → owner ≡ 0
      is_root owner within =
          let reached = last.reached owner within in
          sym reached.at_head
          ∙ ap (λ (e : Edge). e.head) (same_key (colour_into graph) reached.above (root_edge graph) all tree.different
          reached.among (inl refl)
          (ap (λ v. colour_of graph v) reached.at_head ∙ none_before (colour_of graph owner) count reached.before
          ∙ sym is.colours.root))

      some : (colour n : ℕ) → (colour ≡ 0 → ⊥) → n < colour + n
      some colour n apart = omega arith

      none : (edge : Edge) → IsIn edge rest → share count last.owners edge ≤ℤ pos 0
      none edge within =
          le_same (share count last.owners edge) (pos 0) (pos 0) (pos 0)
          (share-past count last.owners edge (some (colour_into graph edge) count
          (λ at_root. tree.different.0 edge within (at_root ∙ sym is.colours.root)))) refl (omega (arith, ints))
