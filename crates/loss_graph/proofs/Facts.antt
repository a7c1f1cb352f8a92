-- Of IsPart and CanJoin: where edges go, by the two facts that give every edge a greater colour. Every atom is heavier
-- than twice the greatest half-width, and the intervals of lists are disjoint.
use Rattle.std.proofs.Common.{◌≡◌, ◌+◌, ◌-◌, ◌*◌, ◌<◌, ◌≤◌, ◌∙◌, ◌⊎◌, inl, inr, ℕ, zero, suc, ℤ, pos, ◌+ℤ◌, ◌-ℤ◌, ◌≤ℤ◌}
use Rattle.std.proofs.Common.{Bool, true, false, List, [], ◌∷◌, length, drop, get_or, min, ap, refl, cond, arith}
use Rattle.std.specs.Prelude.{◌↔◌, IsTrue}
use Rattle.std.proofs.lemmas.Bool.{cases_lt}
use Rattle.std.proofs.lemmas.Int.{ints}
use Rattle.std.proofs.lemmas.List.{get_or-drop, length-drop}
use Rattle.std.proofs.lemmas.List.Elements.{recursion_from_All}
use Rattle.std.specs.List.{All, AllByRecursion, enumerate_from, filter, flat_map}
use Rattle.adducts.specs.Selected.{AreApart}
use Rattle.adducts.specs.declared.choice.Choice.{Choice}
use Rattle.element_table.specs.Formula.{IsFormula, IsProperPart, is_proper_part, mass_of}
use Rattle.element_table.specs.FormulaList.{FormulaListValue}
use Rattle.element_table.specs.Window.{InWindow, Window, greatest_half_width, half_width_of}
use Rattle.loss_graph.specs.Lists.{AreLists, list_at, window_at}
use Rattle.colour_graph.specs.Graph.{greatest_graph}
use Rattle.loss_graph.specs.Vertices.{parts_in, peaks_of, root_vertex, vertex_at, vertex_in, vertices_of}
use Rattle.loss_graph.specs.Vertices.{vertices_of_colour}
use Rattle.loss_graph.specs.declared.vertex.Vertex.{Vertex}
use Rattle.loss_graph.specs.inside.Joining.{CanJoin}
use Rattle.loss_graph.proofs.Chain.{AreColours-peaks, IsChain, chain-fact, chain-next, chain-pairs, chain_of}
use Rattle.loss_graph.specs.inside.Placed.{ComesBefore, IsPart}

-- what the element table tells of formulas
pub record Laws : Type 0 where
  pub proper : (part whole : List ℕ) → IsFormula part → IsFormula whole
      → IsTrue (is_proper_part part whole) ↔ IsProperPart part whole
  pub lighter : (part whole : List ℕ) → IsFormula part → IsFormula whole → IsProperPart part whole
      → mass_of part + 2 * greatest_half_width < mass_of whole

half-le : (choice : Choice) (mz : ℕ) → half_width_of choice.ppm choice.abs mz ≤ 2000000
half-le choice mz = omega arith

-- two formulas in one window are at most twice its half-width apart
near_in_one : (window : Window) (one other : List ℕ) → window.half ≤ 2000000 → InWindow window one
    → InWindow window other → mass_of other ≤ mass_of one + 4000000
near_in_one window one other narrow first second = omega (arith, ints, narrow, first.not_below, second.not_above)

-- the number of a lower interval that is nearest to a greater m/z is in both where they meet
in_high_below : (high low h k : ℕ) → high - k ≤ low + h → high ≤ min (low + h) high + k
in_high_below high low h k meet = omega arith

in_high_above : (high low h k : ℕ) → min (low + h) high ≤ high + k
in_high_above high low h k = omega arith

in_low_below : (high low h : ℕ) → low < high → low ≤ min (low + h) high + h
in_low_below high low h below = omega arith

in_low_above : (high low h : ℕ) → min (low + h) high ≤ low + h
in_low_above high low h = omega arith

-- disjoint intervals, the one of the smaller m/z below the other
ends_apart : (choice : Choice) (high low : ℕ) → low < high → AreApart choice high low
    → low + half_width_of choice.ppm choice.abs low < high - half_width_of choice.ppm choice.abs high
ends_apart choice high low below apart =
    choose (cases_lt (low + half_width_of choice.ppm choice.abs low) (high - half_width_of choice.ppm choice.abs high))
  where
    choose : (low + half_width_of choice.ppm choice.abs low < high - half_width_of choice.ppm choice.abs high)
        ⊎ (high - half_width_of choice.ppm choice.abs high ≤ low + half_width_of choice.ppm choice.abs low)
        → low + half_width_of choice.ppm choice.abs low < high - half_width_of choice.ppm choice.abs high
    choose (inl is) = is
    choose (inr meet) = absurd (apart (min (low + half_width_of choice.ppm choice.abs low) high)
        (record {
          not_below =
              in_high_below high low (half_width_of choice.ppm choice.abs low)
              (half_width_of choice.ppm choice.abs high) meet;
          not_above =
              in_high_above high low (half_width_of choice.ppm choice.abs low)
              (half_width_of choice.ppm choice.abs high);
        })
        (record {
          not_below = in_low_below high low (half_width_of choice.ppm choice.abs low) below;
          not_above =
              in_low_above high low (half_width_of choice.ppm choice.abs low);
        }))

-- a formula in the window of a lower m/z is lighter
lighter_below : (shift : ℤ) (high low h k : ℕ) (one other : List ℕ) → low + h < high - k
    → InWindow (record { centre = pos high -ℤ shift; half = k }) one
    → InWindow (record { centre = pos low -ℤ shift; half = h }) other → mass_of other < mass_of one
lighter_below shift high low h k one other ends first second =
    by_numbers (mass_of one) (mass_of other) first.not_below second.not_above
  where
    by_numbers : (m n : ℕ) → ((pos high -ℤ shift) -ℤ pos k) ≤ℤ pos m → pos n ≤ℤ ((pos low -ℤ shift) +ℤ pos h) → n < m
    by_numbers m n above below = omega (arith, ints, above, below, ends)

-- the parts of the root in a list
parts_are : (choice : Choice) (root : List ℕ) (lists : List FormulaListValue) (laws : Laws) (colour peak : ℕ)
    → IsFormula root → 0 < colour → 0 < peak → peak < length lists → (formulas : List (List ℕ))
    → AllByRecursion IsFormula formulas → AllByRecursion (InWindow (window_at choice (list_at lists peak))) formulas
    → AllByRecursion (λ formula. IsPart choice root lists (vertex_in colour peak formula))
    (filter (λ formula. is_proper_part formula root) formulas)
parts_are choice root lists laws colour peak is_root a b c [] are in_window = tt
parts_are choice root lists laws colour peak is_root a b c (formula ∷ formulas) are in_window =
    choose (is_proper_part formula root) refl
    (parts_are choice root lists laws colour peak is_root a b c formulas are.1 in_window.1)
  where
    choose : (is : Bool) → is_proper_part formula root ≡ is
        → AllByRecursion (λ other. IsPart choice root lists (vertex_in colour peak other))
        (filter (λ other. is_proper_part other root) formulas)
        → AllByRecursion (λ other. IsPart choice root lists (vertex_in colour peak other))
        (cond (is_proper_part formula root) (formula ∷ filter (λ other. is_proper_part other root) formulas)
        (filter (λ other. is_proper_part other root) formulas))
    choose true is rest =
        rw is (
          record {
            peak = b;
            list = c;
            colour = a;
            formula = are.0;
            part =
                (laws.proper formula root are.0 is_root).0 is;
            in_window = in_window.0;
          },
          rest,
        )
    choose false is rest = rw is rest

abbrev pub later_vertices : List ℕ → List FormulaListValue → List Vertex
later_vertices root lists = flat_map (vertices_of_colour root lists) (enumerate_from 1 (peaks_of root lists))

-- what is known of the lists
pub record Known (choice : Choice) (root : List ℕ) (lists : List FormulaListValue) : Type 0 where
  pub laws : Laws
  pub are_lists : AreLists choice root lists
  pub formula : IsFormula root
  pub formulas : (number : ℕ) → 0 < number → number < length lists → All IsFormula (list_at lists number).formulas

pub known_of : (choice : Choice) (root given : List ℕ) (lists : List FormulaListValue) → Laws → root ≡ given
    → AreLists choice given lists → IsFormula root
    → ((number : ℕ) → 0 < number → number < length lists → All IsFormula (list_at lists number).formulas)
    → Known choice root lists
known_of choice root given lists laws same are formula formulas =
    record { laws = laws; are_lists = rw (← same) at are; formula = formula; formulas = formulas }

pub vertices_chain : (choice : Choice) (root : List ℕ) (spectrum : List FormulaListValue) → Known choice root spectrum
    → IsChain (IsPart choice root spectrum) (root_vertex root) (later_vertices root spectrum)
vertices_chain choice root spectrum known =
    chain_of root spectrum (IsPart choice root spectrum) each (peaks_of root spectrum) 1 (root_vertex root) refl
    (AreColours-peaks root spectrum known.are_lists.some)
  where
    each : (colour peak : ℕ) → 0 < colour → 0 < peak → peak < length spectrum
        → AllByRecursion (λ formula. IsPart choice root spectrum (vertex_in colour peak formula))
        (parts_in root (list_at spectrum peak))
    each colour peak some_colour some_peak within =
        parts_are choice root spectrum known.laws colour peak known.formula some_colour some_peak within
        (list_at spectrum peak).formulas
        (recursion_from_All IsFormula (list_at spectrum peak).formulas (known.formulas peak some_peak within))
        (recursion_from_All (InWindow (window_at choice (list_at spectrum peak))) (list_at spectrum peak).formulas
        (known.are_lists.each peak (record { mz = 0; intensity = 0; formulas = [] }) within).in_window)

pub part_at : (choice : Choice) (root : List ℕ) (spectrum : List FormulaListValue) → Known choice root spectrum
    → (place : ℕ) → place < length (later_vertices root spectrum)
    → IsPart choice root spectrum (vertex_at (later_vertices root spectrum) place)
part_at choice root spectrum known =
    chain-fact (IsPart choice root spectrum) (root_vertex root) (later_vertices root spectrum)
    (vertices_chain choice root spectrum known)

-- a list of a greater number, of a smaller m/z
later_list : (choice : Choice) (root : List ℕ) (spectrum : List FormulaListValue) → AreLists choice root spectrum
    → (one later : ℕ) → 0 < one → one < later → later < length spectrum
    → ((list_at spectrum later).mz < (list_at spectrum one).mz)
    × AreApart choice (list_at spectrum one).mz (list_at spectrum later).mz
later_list choice root spectrum are one later some in_order within =
    let moved : (n : ℕ) → 0 < n → get_or (drop 1 spectrum) (n - 1) (record { mz = 0; intensity = 0; formulas = [] })
    ≡ list_at spectrum n =
    λ n more. get_or-drop 1 spectrum (n - 1) (record { mz = 0; intensity = 0; formulas = [] })
    ∙ ap (list_at spectrum) (back n more) in
    rw (← moved one some, ← moved later (omega arith)) (
      are.peaks.falling (one - 1) (later - 1) (record { mz = 0; intensity = 0; formulas = [] }) (omega arith)
          (omega (arith, length-drop 1 spectrum)),
      are.peaks.apart (one - 1) (later - 1) (record { mz = 0; intensity = 0; formulas = [] }) (omega arith)
          (omega (arith, length-drop 1 spectrum)),
    )
  where
    back : (n : ℕ) → 0 < n → 1 + (n - 1) ≡ n
    back n more = omega arith

not_earlier : (choice : Choice) (root : List ℕ) (spectrum : List FormulaListValue) → Known choice root spectrum
    → (tail head : Vertex) → IsPart choice root spectrum tail → IsPart choice root spectrum head
    → IsProperPart head.formula tail.formula → tail.peak < head.peak
not_earlier choice root spectrum known tail head is_tail is_head part = choose (cases_lt tail.peak head.peak)
  where
    lighter : mass_of head.formula + 4000000 < mass_of tail.formula
    lighter = known.laws.lighter head.formula tail.formula is_head.formula is_tail.formula part

    choose : (tail.peak < head.peak) ⊎ (head.peak ≤ tail.peak) → tail.peak < head.peak
    choose (inl is) = is
    choose (inr back) = split (cases_lt head.peak tail.peak)
      where
        split : (head.peak < tail.peak) ⊎ (tail.peak ≤ head.peak) → tail.peak < head.peak
        split (inr not_later) =
            let same : tail.peak ≡ head.peak = omega arith in
            let tail_window = rw same at is_tail.in_window in
            absurd (omega (
              arith,
              lighter,
              near_in_one (window_at choice (list_at spectrum head.peak)) head.formula
                  tail.formula (half-le choice (list_at spectrum head.peak).mz) is_head.in_window tail_window,
            ))
        split (inl later) =
            let lists =
            later_list choice root spectrum known.are_lists head.peak tail.peak is_head.peak later is_tail.list in
            absurd (omega (
              arith,
              lighter,
              lighter_below choice.adduct.shift (list_at spectrum head.peak).mz (list_at spectrum tail.peak).mz
                  (half_width_of choice.ppm choice.abs (list_at spectrum tail.peak).mz)
                  (half_width_of choice.ppm choice.abs (list_at spectrum head.peak).mz) head.formula tail.formula
                  (ends_apart choice (list_at spectrum head.peak).mz (list_at spectrum tail.peak).mz lists.0 lists.1)
                  is_head.in_window is_tail.in_window,
            ))

-- every edge goes to a later list
edge_rises : (choice : Choice) (root : List ℕ) (spectrum : List FormulaListValue) → Known choice root spectrum
    → (tail head : ℕ) → tail < length (vertices_of root spectrum)
    → head < length (vertices_of root spectrum)
    → is_proper_part (vertex_at (vertices_of root spectrum) head).formula
    (vertex_at (vertices_of root spectrum) tail).formula ≡ true
    → (vertex_at (vertices_of root spectrum) tail).peak < (vertex_at (vertices_of root spectrum) head).peak
edge_rises choice root spectrum known zero zero is_tail is_head is =
    absurd (omega (
      arith,
      known.laws.lighter root root known.formula known.formula
          ((known.laws.proper root root known.formula known.formula).0 is),
    ))
edge_rises choice root spectrum known (suc tail) zero is_tail is_head is =
    let part = part_at choice root spectrum known tail (omega arith) in
    absurd (omega (
      arith,
      known.laws.lighter root (vertex_at (later_vertices root spectrum) tail).formula known.formula part.formula
          ((known.laws.proper root (vertex_at (later_vertices root spectrum) tail).formula known.formula
          part.formula).0 is),
      known.laws.lighter (vertex_at (later_vertices root spectrum) tail).formula root part.formula known.formula
          part.part,
    ))
edge_rises choice root spectrum known zero (suc head) is_tail is_head is =
    (part_at choice root spectrum known head (omega arith)).peak
edge_rises choice root spectrum known (suc tail) (suc head) is_tail is_head is =
    let one = part_at choice root spectrum known tail (omega arith) in
    let other = part_at choice root spectrum known head (omega arith) in
    not_earlier choice root spectrum known (vertex_at (later_vertices root spectrum) tail)
    (vertex_at (later_vertices root spectrum) head) one other
    ((known.laws.proper (vertex_at (later_vertices root spectrum) head).formula
    (vertex_at (later_vertices root spectrum) tail).formula other.formula one.formula).0 is)

pub part_of_vertices : (choice : Choice) (root : List ℕ) (spectrum : List FormulaListValue)
    → Known choice root spectrum → (place : ℕ) → 0 < place → place < length (vertices_of root spectrum)
    → IsPart choice root spectrum (vertex_at (vertices_of root spectrum) place)
part_of_vertices choice root spectrum known zero some within = absurd (omega arith)
part_of_vertices choice root spectrum known (suc place) some within =
    part_at choice root spectrum known place (omega arith)

pub CanJoin-vertices : (choice : Choice) (root : List ℕ) (spectrum : List FormulaListValue)
    → Known choice root spectrum → length (vertices_of root spectrum) ≤ greatest_graph
    → CanJoin (vertices_of root spectrum)
CanJoin-vertices choice root spectrum known few = record {
  some = omega arith;
  few = few;
  root = refl;
  others = λ place some within. (part_of_vertices choice root spectrum known place some within).colour;
  in_order =
      λ one later in_order within. not_less (vertex_at (vertices_of root spectrum) one)
      (vertex_at (vertices_of root spectrum) later) (pairs one later in_order within);
  no_gap = gap;
  heads = heads;
  rising = rising;
}
  where
    pairs : (one later : ℕ) → one < later → later < length (vertices_of root spectrum)
        → ComesBefore (vertex_at (vertices_of root spectrum) one) (vertex_at (vertices_of root spectrum) later)
    pairs =
        chain-pairs (IsPart choice root spectrum) (root_vertex root) (later_vertices root spectrum)
        (vertices_chain choice root spectrum known)

    not_less : (one later : Vertex) → ComesBefore one later → one.colour ≤ later.colour
    not_less one later (inl is) = omega (arith, is.1)
    not_less one later (inr is) = omega (arith, is.1)

    gap : (place : ℕ) → place + 1 < length (vertices_of root spectrum)
        → (vertex_at (vertices_of root spectrum) (place + 1)).colour ≤
        (vertex_at (vertices_of root spectrum) place).colour + 1
    gap place within =
        let more : place + 1 ≡ suc place = omega arith in
        rw more (chain-next (IsPart choice root spectrum) (root_vertex root) (later_vertices root spectrum)
        (vertices_chain choice root spectrum known) place (omega arith))

    heads : (tail head : ℕ) → tail < length (vertices_of root spectrum) → head < length (vertices_of root spectrum)
        → is_proper_part (vertex_at (vertices_of root spectrum) head).formula
        (vertex_at (vertices_of root spectrum) tail).formula ≡ true → tail < head
    heads tail head is_tail is_head is = choose (cases_lt tail head)
      where
        choose : (tail < head) ⊎ (head ≤ tail) → tail < head
        choose (inl before) = before
        choose (inr back) =
            split (cases_lt head tail) (edge_rises choice root spectrum known tail head is_tail is_head is)
          where
            split : (head < tail) ⊎ (tail ≤ head)
                → (vertex_at (vertices_of root spectrum) tail).peak < (vertex_at (vertices_of root spectrum) head).peak
                → tail < head
            split (inl after) rises = back_again (pairs head tail after is_tail)
              where
                back_again : ComesBefore (vertex_at (vertices_of root spectrum) head)
                    (vertex_at (vertices_of root spectrum) tail) → tail < head
                back_again (inl same) = absurd (omega (arith, same.0, rises))
                back_again (inr less) = absurd (omega (arith, less.0, rises))
            split (inr not_after) rises =
                let same : tail ≡ head =
                omega arith in absurd (omega
                (arith, ap (λ at. (vertex_at (vertices_of root spectrum) at).peak) same, rises))

    rising : (tail head : ℕ) → tail < length (vertices_of root spectrum) → head < length (vertices_of root spectrum)
        → is_proper_part (vertex_at (vertices_of root spectrum) head).formula
        (vertex_at (vertices_of root spectrum) tail).formula ≡ true
        → (vertex_at (vertices_of root spectrum) tail).colour < (vertex_at (vertices_of root spectrum) head).colour
    rising tail head is_tail is_head is =
        choose (pairs tail head (heads tail head is_tail is_head is) is_head)
        (edge_rises choice root spectrum known tail head is_tail is_head is)
      where
        choose : ComesBefore (vertex_at (vertices_of root spectrum) tail) (vertex_at (vertices_of root spectrum) head)
            → (vertex_at (vertices_of root spectrum) tail).peak < (vertex_at (vertices_of root spectrum) head).peak
            → (vertex_at (vertices_of root spectrum) tail).colour < (vertex_at (vertices_of root spectrum) head).colour
        choose (inl same) rises = absurd (omega (arith, same.0, rises))
        choose (inr less) rises = less.1
