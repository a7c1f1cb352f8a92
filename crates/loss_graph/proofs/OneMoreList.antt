-- Of AreGathered and Adds: what one more list adds to what is gathered.
use Rattle.std.proofs.Common.{◌≡◌, ◌+◌, ◌<◌, ◌≤◌, ◌∙◌, ◌⊎◌, inl, inr, ℕ, suc, Bool, true, false, cond, List, [], ◌∷◌}
use Rattle.std.proofs.Common.{◌++◌, length, map, ap, sym, refl, ltb, arith}
use Rattle.std.proofs.lemmas.Bool.{cases_lt, ltb-false}
use Rattle.std.proofs.lemmas.List.{append-nil, flat_map_more, length-append, length-map, map-id, nil_from_length}
use Rattle.std.proofs.lemmas.List.Elements.{filter-append}
use Rattle.std.proofs.lemmas.List.FromFn.{map-range_with_len_more}
use Rattle.std.specs.List.{All, enumerate_from, filter, flat_map, range_with_len}
use Rattle.element_table.specs.Formula.{IsFormula, is_proper_part}
use Rattle.element_table.specs.FormulaList.{FormulaListValue}
use Rattle.loss_graph.specs.Lists.{list_at}
use Rattle.loss_graph.specs.Vertices.{has_part, parts_in, root_vertex, vertex_in, vertices_from, vertices_of_colour}
use Rattle.loss_graph.specs.declared.vertex.Vertex.{Vertex}
use Rattle.loss_graph.specs.inside.Gathered.{Adds, AreGathered}
use Rattle.loss_graph.proofs.Weights.{filter-short, named-few}

-- the first lists of peaks that have a part
abbrev pub found_below : List ℕ → List FormulaListValue → ℕ → List ℕ
found_below root lists count = filter (λ number. has_part root (list_at lists number)) (range_with_len 1 count)

range-more : (count number : ℕ) → 1 + count ≡ number
    → range_with_len 1 (count + 1) ≡ range_with_len 1 count ++ number ∷ []
range-more count number is =
    sym (map-id (range_with_len 1 (count + 1))) ∙ map-range_with_len_more (λ (n : ℕ). n) 1 count number is
    ∙ ap (λ front. front ++ number ∷ []) (map-id (range_with_len 1 count))

found_below-more : (root : List ℕ) (lists : List FormulaListValue) (count number : ℕ) → 1 + count ≡ number
    → found_below root lists (count + 1) ≡ found_below root lists count
    ++ cond (has_part root (list_at lists number)) (number ∷ []) []
found_below-more root lists count number is =
    ap (filter (λ n. has_part root (list_at lists n))) (range-more count number is)
    ∙ filter-append (λ n. has_part root (list_at lists n)) (range_with_len 1 count) (number ∷ [])

enumerate-more : (from : ℕ) (peaks : List ℕ) (peak : ℕ)
    → enumerate_from from (peaks ++ peak ∷ []) ≡ enumerate_from from peaks ++ (from + length peaks, peak) ∷ []
enumerate-more from [] peak = ap (λ n. (n, peak) ∷ []) (same from)
  where
    same : (n : ℕ) → n ≡ n + 0
    same n = omega arith
enumerate-more from (first ∷ peaks) peak =
    ap (λ rest. (from, first) ∷ rest)
    (enumerate-more (from + 1) peaks peak ∙ ap (λ n. enumerate_from (from + 1) peaks ++ (n, peak) ∷ [])
    (next from (length peaks)))
  where
    next : (n m : ℕ) → (n + 1) + m ≡ n + suc m
    next n m = omega arith

pub vertices_from-more : (root : List ℕ) (lists : List FormulaListValue) (peaks : List ℕ) (peak : ℕ)
    → vertices_from root lists (peaks ++ peak ∷ []) ≡ vertices_from root lists peaks
    ++ map (vertex_in (length peaks + 1) peak) (parts_in root (list_at lists peak))
vertices_from-more root lists peaks peak =
    ap (λ entries. root_vertex root ∷ flat_map (vertices_of_colour root lists) entries) (enumerate-more 1 peaks peak)
    ∙ sym (flat_map_more (vertices_of_colour root lists) (root_vertex root ∷ []) (enumerate_from 1 peaks)
    (1 + length peaks, peak))
    ∙ ap (λ colour. vertices_from root lists peaks ++ map (vertex_in colour peak) (parts_in root (list_at lists peak)))
    (turned (length peaks))
  where
    turned : (n : ℕ) → 1 + n ≡ n + 1
    turned n = omega arith

pub AreGathered-more : (root : List ℕ) (lists : List FormulaListValue) (before number count new_count : ℕ)
    (vertices new_vertices : List Vertex) (peaks new_peaks : List ℕ) → 1 + before ≡ number
    → AreGathered root lists (found_below root lists before) count vertices peaks
    → Adds root number (list_at lists number).formulas count vertices peaks new_count new_vertices new_peaks
    → AreGathered root lists (found_below root lists (before + 1)) new_count new_vertices new_peaks
AreGathered-more root lists before number count new_count vertices new_vertices peaks new_peaks is so_far adds =
    rw (found_below-more root lists before number is) (choose (has_part root (list_at lists number)) refl)
  where
    choose : (has : Bool) → has_part root (list_at lists number) ≡ has
        → AreGathered root lists (found_below root lists before
        ++ cond (has_part root (list_at lists number)) (number ∷ []) []) new_count new_vertices new_peaks
    choose true has = rw has (record {
      counted = adds.counted ∙ ap (λ n. n + length (parts_in root (list_at lists number))) so_far.counted
          ∙ sym (ap (λ all. length all) (vertices_from-more root lists (found_below root lists before) number)
          ∙ length-append (vertices_from root lists (found_below root lists before))
          (map (vertex_in (length (found_below root lists before) + 1) number)
          (parts_in root (list_at lists number)))
          ∙ ap (λ n. length (vertices_from root lists (found_below root lists before)) + n)
          (length-map (parts_in root (list_at lists number))
          (vertex_in (length (found_below root lists before) + 1) number)));
      all = λ few. adds.added few
          ∙ ap (λ front. front ++ map (vertex_in (length peaks + 1) number) (parts_in root (list_at lists number)))
          (so_far.all (omega (arith, adds.counted)))
          ∙ ap (λ named. vertices_from root lists (found_below root lists before)
          ++ map (vertex_in (length named + 1) number) (parts_in root (list_at lists number))) so_far.named
          ∙ sym (vertices_from-more root lists (found_below root lists before) number);
      named =
          adds.named ∙ ap (λ some. cond some (peaks ++ number ∷ []) peaks) has
          ∙ ap (λ front. front ++ number ∷ []) so_far.named;
    })
    choose false has =
        let none : length (parts_in root (list_at lists number)) ≡ 0 =
        omega (arith, ltb-false 0 (length (parts_in root (list_at lists number))) has) in
        rw (has, append-nil (found_below root lists before)) (record {
          counted = adds.counted ∙ ap (λ n. count + n) none ∙ no_more count ∙ so_far.counted;
          all =
              λ few. adds.added few ∙ ap (λ parts. vertices ++ map (vertex_in (length peaks + 1) number) parts)
              (nil_from_length (parts_in root (list_at lists number)) none)
              ∙ append-nil vertices ∙ so_far.all (omega (arith, adds.counted));
          named = adds.named ∙ ap (λ some. cond some (peaks ++ number ∷ []) peaks) has ∙ so_far.named;
        })
      where
        no_more : (n : ℕ) → n + 0 ≡ n
        no_more n = omega arith

pub adds-few : (root : List ℕ) (peak : ℕ) (formulas : List (List ℕ)) (count : ℕ) (vertices : List Vertex)
    (peaks : List ℕ) (new_count : ℕ) (new_vertices : List Vertex) (new_peaks : List ℕ)
    → Adds root peak formulas count vertices peaks new_count new_vertices new_peaks
    → (length new_peaks ≤ length peaks + 1) × (new_count ≤ count + length formulas)
adds-few root peak formulas count vertices peaks new_count new_vertices new_peaks adds = (
  rw adds.named (named-few (ltb 0 (length (filter (λ formula. is_proper_part formula root) formulas))) peaks peak),
  omega (arith, adds.counted, filter-short (λ formula. is_proper_part formula root) formulas),
)

pub all_formulas-more : (lists : List FormulaListValue) (number : ℕ)
    → ((other : ℕ) → 0 < other → other < number → All IsFormula (list_at lists other).formulas)
    → All IsFormula (list_at lists number).formulas → (other : ℕ) → 0 < other → other < number + 1
    → All IsFormula (list_at lists other).formulas
all_formulas-more lists number before here other some within = choose (cases_lt other number)
  where
    choose : (other < number) ⊎ (number ≤ other) → All IsFormula (list_at lists other).formulas
    choose (inl earlier) = before other some earlier
    choose (inr not_earlier) = let same : other ≡ number = omega arith in rw same here
