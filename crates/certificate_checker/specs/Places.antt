-- Why a certificate does not hold: the first place, in the order of looking, where a condition fails.
use Rattle.std.specs.Prelude.{◌≡◌, ◌<◌, ◌≤◌, ◌+◌, ◌⊎◌, ◌↔◌, ℕ, ℤ}
use Rattle.std.specs.Prelude.{pos, ◌<ℤ◌, ◌≤ℤ◌, Bool, true, List, ◌∷◌, length}
use Rattle.colour_graph.specs.EdgeSet.{all_edges}
use Rattle.colour_graph.specs.Graph.{Graph, colour_count, colour_of}
use Rattle.tree_certificate.specs.CertHolds.{CertHolds}
use Rattle.tree_certificate.specs.TableHolds.{FitsGraph, HasRow, IsHighAt, IsHighEnough}
use Rattle.tree_certificate.specs.TableHolds.{greatest_colours, number_at, place_in, row_length, table_total}
use Rattle.tree_certificate.specs.Value.{CertValue, a_bound, a_table}
use Rattle.certificate_checker.specs.BoundPlaces.{IsBoundPlace}
use Rattle.tree_certificate.specs.declared.place.Place.{Place}
use Rattle.tree_certificate.specs.declared.place.Place.TheVariants.{TableColours, TableShape, TableRow, TableTotal}
use Rattle.certificate_checker.specs.declared.verdict.Verdict.{Verdict}
use Rattle.certificate_checker.specs.declared.verdict.Verdict.TheVariants.{Holds, Fails}

-- The first vertex of a graph whose row is missing or has another length; or the number of vertices, where each has its
-- row and there are further ones.
pub record IsShapePlace (graph : Graph) (rows : List (List ℤ)) (vertex : ℕ) : Type 0 where
  pub few : colour_count graph ≤ greatest_colours
  pub before : (earlier : ℕ) → earlier < vertex → HasRow graph rows earlier
  pub fails : ((vertex < length graph.colours) × ¬ (HasRow graph rows vertex))
      ⊎ ((vertex ≡ length graph.colours) × (length graph.colours < length rows))

-- The least number that is high enough for a vertex at a place of its row: 0 for no colour, else the greatest of what
-- it is to be at least.
pub record IsNeeded (graph : Graph) (rows : List (List ℤ)) (vertex place : ℕ) (needed : ℤ) : Type 0 where
  pub empty : place ≡ 0 → needed ≡ pos 0
  pub high : (set : List Bool) → colour_of graph vertex + length set < colour_count graph
      → place_in graph vertex (true ∷ set) ≡ place
      → (upper : ℤ) → (needed ≤ℤ upper) ↔ IsHighEnough graph rows vertex set upper

-- a place of one vertex stands before that of another, or of the same one further on
abbrev pub ComesBefore : ℕ → ℕ → ℕ → ℕ → Type 0
ComesBefore vertex place other later = (vertex < other) ⊎ ((vertex ≡ other) × (place < later))

-- The first number of a table that is not high enough, by vertex and then by place, with what it is and what it is to
-- be at least.
pub record IsNumberPlace (graph : Graph) (rows : List (List ℤ)) (vertex place : ℕ) (held needed : ℤ) : Type 0 where
  pub fits : FitsGraph graph rows
  pub in_graph : vertex < length graph.colours
  pub in_row : place < row_length graph vertex
  pub before : (earlier at : ℕ) → earlier < length graph.colours → at < row_length graph earlier
      → ComesBefore earlier at vertex place → IsHighAt graph rows earlier at
  pub is_held : held ≡ number_at rows vertex place
  pub is_needed : IsNeeded graph rows vertex place needed
  pub low : held <ℤ needed

-- All numbers are high enough, and what the table says of the whole graph is above the upper bound.
pub record IsTotalPlace (graph : Graph) (rows : List (List ℤ)) (upper total : ℤ) : Type 0 where
  pub fits : FitsGraph graph rows
  pub high : (vertex place : ℕ) → vertex < length graph.colours → place < row_length graph vertex
      → IsHighAt graph rows vertex place
  pub is_total : total ≡ table_total graph rows
  pub above : upper <ℤ total

-- the first place where a table fails, in the order in which they are named
abbrev pub IsTablePlace : Graph → List (List ℤ) → ℤ → Place → Type 0
IsTablePlace graph rows upper (TableColours colours) =
    (greatest_colours < colour_count graph) × (colours ≡ colour_count graph)
IsTablePlace graph rows upper (TableShape vertex) = IsShapePlace graph rows vertex
IsTablePlace graph rows upper (TableRow vertex place held needed) = IsNumberPlace graph rows vertex place held needed
IsTablePlace graph rows upper (TableTotal total) = IsTotalPlace graph rows upper total
IsTablePlace graph rows upper place = ⊥

abbrev pub IsPlace : Graph → CertValue → ℤ → Place → Type 0
IsPlace graph (a_table rows) upper place = IsTablePlace graph rows upper place
IsPlace graph (a_bound bound) upper place = IsBoundPlace graph (all_edges graph) bound upper 0 place

-- what is said of a certificate: that it holds, or the first place where it fails
abbrev pub IsVerdict : Graph → CertValue → ℤ → Verdict → Type 0
IsVerdict graph cert upper Holds = CertHolds graph cert upper
IsVerdict graph cert upper (Fails place) = IsPlace graph cert upper place
