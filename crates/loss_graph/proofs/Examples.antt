-- Of loss_graph_of: worked examples, computed: the graphs of glucose and of caffeine, and a ladder of carbon.
use Rattle.std.proofs.Common.{◌≡◌, ◌+◌, ◌-◌, ◌*◌, ℕ, ℤ, pos, List, [], ◌∷◌, length, map, refl}
use Rattle.std.specs.List.{range_with_len}
use Rattle.std.specs.Prelude.{neg_ℤ, true}
use Rattle.adducts.specs.declared.choice.Choice.{Choice}
use Rattle.colour_graph.specs.declared.edge.Edge.{Edge}
use Rattle.element_table.specs.Formula.{empty_formula}
use Rattle.element_table.specs.FormulaList.{FormulaListValue}
use Rattle.score_tables.specs.Default.{atoms, default_scores}
use Rattle.loss_graph.specs.Lists.{greatest_intensity}
use Rattle.loss_graph.specs.LossGraph.{loss_graph_of}
use Rattle.loss_graph.specs.Vertices.{vertices_of}

-- protonated molecules, with half-widths of 10 parts in a million and at least 10000 units
abbrev choice : Choice
choice = record {
  adduct = record { plus = true; shift = pos 10072764; extra = empty_formula; bound = neg_ℤ (pos 1) };
  ppm = 10;
  abs = 10000;
  peaks = 12;
}

-- of so many H, C, N and O
abbrev formula : ℕ → ℕ → ℕ → ℕ → List ℕ
formula h c n o = atoms h c n o 0 0 0 0

abbrev glucose : List ℕ
glucose = formula 12 6 0 6

abbrev caffeine : List ℕ
caffeine = formula 10 8 4 2

-- the list of the precursor alone
abbrev lone_list : List FormulaListValue
lone_list = record { mz = 1810707000; intensity = 0; formulas = glucose ∷ [] } ∷ []

-- the list of the precursor, and that of a peak
abbrev glucose_lists : List FormulaListValue
glucose_lists =
    record { mz = 1810707000; intensity = 0; formulas = glucose ∷ [] }
    ∷ record { mz = 1630601000; intensity = 1000000000; formulas = formula 10 6 0 5 ∷ [] }
    ∷ []

-- the list of the precursor, and those of two peaks
abbrev caffeine_lists : List FormulaListValue
caffeine_lists =
    record { mz = 1950877000; intensity = 0; formulas = caffeine ∷ [] }
    ∷ record { mz = 1380662000; intensity = 1000000000; formulas = formula 7 6 3 1 ∷ formula 9 8 0 2 ∷ [] }
    ∷ record { mz = 1100713000; intensity = 400000000; formulas = formula 7 5 3 0 ∷ [] }
    ∷ []

abbrev joining : ℕ → ℕ → ℤ → Edge
joining tail head weight = record { tail = tail; head = head; weight = weight }

-- the precursor of glucose alone is a root
lone_graph : loss_graph_of choice default_scores glucose lone_list ≡ record {
  graph = record { root_score = pos 10; colours = 0 ∷ []; edges = [] };
  formulas = glucose ∷ [];
  peaks = [];
}
lone_graph = refl

-- glucose loses water
glucose_graph : loss_graph_of choice default_scores glucose glucose_lists ≡ record {
  graph = record { root_score = pos 10; colours = 0 ∷ 1 ∷ []; edges = joining 0 1 (pos 52) ∷ [] };
  formulas = glucose ∷ formula 10 6 0 5 ∷ [];
  peaks = 1 ∷ [];
}
glucose_graph = refl

caffeine_intensity : greatest_intensity caffeine_lists ≡ 1000000000
caffeine_intensity = refl

caffeine_graph : loss_graph_of choice default_scores caffeine caffeine_lists ≡ record {
  graph = record {
    root_score = pos 10;
    colours = 0 ∷ 1 ∷ 1 ∷ 2 ∷ [];
    edges = joining 0 1 (pos 38) ∷ joining 0 2 (pos 12) ∷ joining 0 3 (pos 30) ∷ joining 1 3 (pos 43) ∷ [];
  };
  formulas = caffeine ∷ formula 7 6 3 1 ∷ formula 9 8 0 2 ∷ formula 7 5 3 0 ∷ [];
  peaks = 1 ∷ 2 ∷ [];
}
caffeine_graph = refl

-- a list of one formula of so many C
abbrev carbon_list : ℕ → FormulaListValue
carbon_list carbons =
    record { mz = 120000000 * carbons + 10072764; intensity = 1000000; formulas = formula 0 carbons 0 0 ∷ [] }

-- the lists of so many C and of each number below
abbrev ladder : ℕ → List FormulaListValue
ladder carbons = map (λ less. carbon_list (carbons - less)) (range_with_len 0 carbons)

short_ladder : length (vertices_of (formula 0 9 0 0) (ladder 9)) ≡ 9
short_ladder = refl

long_ladder : length (vertices_of (formula 0 513 0 0) (ladder 513)) ≡ 513
long_ladder = refl

-- in a ladder of n carbons each vertex has an edge from each one before it, n * (n - 1) / 2 in all
ladder_edges : length (loss_graph_of choice default_scores (formula 0 9 0 0) (ladder 9)).graph.edges ≡ 36
ladder_edges = refl
