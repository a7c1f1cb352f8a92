-- The candidates of a spectrum, and the graph of each.
use Rattle.std.specs.Prelude.{List, ℕ, length, map}
use Rattle.std.specs.List.{filter}
use Rattle.element_table.specs.Formula.{is_within, loss_of}
use Rattle.element_table.specs.FormulaList.{FormulaListValue}
use Rattle.element_table.specs.Listed.{passes}
use Rattle.loss_graph.specs.Lists.{root_of}
use Rattle.loss_graph.specs.LossGraph.{LossGraphValue, loss_graph_of}
use Rattle.loss_graph.specs.Vertices.{vertices_of}
use Rattle.right_document.specs.SolveSettings.{SolveSettingsValue}

-- the formulas of the precursor's list that hold what the adduct adds, without that, where the rules of candidates pass
abbrev pub candidates_of : SolveSettingsValue → List (List ℕ) → List (List ℕ)
candidates_of settings formulas =
    filter (passes settings.candidate_rules)
    (map (λ formula. loss_of formula settings.listing.choice.adduct.extra)
    (filter (λ formula. is_within settings.listing.choice.adduct.extra formula) formulas))

-- the formula that the ions of a candidate are fragmented from
abbrev pub ion_of : SolveSettingsValue → List ℕ → List ℕ
ion_of settings candidate = root_of settings.listing.choice candidate

-- the vertices of a candidate's graph are so many
abbrev pub vertex_count_of : SolveSettingsValue → List FormulaListValue → List ℕ → ℕ
vertex_count_of settings lists candidate = length (vertices_of (ion_of settings candidate) lists)

-- the graph of a candidate over the lists of its spectrum
abbrev pub graph_of : SolveSettingsValue → List FormulaListValue → List ℕ → LossGraphValue
graph_of settings lists candidate =
    loss_graph_of settings.listing.choice settings.scores (ion_of settings candidate) lists
