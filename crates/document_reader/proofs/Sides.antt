-- The line of a split and the lines of its two sides are taken one after another.
use Rattle.std.proofs.Common.{◌≡◌, ◌+◌, ℕ, List, [], ◌∷◌, Some, None, cond, refl, sym, ap, subst}
use Rattle.std.proofs.lemmas.Bool.{eq-eqb}
use Rattle.line_reader.specs.declared.stop.Stop as code
use Rattle.tree_certificate.specs.declared.bound.Bound.{Bound}
use Rattle.tree_certificate.specs.declared.bound.Bound.TheVariants.{Split}
use Rattle.tree_certificate.specs.BoundView.{bound_value}
use Rattle.tree_document.specs.Document.{bound_lines}
use Rattle.tree_document.specs.Line.{split_line}
use Rattle.line_fields.specs.Need.{follow, need_bound}
use Rattle.line_reader.specs.Taking.{StopsAs}
use Rattle.line_reader.specs.Verdict.{Took, next_needs}
use Rattle.tree_certificate.proofs.BoundValues.{value_of_split}
use Rattle.document_reader.proofs.Sequence.{last_stops, last_took, then_took}

split_follows : (above under : ℕ) → above ≡ under → (colour : ℕ) (edges : List ℕ)
    → follow (need_bound under) (split_line above colour edges)
    ≡ Some (need_bound (under + 1) ∷ need_bound (under + 1) ∷ [])
split_follows above under same colour edges = ap (λ b. cond b
    (Some (need_bound (under + 1) ∷ need_bound (under + 1) ∷ [])) None) (eq-eqb above under same)

-- the line of a split is taken
abbrev pub TookSplit : (under colour : ℕ) (edges bytes rest : List ℕ) → Type 0
TookSplit under colour edges bytes rest =
    Took (need_bound under ∷ []) (next_needs (follow (need_bound under) (split_line under colour edges)))
    (split_line under colour edges ∷ []) bytes rest

-- behind the first side the second one is needed
first_took : (under colour : ℕ) (edges bytes rest later : List ℕ) (first : Bound)
    → TookSplit under colour edges bytes rest
    → Took (need_bound (under + 1) ∷ []) [] (bound_lines (under + 1) (bound_value first)) rest later
    → Took (need_bound under ∷ []) (need_bound (under + 1) ∷ [])
    (split_line under colour edges ∷ bound_lines (under + 1) (bound_value first)) bytes later
first_took under colour edges bytes rest later first head side =
    then_took (need_bound under ∷ []) (need_bound (under + 1) ∷ []) (need_bound (under + 1) ∷ []) []
    (split_line under colour edges ∷ []) (bound_lines (under + 1) (bound_value first)) bytes rest later
    (subst (λ more. Took (need_bound under ∷ []) (next_needs more) (split_line under colour edges ∷ []) bytes rest)
    (split_follows under under refl colour edges) head) side

pub second_stops : (under colour : ℕ) (edges bytes rest later : List ℕ) (first : Bound) (stop : code.Stop)
    → TookSplit under colour edges bytes rest
    → Took (need_bound (under + 1) ∷ []) [] (bound_lines (under + 1) (bound_value first)) rest later
    → StopsAs (need_bound (under + 1) ∷ []) later stop → StopsAs (need_bound under ∷ []) bytes stop
second_stops under colour edges bytes rest later first stop head side next =
    last_stops (need_bound under ∷ []) (need_bound (under + 1) ∷ [])
    (split_line under colour edges ∷ bound_lines (under + 1) (bound_value first)) bytes later stop
    (first_took under colour edges bytes rest later first head side) next

pub both_took : (under colour : ℕ) (edges bytes rest later end : List ℕ) (first second : Bound)
    → TookSplit under colour edges bytes rest
    → Took (need_bound (under + 1) ∷ []) [] (bound_lines (under + 1) (bound_value first)) rest later
    → Took (need_bound (under + 1) ∷ []) [] (bound_lines (under + 1) (bound_value second)) later end
    → Took (need_bound under ∷ []) [] (bound_lines under (bound_value (Split colour edges first second))) bytes end
both_took under colour edges bytes rest later end first second head side other =
    subst (λ value. Took (need_bound under ∷ []) [] (bound_lines under value) bytes end)
    (sym (value_of_split colour edges first second))
    (last_took (need_bound under ∷ []) (need_bound (under + 1) ∷ [])
    (split_line under colour edges ∷ bound_lines (under + 1) (bound_value first))
    (bound_lines (under + 1) (bound_value second)) bytes later end
    (first_took under colour edges bytes rest later first head side) other)
