-- Bounds as lists, by which proofs tell them apart: their splits and prices in order, a split before its sides.
use Rattle.std.specs.Prelude.{◌≡◌, ◌⊎◌, ℕ, ℤ, List, [], ◌∷◌, ◌++◌}
use Rattle.std.specs.Coded.{Coded, code_by, coded_list, coded_ℕ, coded_ℤ, coded×, coded⊎}
use Rattle.std.proofs.Common.{ap, inl, inr, refl, sym, ◌∙◌}
use Rattle.std.proofs.lemmas.List.{append-nil, append_assoc}
use Rattle.tree_certificate.specs.BoundValue.{BoundValue, priced, split}

abbrev pub Node : Type 0
Node = (List ℤ × List ℤ) ⊎ (ℕ × List ℕ)

abbrev pub code_of : BoundValue → List Node
code_of (priced cert) = inl (cert.prices, cert.potentials) ∷ []
code_of (split colour part first second) = inr (colour, part) ∷ (code_of first ++ code_of second)

abbrev pub joined : ℕ → List ℕ → List BoundValue → List BoundValue
joined colour part (first ∷ second ∷ others) = split colour part first second ∷ others
joined colour part others = []

-- the bounds that nodes make, one after another
abbrev pub bounds_of : List Node → List BoundValue
bounds_of [] = []
bounds_of (inl numbers ∷ nodes) = priced (record { prices = numbers.0; potentials = numbers.1 }) ∷ bounds_of nodes
bounds_of (inr parts ∷ nodes) = joined parts.0 parts.1 (bounds_of nodes)

abbrev pub first_bound : List BoundValue → BoundValue
first_bound (bound ∷ others) = bound
first_bound [] = priced (record { prices = []; potentials = [] })

pub bounds_of_code : (bound : BoundValue) (nodes : List Node)
    → bounds_of (code_of bound ++ nodes) ≡ bound ∷ bounds_of nodes
bounds_of_code (priced cert) nodes = refl
bounds_of_code (split colour part first second) nodes =
    ap (λ all. joined colour part (bounds_of all)) (append_assoc (code_of first) (code_of second) nodes)
    ∙ ap (joined colour part) (bounds_of_code first (code_of second ++ nodes)
    ∙ ap (λ bounds. first ∷ bounds) (bounds_of_code second nodes))

pub back : (bound : BoundValue) → first_bound (bounds_of (code_of bound)) ≡ bound
back bound = ap (λ nodes. first_bound (bounds_of nodes)) (sym (append-nil (code_of bound)))
    ∙ ap first_bound (bounds_of_code bound [])

abbrev pub bound_code : Coded BoundValue
bound_code =
    code_by (List Node) (coded_list (coded⊎ (coded× (coded_list coded_ℤ) (coded_list coded_ℤ))
    (coded× coded_ℕ (coded_list coded_ℕ))))
    code_of (λ nodes. first_bound (bounds_of nodes)) back
