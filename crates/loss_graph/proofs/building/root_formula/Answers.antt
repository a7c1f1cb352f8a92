use Rattle.std.proofs.Common.{◌≡◌, ◌∙◌, [], ap}
use Rattle.std.proofs.lemmas.List.{get_or_default}
use Rattle.std.proofs.lemmas.List.Elements.{All-contains}
use Rattle.element_table.specs.Formula.{IsFormula}
use Rattle.loss_graph.specs.Lists.{list_at, root_of}
use Rattle.loss_graph.proofs.Weights.{union-capped}
use Rattle.loss_graph.proofs.building.root_formula.Goals as goal

pub plus-requires : goal.plus-requires
plus-requires c place =
    let extra_is : c.adduct.inside.extra ≡ c.args.choice.now.adduct.extra =
    ap (λ adduct. adduct.extra) c.adduct.view_is in
    let list_is : c.precursor.inside.formulas ≡ (list_at c.args.lists.now 0).formulas =
    ap (λ list. list.formulas) c.precursor.view_is ∙ ap (λ list. list.formulas) c.index-lists-0.is
    ∙ ap (λ list. list.formulas)
    (get_or_default c.args.lists.now 0 c.index-lists-0.result (record { mz = 0; intensity = 0; formulas = [] })
    c.requires.some) in
    let listed = rw list_is at c.are_formulas.ensures in
    let root =
    All-contains IsFormula (list_at c.args.lists.now 0).formulas (root_of c.args.choice.now c.args.candidate.now)
    listed c.requires.holds_root in
    union-capped c.args.candidate.now c.adduct.inside.extra c.is_formula.ensures c.is_formula-2.ensures
    (rw extra_is root) place
