use Rattle.std.proofs.Common.{◌≡◌, ◌∙◌, ap}
use Rattle.std.proofs.lemmas.List.{get_or_default}
use Rattle.std.proofs.lemmas.List.Elements.{All-contains}
use Rattle.element_table.specs.Formula.{IsFormula}
use Rattle.loss_graph.specs.Lists.{list_at, root_of}
use Rattle.loss_graph.proofs.Weights.{union-capped}
use Rattle.right_document.proofs.candidate_list.ion_error.Goals as goal

pub plus-ion-requires : goal.plus-ion-requires
plus-ion-requires c place =
    let lists = c.args.lists.now in
    let extra_is : c.adduct.inside.extra ≡ c.args.choice.now.adduct.extra =
    ap (λ adduct. adduct.extra) c.adduct.view_is in
    let list_is : c.precursor.inside.formulas ≡ (list_at lists 0).formulas =
    let read = c.index-lists-0.result in
    ap (λ list. list.formulas)
    (c.precursor.view_is ∙ c.index-lists-0.is ∙ get_or_default lists 0 read _ c.requires.some) in
    let listed = rw list_is at c.are_formulas.ensures in
    let ion = root_of c.args.choice.now c.args.candidate.now in
    let root = All-contains IsFormula (list_at lists 0).formulas ion listed c.requires.holds_root in
    union-capped c.args.candidate.now c.adduct.inside.extra c.is_formula.ensures c.is_formula-2.ensures
    (rw extra_is root) place
