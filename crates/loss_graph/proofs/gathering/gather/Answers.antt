use Rattle.std.proofs.Common.{◌≡◌, ◌+◌, ◌-◌, ◌∙◌, [], ap, arith}
use Rattle.std.proofs.lemmas.List.{get_or_default}
use Rattle.loss_graph.specs.Lists.{list_at}
use Rattle.loss_graph.proofs.OneMoreList.{AreGathered-more, adds-few, all_formulas-more}
use Rattle.loss_graph.proofs.gathering.gather.Goals as goal

pub loop-number-preserved : goal.loop-number-preserved
loop-number-preserved c =
    let formulas_are : c.items.result.now ≡ (list_at c.args.lists.now c.loop-number.number).formulas =
    c.items.ensures.items ∙ ap (λ list. list.formulas) c.list.view_is
    ∙ ap (λ list. list.formulas) c.index-lists-number.is
    ∙ ap (λ list. list.formulas)
    (get_or_default c.args.lists.now c.loop-number.number c.index-lists-number.result
    (record { mz = 0; intensity = 0; formulas = [] }) c.loop-number-test.true) in
    let formulas = rw (← c.items.ensures.items, formulas_are) at c.items.ensures.formulas in
    let adds = rw formulas_are at c.in_ok-add.ensures in
    let some = c.loop-number.auto.number in
    let before : 1 + (c.loop-number.number - 1) ≡ c.loop-number.number = omega (arith, some) in
    let next : (c.loop-number.number - 1) + 1 ≡ c.loop-number.number + 1 - 1 = omega (arith, some) in
    let few =
    adds-few _ c.loop-number.number (list_at c.args.lists.now c.loop-number.number).formulas _ _ _ _ _ _ adds in
    record {
      gathered =
          rw (← next) (AreGathered-more c.args.root.now c.args.lists.now (c.loop-number.number - 1)
          c.loop-number.number _ _ _ _ _ _ before c.loop-number.invariant.gathered adds);
      formulas = all_formulas-more c.args.lists.now c.loop-number.number c.loop-number.invariant.formulas formulas;
      few_peaks = omega (arith, few.0, c.loop-number.invariant.few_peaks);
      few_vertices =
          omega (
            arith,
            some,
            few.1,
            c.loop-number.invariant.few_vertices,
            c.requires.short c.loop-number.number
                (record { mz = 0; intensity = 0; formulas = [] }) c.loop-number-test.true,
          );
    }
