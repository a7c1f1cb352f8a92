use Rattle.std.proofs.Common.{◌≡◌, ◌+◌, ◌<◌, ◌⊎◌, inl, inr, ℕ, List, ap, arith, length}
use Rattle.std.proofs.lemmas.Bool.{cases_eq}
use Rattle.colour_graph.proofs.Order.{edges-few}
use Rattle.loss_graph.specs.LossGraph.{LossGraphValue}
use Rattle.tree_document.specs.declared.entry.TreeRow.{TreeRow}
use Rattle.tree_entry.specs.Rows.{IsRow}
use Rattle.entry_checker.proofs.AreFirsts.{AreFirsts-none, rows-few}
use Rattle.entry_checker.proofs.rows.first_wrong_row.Goals as goal

-- one more row is right
right_more : (built : LossGraphValue) (rows : List TreeRow) (place : ℕ)
    → ((earlier : ℕ) → earlier < place → IsRow built rows earlier)
    → IsRow built rows place
    → (earlier : ℕ) → earlier < place + 1 → IsRow built rows earlier
right_more built rows place before here earlier within = choose (cases_eq earlier place)
  where
    choose : (earlier ≡ place) ⊎ (earlier ≡ place → ⊥) → IsRow built rows earlier
    choose (inl same) = rw same here
    choose (inr apart) = before earlier (omega (arith, within, apart))

pub loop-place-init : goal.loop-place-init
loop-place-init c = record {
  firsts = AreFirsts-none c.args.built.now.graph c.args.rows.now 512;
  right = λ earlier before. absurd
      (omega arith);
}

pub overflow_cast-result : goal.overflow_cast-result
overflow_cast-result c =
    let few = rows-few c.args.built.now c.args.rows.now c.loop-place.place c.loop-place.invariant.right in
    omega (
      arith,
      few,
      ap (λ built. length built.graph.edges) c.built.view_is,
      edges-few _ c.is_graph.ensures,
    )

pub overflow_add-result : goal.overflow_add-result
overflow_add-result c =
    let few = rows-few c.args.built.now c.args.rows.now c.loop-place.place c.loop-place.invariant.right in
    omega (
      arith,
      few,
      ap (λ built. length built.graph.edges) c.built.view_is,
      edges-few _ c.is_graph.ensures,
    )

pub note_row-requires-clause-few : goal.note_row-requires-clause-few
note_row-requires-clause-few c =
    let right : IsRow c.args.built.now c.args.rows.now c.loop-place.place = c.is_row.ensures.0 c.if-not-is_row.false in
    let few = rows-few c.args.built.now c.args.rows.now (c.loop-place.place + 1)
    (right_more c.args.built.now c.args.rows.now c.loop-place.place c.loop-place.invariant.right right) in
    omega (arith, few, ap (λ built. length built.graph.edges) c.built.view_is)

pub note_row-requires-clause-firsts : goal.note_row-requires-clause-firsts
note_row-requires-clause-firsts c =
    rw (ap (λ built. built.graph) c.built.view_is) c.loop-place.invariant.firsts

pub loop-place-preserved : goal.loop-place-preserved
loop-place-preserved c = record {
  firsts = rw (← ap (λ built. built.graph) c.built.view_is) c.note_row.ensures.firsts;
  right = right_more c.args.built.now c.args.rows.now c.loop-place.place c.loop-place.invariant.right
      (c.is_row.ensures.0 c.if-not-is_row.false);
}
