use Rattle.std.proofs.Common.{◌≡◌, ◌∙◌, ℕ, List, ap, replicate, slice_index, slice_set, subst, sym}
use Rattle.residue_table.specs.inside.Entries.{IsRow, nothing}
use Rattle.residue_table.proofs.Filling.{IsRow-first}
use Rattle.residue_table.proofs.table.Table.build.Goals as goal

pub filled-requires-clause-row : goal.filled-requires-clause-row
filled-requires-clause-row c =
    let masses = c.args.masses.now in
    let row : c.in_ok-row.row.items ≡ replicate (slice_index masses 0) nothing =
    c.in_ok-row.ensures.items_if_clones_equal (λ y same. same) in
    subst (λ (l : List ℕ). IsRow masses 1 l)
    (sym (c.deref_mut.ensures.value ∙ ap (λ (l : List ℕ). slice_set l 0 0) row))
    (IsRow-first masses c.requires)
