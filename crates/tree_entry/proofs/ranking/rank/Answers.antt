use Rattle.std.proofs.Common.{◌≡◌, ◌∙◌, ◌++◌, List, length, take, drop, ap, sym, subst, arith, rules}
use Rattle.std.specs.List.Sorted.{IsSortedBy}
use Rattle.std.specs.Ordering.{is_lt}
use Rattle.std.proofs.lemmas.List.Sorted.{answers_always, ranks_by}
use Rattle.std.proofs.Math.Seq.{take-append_seam}
use Rattle.tree_entry.specs.Rank.{AreRanked, rank_cmp}
use Rattle.tree_entry.proofs.Ranked.{rank_total, ranked_from_sorted}
use Rattle.tree_document.specs.declared.entry.Entry.{Entry}
use Rattle.tree_entry.proofs.ranking.rank.Goals as goal

pub returns-clause-ranked : goal.returns-clause-ranked
returns-clause-ranked c =
    let in_order : IsSortedBy (λ one other. is_lt (rank_cmp one other)) c.sort_by.new.self =
    c.in_ok-sort_by.ensures.sorted (λ one other. is_lt (rank_cmp one other)) (ranks_by rank_total (λ entry. entry))
    (answers_always _ _ _ (λ f a r g h. search rules))
    in
    let ranked : AreRanked c.sort_by.new.self = ranked_from_sorted c.sort_by.new.self in_order in
    let whole : length c.sort_by.new.self ≡ c.args.entries.now.len =
    omega (arith, c.in_ok-sort_by.ensures.len, c.as_mut_slice.ensures.len) in
    let same : take c.args.entries.now.len
    (c.sort_by.new.self ++ drop (length c.sort_by.new.self) c.args.entries.now.items) ≡ c.sort_by.new.self =
    ap (λ n. take n (c.sort_by.new.self ++ drop (length c.sort_by.new.self) c.args.entries.now.items)) (sym whole)
    ∙ take-append_seam c.sort_by.new.self (drop (length c.sort_by.new.self) c.args.entries.now.items)
    in
    subst (λ (entries : List Entry). AreRanked entries) (sym same) ranked
