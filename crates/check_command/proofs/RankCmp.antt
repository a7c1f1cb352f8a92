-- `rank_cmp`: entries of which each is below the next all rise.
use Rattle.std.proofs.Common.{◌≡◌, ◌+◌, ◌<◌, ◌≤◌, ℕ, List, arith, length, take}
use Rattle.std.specs.List.{AllAdjacentBelow, AllPairs}
use Rattle.std.specs.declared.cmp.Ordering.TheVariants.{Less}
use Rattle.std.proofs.lemmas.List.{get_or-take, length-take-le}
use Rattle.std.proofs.lemmas.Map.Keys.{Less-from_sorted, sorted_from_all_adjacent}
use Rattle.tree_entry.specs.Rank.{rank_cmp}
use Rattle.tree_entry.proofs.Ranked.{rank_total}
use Rattle.tree_document.specs.declared.entry.Entry.{Entry}

pub all_rise : (entries : List Entry) → AllAdjacentBelow (λ one next. rank_cmp one next ≡ Less) entries (length entries)
    → AllPairs (λ one later. rank_cmp one later ≡ Less) entries
all_rise entries each i j none earlier within =
    Less-from_sorted rank_cmp entries i j none
    (sorted_from_all_adjacent rank_total entries none (λ k below. each k none below)) earlier within

pub front_rises : (entries : List Entry) (n : ℕ) → n ≤ length entries
    → AllAdjacentBelow (λ one next. rank_cmp one next ≡ Less) entries n
    → AllPairs (λ one later. rank_cmp one later ≡ Less) (take n entries)
front_rises entries n within each =
    all_rise (take n entries) (λ k none below.
    let next_in : k + 1 < n = omega (arith, length-take-le n entries within) in
    let one = get_or-take n entries k none (omega arith) in
    let next = get_or-take n entries (k + 1) none next_in in
    rw (one, next) (each k none next_in))
