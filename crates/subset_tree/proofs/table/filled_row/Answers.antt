use Rattle.std.proofs.Common.{◌≡◌, ◌-◌, ◌*◌, ◌^◌, ◌≤◌, ℕ, suc, ℤ, List, length, map, drop, ◌++◌, arith, sym, ap, ◌∙◌}
use Rattle.std.proofs.Common.{pow-suc, length-append, length-drop}
use Rattle.std.proofs.lemmas.List.{length-take-le, with_items_is}
use Rattle.colour_graph.specs.Graph.{colour_count}
use Rattle.subset_tree.proofs.Filled.{filled-more}
use Rattle.tree_certificate.proofs.SetParts.{powers-rise}
use Rattle.subset_tree.proofs.table.filled_row.Goals as goal

pub slice_bounds-here-end : goal.slice_bounds-here-end
slice_bounds-here-end c =
    rw (c.set_count-in-loop-size.ensures.count, c.loop-size.invariant.room)
    (powers-rise c.loop-size.size (colour_count c.args.graph.now)
    (omega (arith, c.colour_count-count.ensures, c.loop-size-test.true)))

pub slice_bounds-here-end-in-loop-size : goal.slice_bounds-here-end-in-loop-size
slice_bounds-here-end-in-loop-size c =
    let within : c.set_count-in-loop-size.result ≤ length c.loop-size.gains =
    rw (c.set_count-in-loop-size.ensures.count, c.loop-size.invariant.room)
    (powers-rise c.loop-size.size (colour_count c.args.graph.now)
    (omega (arith, c.colour_count-count.ensures, c.loop-size-test.true))) in
    sym (length-take-le c.set_count-in-loop-size.result c.loop-size.gains within)

pub gather_gains-any-requires-clause-room : goal.gather_gains-any-requires-clause-room
gather_gains-any-requires-clause-room c =
    let within : c.set_count-in-loop-size.result ≤ length c.loop-size.gains =
    rw (c.set_count-in-loop-size.ensures.count, c.loop-size.invariant.room)
    (powers-rise c.loop-size.size (colour_count c.args.graph.now)
    (omega (arith, c.colour_count-count.ensures, c.loop-size-test.true))) in
    let back : c.loop-size.size ≡ colour_count c.args.graph.now - (c.colour_count-count.result - c.loop-size.size) =
    omega (arith, c.colour_count-count.ensures, c.loop-size-test.true) in
    length-take-le c.set_count-in-loop-size.result c.loop-size.gains within ∙ c.set_count-in-loop-size.ensures.count
    ∙ ap (λ n. 2 ^ n) back

pub widen-requires-clause-room : goal.widen-requires-clause-room
widen-requires-clause-room c =
    let within : c.set_count-in-loop-size.result ≤ length c.loop-size.gains =
    rw (c.set_count-in-loop-size.ensures.count, c.loop-size.invariant.room)
    (powers-rise c.loop-size.size (colour_count c.args.graph.now)
    (omega (arith, c.colour_count-count.ensures, c.loop-size-test.true))) in
    let here : length c.gather_gains-any.new.gains ≡ 2 ^ c.loop-size.size =
    c.gather_gains-any.ensures.room ∙ length-take-le c.set_count-in-loop-size.result c.loop-size.gains within
    ∙ c.set_count-in-loop-size.ensures.count in
    let more : 2 ^ suc c.loop-size.size ≤ 2 ^ (c.colour_count-count.result - c.from.result) =
    powers-rise (suc c.loop-size.size) (c.colour_count-count.result - c.from.result)
    (omega (arith, c.loop-size-test.true)) in
    let row : length c.deref_mut.result.now ≡ 2 ^ (c.colour_count-count.result - c.from.result) =
    ap (λ (ns : List ℤ). length ns) c.deref_mut.ensures.value ∙ c.loop-size.invariant.long in
    rw (here, row) (twice c.loop-size.size (2 ^ (c.colour_count-count.result - c.from.result)) more)
  where
    twice : (size whole : ℕ) → 2 ^ suc size ≤ whole → 2 * 2 ^ size ≤ whole
    twice size whole is = omega (arith, is, pow-suc 2 size)

pub loop-size-preserved : goal.loop-size-preserved
loop-size-preserved c =
    let within : c.set_count-in-loop-size.result ≤ length c.loop-size.gains =
    rw (c.set_count-in-loop-size.ensures.count, c.loop-size.invariant.room)
    (powers-rise c.loop-size.size (colour_count c.args.graph.now)
    (omega (arith, c.colour_count-count.ensures, c.loop-size-test.true))) in
    let taken : length c.gather_gains-any.new.gains ≡ c.set_count-in-loop-size.result =
    c.gather_gains-any.ensures.room ∙ length-take-le c.set_count-in-loop-size.result c.loop-size.gains within in
    let here : length c.gather_gains-any.new.gains ≡ 2 ^ c.loop-size.size = taken
    ∙ c.set_count-in-loop-size.ensures.count in
    let same = with_items_is c.loop-size.row c.widen.new.numbers
    (omega (arith, c.deref_mut.ensures.len, c.widen.ensures.length)) in
    rw same (record {
      long = c.widen.ensures.length ∙ ap (λ (ns : List ℤ). length ns) c.deref_mut.ensures.value
          ∙ c.loop-size.invariant.long;
      room = joined c.gather_gains-any.new.gains c.loop-size.gains c.set_count-in-loop-size.result taken within
          ∙ c.loop-size.invariant.room;
      filled = filled-more c.args.graph.now (map (λ row. row.items) c.args.rows.now) c.args.vertex
          (c.colour_count-count.result - c.loop-size.size) c.loop-size.size
          c.loop-size.row.items c.widen.new.numbers c.gather_gains-any.new.gains
          (omega (arith, c.colour_count-count.ensures, c.loop-size-test.true)) c.requires.few
          c.gather_gains-any.ensures.exact
          (λ place low. (rw c.deref_mut.ensures.value at c.widen.ensures.kept) place (rw here low))
          (λ set low. (rw c.deref_mut.ensures.value at c.widen.ensures.grown) set (rw here low)) c.widen.ensures.modest
          c.loop-size.invariant.filled;
    })
  where
    joined : (new old : List ℤ) (n : ℕ) → length new ≡ n → n ≤ length old → length (new ++ drop n old) ≡ length old
    joined new old n long within = omega (arith, length-append new (drop n old), length-drop n old, long, within)
