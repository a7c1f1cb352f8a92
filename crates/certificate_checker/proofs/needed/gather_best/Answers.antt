use Rattle.std.proofs.Common.{◌≡◌, ◌∙◌, ◌-◌, ◌<◌, ◌-ℤ◌, ◌+ℤ◌, ℤ, ap, arith, length, of_z, pos, slice_index_or}
use Rattle.std.proofs.Common.{slice_set, sym, to_z, w32, w64}
use Rattle.std.proofs.lemmas.Int.{to_z-of_z}
use Rattle.std.proofs.lemmas.List.{length-set}
use Rattle.std.specs.Int.{int_max}
use Rattle.colour_graph.specs.Graph.{edge_at}
use Rattle.tree_certificate.specs.PriceHolds.{gain_by, potential_of, price_of}
use Rattle.tree_certificate.specs.Number.{number_in}
use Rattle.certificate_checker.specs.inside.Enough.{IsNumber}
use Rattle.certificate_checker.specs.inside.Gained.{AreGainedBefore}
use Rattle.certificate_checker.proofs.Gaining.{gained-last, gained-near, gained-tails, gained-with, gained-without}
use Rattle.certificate_checker.proofs.Fits.{SFits-number, SFits-score}
use Rattle.certificate_checker.proofs.TableNumbers.{near-below}
use Rattle.certificate_checker.proofs.needed.gather_best.Goals as goal
use Rattle.certificate_checker.proofs.needed.gather_best.Goals.{then-has, else-has}

as_number : (n : ℤ) → IsNumber n → IsNumber (to_z w64 (of_z w64 n))
as_number n near = rw (to_z-of_z w64 n (SFits-number n near)) near

sum_is : (a b c x y z : ℤ) → a ≡ x → b ≡ y → c ≡ z → (a -ℤ b) +ℤ c ≡ (x -ℤ y) +ℤ z
sum_is a b c x y z one other last = ap (λ n. (n -ℤ b) +ℤ c) one ∙ ap (λ n. (x -ℤ n) +ℤ c) other
    ∙ ap (λ n. (x -ℤ y) +ℤ n) last

pub gain-gain-requires-clause-price : goal.gain-gain-requires-clause-price
gain-gain-requires-clause-price c =
    let within : c.from.result - 1 < length c.prices.result.now =
    omega (
      arith,
      c.from.ensures,
      ap (λ prices. length prices) c.prices.ensures.prices,
      c.requires.fits.price_count,
      c.requires.counted,
      c.requires.not_root,
    ) in
    as_number _ (near-below c.prices.result.now c.prices.ensures.numbers (c.from.result - 1) within)

pub gain-gain-requires-clause-potential : goal.gain-gain-requires-clause-potential
gain-gain-requires-clause-potential c =
    let within : c.from-then-has.result < length c.potentials-potentials.result.now =
    omega (
      arith,
      c.from-then-has.ensures,
      ap (λ numbers. length numbers) c.potentials-potentials.ensures.potentials,
      c.requires.fits.potential_count,
      c.edge_at-here.ensures.is_edge.head,
    ) in
    as_number _ (near-below c.potentials-potentials.result.now c.potentials-potentials.ensures.numbers
    c.from-then-has.result within)

pub loop-edge-preserved : goal.loop-edge-preserved
loop-edge-preserved c =
    let graph = c.args.graph.now in
    let cert = c.args.cert.now in
    let place = c.loop-edge.edge in
    elim c.if-has.branch [
      | then-has w ↦
          let prices = c.prices.result.now in
          let potentials = c.potentials-potentials.result.now in
          let edge = w.edge_at-here.result in
          let in_prices : c.from.result - 1 < length prices =
          omega (
            arith,
            c.from.ensures,
            ap (λ numbers. length numbers) c.prices.ensures.prices,
            c.requires.fits.price_count,
            c.requires.counted,
            c.requires.not_root,
          ) in
          let in_potentials : w.from-then-has.result < length potentials =
          omega (
            arith,
            w.from-then-has.ensures,
            ap (λ numbers. length numbers) c.potentials-potentials.ensures.potentials,
            c.requires.fits.potential_count,
            w.edge_at-here.ensures.is_edge.head,
          ) in
          let weight_is : to_z w32 (of_z w32 edge.weight) ≡ (edge_at graph place).weight =
          to_z-of_z w32 edge.weight (SFits-score edge.weight w.edge_at-here.ensures.is_edge.weight)
          ∙ ap (λ e. e.weight) w.edge_at-here.ensures.edge in
          let price_is : to_z w64 (of_z w64 (slice_index_or prices (c.from.result - 1) (pos 0)))
          ≡ price_of cert c.args.colour =
          to_z-of_z w64 (slice_index_or prices (c.from.result - 1) (pos 0))
          (SFits-number (slice_index_or prices (c.from.result - 1) (pos 0))
          (near-below prices c.prices.ensures.numbers (c.from.result - 1) in_prices))
          ∙ ap (λ numbers. slice_index_or numbers (c.from.result - 1) (pos 0)) c.prices.ensures.prices
          ∙ ap (λ n. slice_index_or cert.prices (n - 1) (pos 0)) c.from.ensures in
          let potential_is : to_z w64 (of_z w64 (slice_index_or potentials w.from-then-has.result (pos 0)))
          ≡ potential_of cert (edge_at graph place).head =
          to_z-of_z w64 (slice_index_or potentials w.from-then-has.result (pos 0))
          (SFits-number (slice_index_or potentials w.from-then-has.result (pos 0))
          (near-below potentials c.potentials-potentials.ensures.numbers w.from-then-has.result in_potentials))
          ∙ ap (λ numbers. slice_index_or numbers w.from-then-has.result (pos 0))
          c.potentials-potentials.ensures.potentials
          ∙ ap (λ n. slice_index_or cert.potentials n (pos 0)) (w.from-then-has.ensures
          ∙ ap (λ e. e.head) w.edge_at-here.ensures.edge) in
          let gain_is : w.gain-gain.result ≡ gain_by graph cert c.args.colour place = w.gain-gain.ensures.gain
          ∙ sum_is _ _ _ _ _ _ weight_is price_is potential_is in
          let tail_is : w.from-then-has-2.result ≡ (edge_at graph place).tail = w.from-then-has-2.ensures
          ∙ ap (λ e. e.tail) w.edge_at-here.ensures.edge in
          let room : w.from-then-has-2.result < length c.loop-edge.gains =
          omega (
            arith,
            w.from-then-has-2.ensures,
            w.edge_at-here.ensures.is_edge.tail,
            c.requires.room,
            c.loop-edge.invariant.long,
          ) in
          let raised : w.raise.new.gains
          ≡ slice_set c.loop-edge.gains w.from-then-has-2.result
          (int_max (number_in c.loop-edge.gains w.from-then-has-2.result) w.gain-gain.result) =
          w.raise.ensures ∙ ap (λ n. slice_set c.loop-edge.gains w.from-then-has-2.result
          (int_max (number_in c.loop-edge.gains w.from-then-has-2.result) n))
          (to_z-of_z w64 w.gain-gain.result (record { sfits = w.gain-gain.type_inv })) in
          rw w.gains-is (record {
            long = ap (λ gains. length gains) raised ∙ length-set c.loop-edge.gains w.from-then-has-2.result _
                ∙ c.loop-edge.invariant.long;
            so_far = gained-with graph c.args.allowed.now cert c.args.colour c.edges_into-first.result.0
                c.edges_into-first.result.1 place
                w.from-then-has-2.result c.loop-edge.gains w.raise.new.gains w.gain-gain.result
                c.edges_into-first.ensures c.loop-edge.auto.edge
                c.loop-edge-test.true (sym c.has.ensures
                ∙ w.if-has.true) tail_is room gain_is raised c.loop-edge.invariant.so_far;
            near = gained-near c.loop-edge.gains w.raise.new.gains w.from-then-has-2.result w.gain-gain.result room
                w.gain-gain.ensures.near
                raised c.loop-edge.invariant.near;
          })
      | else-has w ↦ rw w.gains-is (record {
        long = c.loop-edge.invariant.long;
        so_far = gained-without graph c.args.allowed.now cert c.args.colour place c.loop-edge.gains (sym c.has.ensures
            ∙ w.if-has.false)
            c.loop-edge.invariant.so_far;
        near = c.loop-edge.invariant.near;
      })
    ]

pub returns-clause-gains : goal.returns-clause-gains
returns-clause-gains c =
    let graph = c.args.graph.now in
    let past = c.edges_into-first.result.1 in
    let ended : c.loop-edge.edge ≡ past =
    omega (arith, c.loop-edge.auto.edge-end c.edges_into-first.ensures.in_order) in
    let so_far : AreGainedBefore graph c.args.allowed.now c.args.cert.now c.args.colour past c.loop-edge.gains =
    rw ended at c.loop-edge.invariant.so_far in
    gained-last graph c.args.allowed.now c.args.cert.now c.args.colour c.edges_into-first.result.0 past
    c.loop-edge.gains c.edges_into-first.ensures so_far

pub returns-clause-tails : goal.returns-clause-tails
returns-clause-tails c =
    gained-tails c.args.graph.now c.args.allowed.now c.args.cert.now c.args.colour c.loop-edge.edge c.loop-edge.gains
    c.loop-edge.invariant.near
    c.loop-edge.invariant.so_far
