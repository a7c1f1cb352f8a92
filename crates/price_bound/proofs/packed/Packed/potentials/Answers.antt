use Rattle.std.proofs.Common.{◌≡◌, ◌-◌, ◌<◌, ℤ, pos, ap, arith, length, refl, subst, sym, ◌∙◌, to_z, of_z, w64}
use Rattle.std.proofs.lemmas.Int.{ints, to_z-of_z}
use Rattle.std.proofs.lemmas.List.{length-set}
use Rattle.price_bound.specs.inside.Packed.{IsHeld}
use Rattle.price_bound.proofs.Keeping.{clear-replicate}
use Rattle.price_bound.proofs.Numbers.{set-each}
use Rattle.price_bound.proofs.packed.Packed.potentials.Goals as goal

IsHeld-zero : IsHeld (pos 0)
IsHeld-zero = record { not_below = omega (arith, ints); not_above = omega (arith, ints) }

pub loop-place-init : goal.loop-place-init
loop-place-init c = record {
  within = omega (arith, c.len-place.ensures);
  long = refl;
  held = λ place. subst (λ (n : ℤ). IsHeld n) (sym (clear-replicate 512 place)) IsHeld-zero;
}

pub loop-place-preserved-then-gain-gt0 : goal.loop-place-preserved-then-gain-gt0
loop-place-preserved-then-gain-gt0 c =
    let tail = c.from-tail.result in
    let number : ℤ = c.clamp.result in
    let number_is : to_z w64 (of_z w64 number) ≡ number = to_z-of_z w64 number (record { sfits = c.clamp.type_inv }) in
    let within : c.loop-place.place - 1 < length c.args.self.now.groups.items =
    omega (arith, c.loop-place.invariant.within, c.loop-place-test.true) in
    let row = c.requires.packed.groups (c.loop-place.place - 1) c.index-group.result.now within in
    let group_is = ap (λ g. g.tail) c.index-group.ensures in
    let in_range : tail < length c.loop-place.potentials =
    omega (arith, c.from-tail.ensures, c.loop-place.invariant.long, row.tail, group_is) in
    let is : IsHeld number = record {
      not_below = omega (arith, ints, c.clamp.ensures.lower_bound);
      not_above = omega (arith, ints, c.clamp.ensures.upper_bound);
    } in
    rw number_is (record {
      within = omega (arith, c.loop-place.invariant.within);
      long = length-set c.loop-place.potentials tail number ∙ c.loop-place.invariant.long;
      held = set-each IsHeld c.loop-place.potentials tail number in_range c.loop-place.invariant.held is;
    })
