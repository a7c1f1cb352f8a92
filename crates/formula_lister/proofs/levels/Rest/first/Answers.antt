use Rattle.std.proofs.Common.{◌≡◌, ◌-◌, ◌*◌, inl, inr, ap, arith, refl}
use Rattle.std.proofs.lemmas.Bool.{cases_lt}
use Rattle.formula_lister.proofs.Leveled.{first_count, none_of_less}
use Rattle.formula_lister.proofs.levels.Rest.first.Goals as goal

pub returns-clause-level : goal.returns-clause-level
returns-clause-level c =
    let bounds = c.args.bounds.now in
    let next = c.args.next.now in
    let last = c.args.last.now in
    let weight = c.first_level-level.result * last.mass in
    let rest = bounds.most - c.args.chosen in
    let count = c.rounded_up-count.result in
    let defect = next.levels.defect.number in
    record {
      parts = omega (arith, c.rounded_up-count.ensures.not_less);
      small = elim (cases_lt rest weight) [
        | inl more ↦ omega (arith, more, c.rounded_up-count.ensures.not_more, c.requires.pair.paired.small)
        | inr not ↦
            let none : count ≡ 0 = none_of_less count defect (omega (arith, not, c.rounded_up-count.ensures.not_more)) in
            omega (
              arith,
              not,
              ap (λ n. n * defect) none,
              c.first_level-level.ensures.enough,
              bounds.narrow,
              c.requires.pair.last_known.heavy,
            )
      ];
    }

pub returns-clause-none : goal.returns-clause-none
returns-clause-none c = λ count atoms fits.
    let bounds = c.args.bounds.now in
    let next = c.args.next.now in
    let last = c.args.last.now in
    let weight = c.first_level-level.result * last.mass in
    let rest = bounds.most - c.args.chosen in
    let defect = next.levels.defect.number in
    first_count next.levels.per next.mass last.mass defect c.first_level-level.result weight rest (weight - rest)
    c.rounded_up-count.result count atoms c.requires.pair.paired.whole
    (c.first_level-level.ensures.none count atoms fits.within_limit (omega (arith, fits.not_below)))
    refl (omega arith) (λ more. omega (arith, more)) (λ not. omega (arith, not))
    (omega (arith, c.rounded_up-count.ensures.not_more))
    (omega (arith, fits.not_above))
