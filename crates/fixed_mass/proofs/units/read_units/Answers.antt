use Rattle.std.proofs.Common.{◌∙◌, refl, arith}
use Rattle.fixed_mass.proofs.ReadableUnits.{capped_parts, same_units, great_units, readable_units-some}
use Rattle.fixed_mass.proofs.ReadableUnits.{readable_units-none}
use Rattle.fixed_mass.proofs.units.read_units.Goals as goal

pub returns-in-Some-rounded_units-clause-units : goal.returns-in-Some-rounded_units-clause-units
returns-in-Some-rounded_units-clause-units c =
    let n = c.in-Some.ensures in
    let units =
    c.in-Some-rounded_units.ensures.some ∙ capped_parts c.args.scale c.args.text.now _ _ _ _ n.whole n.fraction
    n.raised n.lowered in
    let same =
    same_units c.args.scale c.args.text.now c.in-Some-rounded_units.units c.requires
    c.if-text-gt-GREATEST_NUMERAL_LENGTH.false n.numeral units c.in-Some-rounded_units.ensures.within in
    readable_units-some c.args.scale c.args.text.now c.in-Some-rounded_units.units n.numeral
    c.if-text-gt-GREATEST_NUMERAL_LENGTH.false same c.in-Some-rounded_units.ensures.within

pub returns-in-Some-rounded_units-clause-out_of_range : goal.returns-in-Some-rounded_units-clause-out_of_range
returns-in-Some-rounded_units-clause-out_of_range c =
    let n = c.in-Some.ensures in
    let units =
    c.in-Some-rounded_units.ensures.some ∙ capped_parts c.args.scale c.args.text.now _ _ _ _ n.whole n.fraction
    n.raised n.lowered in
    let same =
    same_units c.args.scale c.args.text.now c.in-Some-rounded_units.units c.requires
    c.if-text-gt-GREATEST_NUMERAL_LENGTH.false n.numeral units c.in-Some-rounded_units.ensures.within in
    let within = c.in-Some-rounded_units.ensures.within in
    (λ e. absurd (cc), λ h. let great = h.2 in absurd (omega arith))

pub returns-in-None-clause-units : goal.returns-in-None-clause-units
returns-in-None-clause-units c =
    let n = c.in-Some.ensures in
    let great =
    great_units c.args.scale c.args.text.now _ c.requires c.if-text-gt-GREATEST_NUMERAL_LENGTH.false n.numeral
    (capped_parts c.args.scale c.args.text.now _ _ _ _ n.whole n.fraction n.raised n.lowered)
    (c.in-None.ensures.none refl) in
    readable_units-none c.args.scale c.args.text.now great

pub returns-in-None-clause-out_of_range : goal.returns-in-None-clause-out_of_range
returns-in-None-clause-out_of_range c =
    let n = c.in-Some.ensures in
    let great =
    great_units c.args.scale c.args.text.now _ c.requires c.if-text-gt-GREATEST_NUMERAL_LENGTH.false n.numeral
    (capped_parts c.args.scale c.args.text.now _ _ _ _ n.whole n.fraction n.raised n.lowered)
    (c.in-None.ensures.none refl) in
    (λ e. (n.numeral, c.if-text-gt-GREATEST_NUMERAL_LENGTH.false, great), λ h. refl)
