-- Of the definitions: worked examples, computed.
use Rattle.std.specs.Prelude.{◌≡◌, ◌++◌, codes, refl}
use Rattle.std.specs.Fmt.{digits}
use Rattle.element_table.specs.Formula.{mass_of}
use Rattle.case_maker.specs.Draws.{draw_at}
use Rattle.case_maker.specs.Drawn.{drawn_carbon, formula_of, greatest_drawn_mass}
use Rattle.case_maker.specs.MadeText.{made_text}

-- the first draw of number 0, and the carbon that it gives
draw_at-first : draw_at 0 0 ≡ 167951807
draw_at-first = refl

drawn_carbon-first : drawn_carbon 0 ≡ 50
drawn_carbon-first = refl

-- the heaviest formula weighs about 901 Da
mass_of-greatest : mass_of (formula_of 50 101 4 9) ≡ greatest_drawn_mass
mass_of-greatest = refl

-- two spectra of two peaks each
made_text-zero : made_text 0 2 2 ≡ codes "BEGIN IONS\nTITLE=trial 0 1\nPEPMASS=817.2292892\nCHARGE=1+\n"
    ++ codes "637.1659016 791265\n240.1468432 963646\nEND IONS\n"
    ++ codes "BEGIN IONS\nTITLE=trial 0 2\nPEPMASS=481.1605412\nCHARGE=1+\n"
    ++ codes "379.0475234 692688\n262.0988306 475352\nEND IONS\n"
unfolding digits
made_text-zero = refl
