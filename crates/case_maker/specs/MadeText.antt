-- The text that is made of a number, a number of spectra and a number of peaks: a text in the Mascot generic format
-- with a block for each spectrum. Source: this project.
use Rattle.std.specs.Prelude.{◌+◌, ◌*◌, ◌++◌, ℕ, List, [], ◌∷◌, map, codes, decimal}
use Rattle.std.specs.List.{flat_map, range_with_len}
use Rattle.element_table.specs.Formula.{mass_of}
use Rattle.fixed_mass.specs.FixedText.{fixed_text, mass_places}
use Rattle.case_maker.specs.Draws.{state_after}
use Rattle.case_maker.specs.Drawn.{drawn_formula, drawn_intensity, drawn_part}

-- the greatest number that a text is made of, the most spectra that it may have, and the most peaks of each
abbrev pub greatest_case_number : ℕ
greatest_case_number = 1000000000000000000

abbrev pub most_spectra : ℕ
most_spectra = 20

abbrev pub most_peaks : ℕ
most_peaks = 12

-- how many draws a formula, a peak and a spectrum of so many peaks take
abbrev pub draws_of_formula : ℕ
draws_of_formula = 4

abbrev pub draws_of_peak : ℕ
draws_of_peak = 5

abbrev pub draws_of_spectrum : ℕ → ℕ
draws_of_spectrum peaks = draws_of_formula + peaks * draws_of_peak

-- what an ion that is protonated has over its formula, in units of 10^-7 Da: a hydrogen without its electron
abbrev pub proton_shift : ℕ
proton_shift = 10072764

-- the m/z of the ion of a formula, as a text
abbrev pub mz_text : List ℕ → List ℕ
mz_text formula = fixed_text mass_places (mass_of formula + proton_shift)

-- the line of a peak of an ion with this formula, drawn from a state
abbrev pub peak_line : List ℕ → ℕ → List ℕ
peak_line whole state = mz_text (drawn_part whole state) ++ codes " " ++ decimal (drawn_intensity state)

-- the lines of so many peaks, drawn one after another from the state behind the formula
abbrev pub peak_lines : List ℕ → ℕ → ℕ → List (List ℕ)
peak_lines whole peaks state =
    map (λ place. peak_line whole (state_after (place * draws_of_peak) state)) (range_with_len 0 peaks)

-- the lines of a block before its peaks, of the spectrum with this number from 1
abbrev pub head_lines : ℕ → ℕ → List ℕ → List (List ℕ)
head_lines number spectrum formula =
    codes "BEGIN IONS"
    ∷ (codes "TITLE=trial " ++ decimal number ++ codes " " ++ decimal spectrum)
    ∷ (codes "PEPMASS=" ++ mz_text formula)
    ∷ codes "CHARGE=1+"
    ∷ []

-- the lines of a block, drawn from a state
abbrev pub block_lines : ℕ → ℕ → ℕ → ℕ → List (List ℕ)
block_lines number spectrum peaks state =
    head_lines number spectrum (drawn_formula state)
    ++ peak_lines (drawn_formula state) peaks (state_after draws_of_formula state) ++ codes "END IONS" ∷ []

-- the lines of all blocks: the first is drawn from the number itself, each further one from the state behind the one
-- before
abbrev pub made_lines : ℕ → ℕ → ℕ → List (List ℕ)
made_lines number spectra peaks =
    flat_map (λ place.
    block_lines number (place + 1) peaks (state_after (place * draws_of_spectrum peaks) number))
    (range_with_len 0 spectra)

-- lines as a text, each with its line feed
abbrev pub text_of : List (List ℕ) → List ℕ
text_of lines = flat_map (λ line. line ++ codes "\n") lines

-- The text that is made.
abbrev pub made_text : ℕ → ℕ → ℕ → List ℕ
made_text number spectra peaks = text_of (made_lines number spectra peaks)

-- no text has more bytes
abbrev pub most_bytes : ℕ
most_bytes = 6500
