-- For `made_text`: how long it is, and how heavy what is drawn.
use Rattle.std.proofs.Common.{◌≡◌, ◌≤◌, ◌<◌, ◌+◌, ◌*◌, ◌/◌, ◌%◌, ◌^◌, ◌++◌, ◌∷◌, ◌∙◌, ℕ, zero, suc, List, [], length}
use Rattle.std.proofs.Common.{ap, arith, map}
use Rattle.std.specs.Prelude.{codes, decimal}
use Rattle.std.specs.List.{flat_map, range_with_len}
use Rattle.std.proofs.lemmas.Fmt.{length-decimal-le}
use Rattle.std.proofs.lemmas.List.{length-append}
use Rattle.std.proofs.lemmas.List.Concat.{flat_map-append}
use Rattle.std.proofs.lemmas.Nat.{mod_below}
use Rattle.element_table.specs.Formula.{mass_of}
use Rattle.fixed_mass.specs.FixedText.{fixed_text, decimals_of}
use Rattle.case_maker.specs.Draws.{draw_at, state_after}
use Rattle.case_maker.specs.Drawn.{drawn_carbon, drawn_formula, drawn_hydrogen, drawn_intensity, drawn_nitrogen}
use Rattle.case_maker.specs.Drawn.{drawn_oxygen, drawn_part, formula_of}
use Rattle.case_maker.specs.MadeText.{block_lines, draws_of_formula, draws_of_peak, draws_of_spectrum, head_lines}
use Rattle.case_maker.specs.MadeText.{made_text, mz_text, peak_line, peak_lines, text_of}

at_most : (number count : ℕ) → number % (count + 1) ≤ count
at_most number count = let below = mod_below number (count + 1) (omega arith) in omega arith

lighter : (c h n o carbon hydrogen nitrogen oxygen : ℕ) → c ≤ carbon → h ≤ hydrogen → n ≤ nitrogen → o ≤ oxygen
    → mass_of (formula_of c h n o) ≤ mass_of (formula_of carbon hydrogen nitrogen oxygen)
lighter c h n o carbon hydrogen nitrogen oxygen few_c few_h few_n few_o = omega arith

few_carbon : (state : ℕ) → drawn_carbon state ≤ 50
few_carbon state = let most = at_most (draw_at 0 state) 42 in omega arith

few_hydrogen : (state : ℕ) → drawn_hydrogen state ≤ 101
few_hydrogen state =
    let carbon = few_carbon state in
    let half = at_most (draw_at 3 state) (drawn_carbon state) in
    let odd = at_most (drawn_nitrogen state) 1 in
    omega arith

pub mass_of-drawn : (state : ℕ) → mass_of (drawn_formula state) ≤ 9017568524
mass_of-drawn state =
    lighter (drawn_carbon state) (drawn_hydrogen state) (drawn_nitrogen state) (drawn_oxygen state) 50 101 4 9
    (few_carbon state) (few_hydrogen state) (at_most (draw_at 1 state) 4)
    (let most = at_most (draw_at 2 state) 8 in omega arith)

pub mass_of-part : (first state : ℕ) → mass_of (drawn_part (drawn_formula first) state) ≤ mass_of (drawn_formula first)
mass_of-part first state =
    lighter _ _ _ _ (drawn_carbon first) (drawn_hydrogen first) (drawn_nitrogen first) (drawn_oxygen first)
    (at_most (draw_at 0 state) (drawn_carbon first)) (at_most (draw_at 1 state) (drawn_hydrogen first))
    (at_most (draw_at 2 state) (drawn_nitrogen first)) (at_most (draw_at 3 state) (drawn_oxygen first))

length-fixed : (units : ℕ) → units ≤ 9999999999 → length (fixed_text 7 units) ≤ 11
length-fixed units small =
    let whole : length (decimal (units / 10 ^ 7)) ≤ 3 =
    length-decimal-le 3 (units / 10 ^ 7) (omega arith) (omega arith) (omega arith) in
    let both : length (fixed_text 7 units) ≡ length (decimal (units / 10 ^ 7)) + 8 =
    length-append (decimal (units / 10 ^ 7)) (46 ∷ decimals_of 7 units) in
    omega (arith, whole, both)

length-mz : (formula : List ℕ) → mass_of formula ≤ 9017568524 → length (mz_text formula) ≤ 11
length-mz formula light = length-fixed (mass_of formula + 10072764) (omega (arith, light))

length-peak_line : (first state : ℕ) → length (peak_line (drawn_formula first) state) ≤ 19
length-peak_line first state =
    let mz = length-mz (drawn_part (drawn_formula first) state)
    (omega (arith, mass_of-part first state, mass_of-drawn first)) in
    let most = at_most (draw_at 4 state) 999999 in
    let intensity : length (decimal (drawn_intensity state)) ≤ 7 =
    length-decimal-le 7 (drawn_intensity state) (omega arith) (omega (arith, most)) (omega (arith, most)) in
    let before : length (mz_text (drawn_part (drawn_formula first) state) ++ codes " ")
    ≡ length (mz_text (drawn_part (drawn_formula first) state)) + 1 =
    length-append (mz_text (drawn_part (drawn_formula first) state)) (codes " ") in
    let whole = length-append (mz_text (drawn_part (drawn_formula first) state) ++ codes " ")
    (decimal (drawn_intensity state)) in
    omega (arith, mz, intensity, before, whole)

with_feed : (line : List ℕ) (rest : List (List ℕ))
    → length (text_of (line ∷ rest)) ≡ length line + 1 + length (text_of rest)
with_feed line rest =
    let one : length (line ++ codes "\n") ≡ length line + 1 = length-append line (codes "\n") in
    let all = length-append (line ++ codes "\n") (text_of rest) in
    omega (arith, one, all)

joined : (lines more : List (List ℕ))
    → length (text_of (lines ++ more)) ≡ length (text_of lines) + length (text_of more)
joined lines more =
    ap length (flat_map-append (λ (line : List ℕ). line ++ codes "\n") lines more)
    ∙ length-append (text_of lines) (text_of more)

many_lines : (f : ℕ → List ℕ) (most : ℕ) → ((place : ℕ) → length (f place) ≤ most) → (from count : ℕ)
    → length (text_of (map f (range_with_len from count))) ≤ count * (most + 1)
many_lines f most each from zero = omega arith
many_lines f most each from (suc count) =
    let first = with_feed (f from) (map f (range_with_len (from + 1) count)) in
    let rest = many_lines f most each (from + 1) count in
    let short = each from in
    let product : suc count * (most + 1) ≡ most + 1 + count * (most + 1) = omega arith in
    omega (arith, first, rest, short, product)

many_blocks : (f : ℕ → List (List ℕ)) (most limit : ℕ)
    → ((place : ℕ) → place < limit → length (text_of (f place)) ≤ most) → (from count : ℕ) → from + count ≤ limit
    → length (text_of (flat_map f (range_with_len from count))) ≤ count * most
many_blocks f most limit each from zero within = omega arith
many_blocks f most limit each from (suc count) within =
    let first = joined (f from) (flat_map f (range_with_len (from + 1) count)) in
    let rest = many_blocks f most limit each (from + 1) count (omega (arith, within)) in
    let short = each from (omega (arith, within)) in
    let product : suc count * most ≡ most + count * most = omega arith in
    omega (arith, first, rest, short, product)

length-head : (number spectrum state : ℕ) → number ≤ 1000000000000000000 → spectrum ≤ 20
    → length (text_of (head_lines number spectrum (drawn_formula state))) ≤ 76
length-head number spectrum state small few =
    let digits : length (decimal number) ≤ 19 =
    length-decimal-le 19 number (omega arith) (omega (arith, small)) (omega (arith, small)) in
    let place : length (decimal spectrum) ≤ 2 =
    length-decimal-le 2 spectrum (omega arith) (omega (arith, few)) (omega (arith, few)) in
    let mz = length-mz (drawn_formula state) (mass_of-drawn state) in
    let words : length (codes "TITLE=trial " ++ decimal number) ≡ 12 + length (decimal number) =
    length-append (codes "TITLE=trial ") (decimal number) in
    let space : length (codes "TITLE=trial " ++ decimal number ++ codes " ")
    ≡ length (codes "TITLE=trial " ++ decimal number) + 1 =
    length-append (codes "TITLE=trial " ++ decimal number) (codes " ") in
    let title = length-append (codes "TITLE=trial " ++ decimal number ++ codes " ") (decimal spectrum) in
    let mass : length (codes "PEPMASS=" ++ mz_text (drawn_formula state))
    ≡ 8 + length (mz_text (drawn_formula state)) =
    length-append (codes "PEPMASS=") (mz_text (drawn_formula state)) in
    let last = with_feed (codes "CHARGE=1+") [] in
    let third = with_feed (codes "PEPMASS=" ++ mz_text (drawn_formula state)) (codes "CHARGE=1+" ∷ []) in
    let second = with_feed (codes "TITLE=trial " ++ decimal number ++ codes " " ++ decimal spectrum)
    ((codes "PEPMASS=" ++ mz_text (drawn_formula state)) ∷ codes "CHARGE=1+" ∷ []) in
    let first = with_feed (codes "BEGIN IONS")
    ((codes "TITLE=trial " ++ decimal number ++ codes " " ++ decimal spectrum)
    ∷ (codes "PEPMASS=" ++ mz_text (drawn_formula state)) ∷ codes "CHARGE=1+" ∷ []) in
    omega (arith, digits, place, mz, words, space, title, mass, last, third, second, first)

length-block : (number spectrum peaks state : ℕ) → number ≤ 1000000000000000000 → spectrum ≤ 20 → peaks ≤ 12
    → length (text_of (block_lines number spectrum peaks state)) ≤ 325
length-block number spectrum peaks state small few most =
    let head = length-head number spectrum state small few in
    let first = state_after draws_of_formula state in
    let formula = drawn_formula state in
    let middle : length (text_of (peak_lines formula peaks first)) ≤ peaks * 20 =
    many_lines (λ place. peak_line formula (state_after (place * draws_of_peak) first)) 19
    (λ place. length-peak_line state (state_after (place * draws_of_peak) first)) 0 peaks in
    let front = joined (head_lines number spectrum formula) (peak_lines formula peaks first) in
    let all : length (text_of (block_lines number spectrum peaks state))
    ≡ length (text_of (head_lines number spectrum formula ++ peak_lines formula peaks first)) + 9 =
    joined (head_lines number spectrum formula ++ peak_lines formula peaks first) (codes "END IONS" ∷ []) in
    omega (arith, head, middle, front, all, most)

pub length-made : (number spectra peaks : ℕ) → number ≤ 1000000000000000000 → spectra ≤ 20 → peaks ≤ 12
    → length (made_text number spectra peaks) ≤ 6500
length-made number spectra peaks small few most =
    let all = many_blocks (λ place.
    block_lines number (place + 1) peaks (state_after (place * draws_of_spectrum peaks) number)) 325 20
    (λ place within. length-block number (place + 1) peaks (state_after (place * draws_of_spectrum peaks) number) small
    (omega (arith, within)) most) 0 spectra (omega (arith, few)) in
    omega (arith, all, few)
