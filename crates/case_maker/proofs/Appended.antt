-- For `text_of`: the parts of a text that are appended one after another.
use Rattle.std.proofs.Common.{◌≡◌, ◌+◌, ◌++◌, ◌∙◌, ℕ, List, [], ◌∷◌, ap, sym, arith, map}
use Rattle.std.specs.Prelude.{codes}
use Rattle.std.specs.List.{flat_map, range_with_len}
use Rattle.std.proofs.lemmas.List.{append-nil, append_assoc}
use Rattle.std.proofs.lemmas.List.Concat.{flat_map-append}
use Rattle.std.proofs.lemmas.List.Folds.{flat_map-map}
use Rattle.std.proofs.lemmas.List.FromFn.{map-range_with_len_more}
use Rattle.case_maker.specs.MadeText.{text_of}

head_parts : (old begin title number space spectrum feed mass mz charge text1 text2 text3 text4 text5 : List ℕ)
    → text1 ≡ old ++ (begin ++ title ++ number) → text2 ≡ text1 ++ (space ++ spectrum)
    → text3 ≡ text2 ++ (feed ++ mass) → text4 ≡ text3 ++ mz → text5 ≡ text4 ++ (feed ++ charge)
    → text5 ≡ old ++ (begin ++ ((title ++ number ++ space ++ spectrum) ++ feed ++ ((mass ++ mz) ++ feed ++ charge)))
head_parts old begin title number space spectrum feed mass mz charge text1 text2 text3 text4 text5 first second third
    fourth fifth =
    simp (fifth, fourth, third, second, first, append_assoc)

pub head_appended : (old number spectrum mz text1 text2 text3 text4 text5 : List ℕ)
    → text1 ≡ old ++ (codes "BEGIN IONS\nTITLE=trial " ++ number) → text2 ≡ text1 ++ (codes " " ++ spectrum)
    → text3 ≡ text2 ++ codes "\nPEPMASS=" → text4 ≡ text3 ++ mz → text5 ≡ text4 ++ codes "\nCHARGE=1+\n"
    → text5 ≡ old ++ text_of (codes "BEGIN IONS" ∷ (codes "TITLE=trial " ++ number ++ codes " " ++ spectrum)
    ∷ (codes "PEPMASS=" ++ mz) ∷ codes "CHARGE=1+" ∷ [])
head_appended old number spectrum mz text1 text2 text3 text4 text5 first second third fourth fifth =
    head_parts old (codes "BEGIN IONS\n") (codes "TITLE=trial ") number (codes " ") spectrum (codes "\n")
    (codes "PEPMASS=") mz (codes "CHARGE=1+\n") text1 text2 text3 text4 text5 first second third fourth fifth

pub peak_appended : (old mz intensity text1 text2 text3 : List ℕ) → text1 ≡ old ++ mz
    → text2 ≡ text1 ++ (codes " " ++ intensity) → text3 ≡ text2 ++ codes "\n"
    → text3 ≡ old ++ ((mz ++ codes " " ++ intensity) ++ codes "\n")
peak_appended old mz intensity text1 text2 text3 first second third = simp (third, second, first, append_assoc)

three_appended : (old one two three text1 text2 text3 : List ℕ) → text1 ≡ old ++ one → text2 ≡ text1 ++ two
    → text3 ≡ text2 ++ three → text3 ≡ old ++ (one ++ two ++ three)
three_appended old one two three text1 text2 text3 first second third = simp (third, second, first, append_assoc)

pub block_appended : (old : List ℕ) (head peaks : List (List ℕ)) (text1 text2 text3 : List ℕ)
    → text1 ≡ old ++ text_of head → text2 ≡ text1 ++ text_of peaks → text3 ≡ text2 ++ codes "END IONS\n"
    → text3 ≡ old ++ text_of (head ++ peaks ++ codes "END IONS" ∷ [])
block_appended old head peaks text1 text2 text3 first second third =
    let with_feed = λ (line : List ℕ). line ++ codes "\n" in
    let whole : text_of (head ++ peaks ++ codes "END IONS" ∷ [])
    ≡ text_of head ++ text_of peaks ++ codes "END IONS\n" =
    flat_map-append with_feed (head ++ peaks) (codes "END IONS" ∷ [])
    ∙ ap (λ lines. lines ++ codes "END IONS\n") (flat_map-append with_feed head peaks) in
    three_appended old (text_of head) (text_of peaks) (codes "END IONS\n") text1 text2 text3 first second third
    ∙ ap (λ lines. old ++ lines) (sym whole)

-- one line more
pub line_appended : (f : ℕ → List ℕ) (count : ℕ) (old text new : List ℕ)
    → text ≡ old ++ text_of (map f (range_with_len 0 count)) → new ≡ text ++ (f count ++ codes "\n")
    → new ≡ old ++ text_of (map f (range_with_len 0 (count + 1)))
line_appended f count old text new before now =
    let lines = map f (range_with_len 0 count) in
    let more : text_of (map f (range_with_len 0 (count + 1))) ≡ text_of lines ++ (f count ++ codes "\n") =
    ap text_of (map-range_with_len_more f 0 count count (omega arith))
    ∙ flat_map-append (λ (line : List ℕ). line ++ codes "\n") lines (f count ∷ [])
    ∙ ap (λ rest. text_of lines ++ rest) (append-nil (f count ++ codes "\n")) in
    simp (now, before, append_assoc, more)

-- one block more
range_appended : {A : Type 0} (f : ℕ → List A) (count : ℕ)
    → flat_map f (range_with_len 0 (count + 1)) ≡ flat_map f (range_with_len 0 count) ++ f count
range_appended {A} f count =
    sym (flat_map-map (λ (lines : List A). lines) f (range_with_len 0 (count + 1)))
    ∙ ap (λ lists. flat_map (λ (lines : List A). lines) lists) (map-range_with_len_more f 0 count count (omega arith))
    ∙ flat_map-append (λ (lines : List A). lines) (map f (range_with_len 0 count)) (f count ∷ [])
    ∙ ap (λ lines. flat_map (λ (lines : List A). lines) (map f (range_with_len 0 count)) ++ lines)
    (append-nil (f count))
    ∙ ap (λ lines. lines ++ f count) (flat_map-map (λ (lines : List A). lines) f (range_with_len 0 count))

pub lines_appended : (f : ℕ → List (List ℕ)) (count : ℕ) (text new : List ℕ)
    → text ≡ text_of (flat_map f (range_with_len 0 count)) → new ≡ text ++ text_of (f count)
    → new ≡ text_of (flat_map f (range_with_len 0 (count + 1)))
lines_appended f count text new before now =
    let lines = flat_map f (range_with_len 0 count) in
    now ∙ ap (λ t. t ++ text_of (f count)) before
    ∙ sym (flat_map-append (λ (line : List ℕ). line ++ codes "\n") lines (f count))
    ∙ ap text_of (sym (range_appended f count))
