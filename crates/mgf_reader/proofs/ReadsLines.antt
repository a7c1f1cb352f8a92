-- For `ReadsLines`: lines are read in one way only, so where a block ends, which pieces there are, and what the rest
-- says.
use Rattle.std.proofs.Common.{◌≡◌, ◌≤◌, ◌+◌, ◌∙◌, ◌++◌, ℕ, Bool, false, List, [], ◌∷◌, length, refl, sym, ap, subst}
use Rattle.std.proofs.Common.{append_assoc, length-append, arith}
use Rattle.std.proofs.lemmas.Bool.Decides.{nat_tests}
use Rattle.std.specs.Prelude.{Option, Some, None, is_none, nat_le, if◌then◌else◌}
use Rattle.std.specs.Option.{option_to_list}
use Rattle.std.specs.List.{AllByRecursion, flat_map}
use Rattle.mgf_reader.specs.declared.fault.MgfKind.{MgfKind}
use Rattle.mgf_reader.specs.declared.fault.MgfKind.TheVariants.{BadPeak, TooManyPeaks, OpenBlock}
use Rattle.mgf_reader.specs.declared.fault.MgfFault.{MgfFault}
use Rattle.mgf_reader.specs.Spectrum.{PeakValue, SpectrumValue}
use Rattle.mgf_reader.specs.LineForm.{LineForm, too_long, blank, comment, begin, end, parameter, peak, remark, no_form}
use Rattle.mgf_reader.specs.LineForm.{line_form}
use Rattle.mgf_reader.specs.PeakLine.{peak_of}
use Rattle.mgf_reader.specs.Grammar.{greatest_peaks_of_a_block, fault_outside, fault_inside, peak_in, peaks_of}
use Rattle.mgf_reader.specs.Grammar.{IsOutside, IsInside, IsBlockBody, Piece, outside, block, piece_lines, IsPiece}
use Rattle.mgf_reader.specs.Grammar.{spectra_of, Rest, nothing, stray, refused, open_block, ReadsLines}
use Rattle.mgf_reader.proofs.SpectraOf.{peaks_of-length}

-- lists and options of the same parts

same_first : {A : Type 0} (x y : A) (xs ys : List A) → x ∷ xs ≡ y ∷ ys → x ≡ y
same_first x y xs ys e = cc

same_later : {A : Type 0} (x y : A) (xs ys : List A) → x ∷ xs ≡ y ∷ ys → xs ≡ ys
same_later x y xs ys e = cc

same_lists : {A : Type 0} (x y : A) (xs ys : List A) → x ≡ y → xs ≡ ys → x ∷ xs ≡ y ∷ ys
same_lists x y xs ys first later = cc

not_empty : {A : Type 0} (x : A) (xs : List A) → [] ≡ x ∷ xs → ⊥
not_empty x xs e = cc

same_kind : (kind other : MgfKind) → Some kind ≡ Some other → kind ≡ other
same_kind kind other e = cc

not_none : (kind : MgfKind) → None ≡ Some kind → ⊥
not_none kind e = cc

-- the peaks of some lines, one line more at their front

abbrev peak_count : List ℕ → ℕ
peak_count line = length (peak_in 0 (line_form line))

length-peaks_of-more : (line : List ℕ) (lines : List (List ℕ))
    → length (peaks_of 0 (line ∷ lines)) ≡ peak_count line + length (peaks_of 0 lines)
length-peaks_of-more line lines =
    length-append (peak_in 0 (line_form line)) (peaks_of 1 lines)
    ∙ ap (λ (k : ℕ). peak_count line + k) (peaks_of-length 1 0 lines)

-- a line that may stand in a block and makes no peak too many has no fault there

abbrev peak_fault : ℕ → Option PeakValue → Option MgfKind
peak_fault peaks read = if is_none read then Some BadPeak else if nat_le greatest_peaks_of_a_block peaks then Some
    TooManyPeaks else None

peak_is_right : (n : ℕ) (read : Option PeakValue) → peak_fault 0 read ≡ None
    → n + length (option_to_list read) ≤ greatest_peaks_of_a_block → peak_fault n read ≡ None
peak_is_right n None right few = cc
peak_is_right n (Some value) right few = let below : nat_le greatest_peaks_of_a_block n ≡ false =
    grind (arith, nat_tests) in rw below refl

form_is_right : (n : ℕ) (form : LineForm) → fault_inside 0 form ≡ None
    → n + length (peak_in 0 form) ≤ greatest_peaks_of_a_block → fault_inside n form ≡ None
form_is_right n too_long right few = right
form_is_right n blank right few = refl
form_is_right n comment right few = refl
form_is_right n begin right few = right
form_is_right n end right few = refl
form_is_right n (parameter name value) right few = right
form_is_right n (peak fields) right few = peak_is_right n (peak_of 0 fields) right few
form_is_right n remark right few = refl
form_is_right n no_form right few = right

-- a line at which a block with so many peaks stops: it closes the block or has a fault there
data IsStop (peaks : ℕ) (line : List ℕ) : Type 0 where
  closes : line_form line ≡ end → IsStop peaks line
  fails : (kind : MgfKind) → fault_inside peaks (line_form line) ≡ Some kind → IsStop peaks line

-- lines that may follow in a block that has so many peaks
record GoesOn (peaks : ℕ) (body : List (List ℕ)) : Type 0 where
  inside : AllByRecursion IsInside body
  few : peaks + length (peaks_of 0 body) ≤ greatest_peaks_of_a_block

few_peaks : (n m c r t most : ℕ) → m ≡ n → t ≡ c + r → n + t ≤ most → m + c ≤ most
few_peaks n m c r t most same parts h = omega arith

inside_is_no_stop : (n : ℕ) (line : List ℕ) → IsInside line → n + peak_count line ≤ greatest_peaks_of_a_block
    → IsStop n line → ⊥
inside_is_no_stop n line inside few (closes ends) = inside.no_end ends
inside_is_no_stop n line inside few (fails kind bad) =
    not_none kind (sym (form_is_right n (line_form line) inside.right few) ∙ bad)

no_peaks_yet : (n : ℕ) → n + length (peaks_of 0 []) ≡ n
no_peaks_yet n = omega arith

-- the first of some lines in a block is none at which it stops
first_is_no_stop : (n : ℕ) (line stop : List ℕ) (body : List (List ℕ)) → stop ≡ line → GoesOn n (line ∷ body)
    → IsStop (n + length (peaks_of 0 [])) stop → ⊥
first_is_no_stop n line stop body same on stops =
    let P : List ℕ → Type 0 = λ l. IsStop (n + length (peaks_of 0 [])) l in
    inside_is_no_stop (n + length (peaks_of 0 [])) line on.inside.0
    (few_peaks n (n + length (peaks_of 0 [])) (peak_count line) (length (peaks_of 0 body))
    (length (peaks_of 0 (line ∷ body))) greatest_peaks_of_a_block (no_peaks_yet n)
    (length-peaks_of-more line body) on.few)
    (subst P same stops)

sum_of_parts : (n c r t : ℕ) → t ≡ c + r → n + t ≡ (n + c) + r
sum_of_parts n c r t parts = omega arith

-- the peaks so far, with those of the first line or of the same line
peaks_behind : (n : ℕ) (line other : List ℕ) (body : List (List ℕ)) → line ≡ other
    → n + length (peaks_of 0 (other ∷ body)) ≡ (n + peak_count line) + length (peaks_of 0 body)
peaks_behind n line other body same =
    sum_of_parts n (peak_count line) (length (peaks_of 0 body)) (length (peaks_of 0 (other ∷ body)))
    (length-peaks_of-more other body ∙ ap (λ (l : List ℕ). peak_count l + length (peaks_of 0 body)) (sym same))

on_behind : (n : ℕ) (line other : List ℕ) (body : List (List ℕ)) → line ≡ other → GoesOn n (other ∷ body)
    → GoesOn (n + peak_count line) body
on_behind n line other body same on =
    let P : ℕ → Type 0 = λ k. k ≤ greatest_peaks_of_a_block in
    record { inside = on.inside.1; few = subst P (peaks_behind n line other body same) on.few }

stop_behind : (n : ℕ) (line other : List ℕ) (body : List (List ℕ)) (stop : List ℕ) → line ≡ other
    → IsStop (n + length (peaks_of 0 (other ∷ body))) stop
    → IsStop ((n + peak_count line) + length (peaks_of 0 body)) stop
stop_behind n line other body stop same stops =
    let P : ℕ → Type 0 = λ k. IsStop k stop in
    subst P (peaks_behind n line other body same) stops

-- a block stops at one place only
stops_once : (n : ℕ) (body other : List (List ℕ)) (stop another : List ℕ) (more further : List (List ℕ))
    → GoesOn n body → IsStop (n + length (peaks_of 0 body)) stop → GoesOn n other
    → IsStop (n + length (peaks_of 0 other)) another
    → body ++ stop ∷ more ≡ other ++ another ∷ further → (body ≡ other) × (stop ∷ more ≡ another ∷ further)
stops_once n [] [] stop another more further on stops goes halts same = (refl, same)
stops_once n [] (line ∷ other) stop another more further on stops goes halts same =
    absurd (first_is_no_stop n line stop other (same_first stop line more (other ++ another ∷ further) same) goes stops)
stops_once n (line ∷ body) [] stop another more further on stops goes halts same =
    absurd (first_is_no_stop n line another body (same_first another line further (body ++ stop ∷ more) (sym same)) on
    halts)
stops_once n (line ∷ body) (twin ∷ other) stop another more further on stops goes halts same =
    let first : line ≡ twin = same_first line twin (body ++ stop ∷ more) (other ++ another ∷ further) same in
    let later : (body ≡ other) × (stop ∷ more ≡ another ∷ further) =
    stops_once (n + peak_count line) body other stop another more further
    (on_behind n line line body refl on) (stop_behind n line line body stop refl stops)
    (on_behind n line twin other first goes) (stop_behind n line twin other another first halts)
    (same_later line twin (body ++ stop ∷ more) (other ++ another ∷ further) same) in
    (same_lists line twin body other first later.0, later.1)

-- a block does not stop in lines that may follow
no_stop_within : (n : ℕ) (body whole : List (List ℕ)) (stop : List ℕ) (more : List (List ℕ))
    → IsStop (n + length (peaks_of 0 body)) stop → GoesOn n whole → whole ≡ body ++ stop ∷ more → ⊥
no_stop_within n [] [] stop more stops on same = not_empty stop more same
no_stop_within n [] (line ∷ whole) stop more stops on same =
    first_is_no_stop n line stop whole (same_first stop line more whole (sym same)) on stops
no_stop_within n (line ∷ body) [] stop more stops on same = not_empty line (body ++ stop ∷ more) same
no_stop_within n (line ∷ body) (twin ∷ whole) stop more stops on same =
    let first : twin ≡ line = same_first twin line whole (body ++ stop ∷ more) same in
    no_stop_within (n + peak_count line) body whole stop more
    (stop_behind n line line body stop refl stops) (on_behind n line twin whole (sym first) on)
    (same_later twin line whole (body ++ stop ∷ more) same)

zero_and : (n : ℕ) → n ≡ 0 + n
zero_and n = omega arith

whole_body : (body : List (List ℕ)) → IsBlockBody body → GoesOn 0 body
whole_body body is =
    let P : ℕ → Type 0 = λ k. k ≤ greatest_peaks_of_a_block in
    record { inside = is.lines; few = subst P (zero_and (length (peaks_of 0 body))) is.peaks }

whole_stop : (body : List (List ℕ)) (stop : List ℕ) → IsStop (length (peaks_of 0 body)) stop
    → IsStop (0 + length (peaks_of 0 body)) stop
whole_stop body stop stops = let P : ℕ → Type 0 = λ k. IsStop k stop in
    subst P (zero_and (length (peaks_of 0 body))) stops

-- the same of a whole block
blocks_stop_once : (body other : List (List ℕ)) (stop another : List ℕ) (more further : List (List ℕ))
    → IsBlockBody body → IsStop (length (peaks_of 0 body)) stop → IsBlockBody other
    → IsStop (length (peaks_of 0 other)) another
    → body ++ stop ∷ more ≡ other ++ another ∷ further → (body ≡ other) × (stop ∷ more ≡ another ∷ further)
blocks_stop_once body other stop another more further is stops it halts same =
    stops_once 0 body other stop another more further (whole_body body is) (whole_stop body stop stops)
    (whole_body other it) (whole_stop other another halts) same

no_stop_in_body : (body whole : List (List ℕ)) (stop : List ℕ) (more : List (List ℕ))
    → IsStop (length (peaks_of 0 body)) stop → IsBlockBody whole → whole ≡ body ++ stop ∷ more → ⊥
no_stop_in_body body whole stop more stops is same =
    no_stop_within 0 body whole stop more (whole_stop body stop stops) (whole_body whole is) same

-- a line that opens a block has no fault outside, and one that closes it has none inside

stray_is_no_begin : (line first : List ℕ) (kind : MgfKind) → fault_outside (line_form line) ≡ Some kind
    → line_form first ≡ begin → line ≡ first → ⊥
stray_is_no_begin line first kind bad begins same =
    not_none kind (sym (ap fault_outside (ap line_form same ∙ begins)) ∙ bad)

end_is_no_fault : (peaks : ℕ) (line last : List ℕ) (kind : MgfKind) → fault_inside peaks (line_form line) ≡ Some kind
    → line_form last ≡ end → line ≡ last → ⊥
end_is_no_fault peaks line last kind bad ends same =
    not_none kind (sym (ap (fault_inside peaks) (ap line_form same ∙ ends)) ∙ bad)

outside_is_no_begin : (line first : List ℕ) → IsOutside line → line_form first ≡ begin → line ≡ first → ⊥
outside_is_no_begin line first is begins same = is.no_begin (ap line_form same ∙ begins)

outside_is_not_stray : (line other : List ℕ) (kind : MgfKind) → IsOutside line
    → fault_outside (line_form other) ≡ Some kind → other ≡ line → ⊥
outside_is_not_stray line other kind is bad same =
    not_none kind (sym is.right ∙ ap (λ (l : List ℕ). fault_outside (line_form l)) (sym same) ∙ bad)

-- the lines of a block and what follows, as its body and its last line before the rest
block_lines : (body : List (List ℕ)) (last : List ℕ) (more : List (List ℕ))
    → (body ++ last ∷ []) ++ more ≡ body ++ last ∷ more
block_lines body last more = append_assoc body (last ∷ []) more

same_block : (first begins : List ℕ) (body other : List (List ℕ)) (last ends : List ℕ) → first ≡ begins → body ≡ other
    → last ≡ ends → block first body last ≡ block begins other ends
same_block first begins body other last ends one two three = cc

-- lines begin with one piece only
first_piece_once : (piece other : Piece) (more further : List (List ℕ)) → IsPiece piece → IsPiece other
    → piece_lines piece ++ more ≡ piece_lines other ++ further → (piece ≡ other) × (more ≡ further)
first_piece_once (outside line) (outside twin) more further is it same =
    (ap outside (same_first line twin more further same), same_later line twin more further same)
first_piece_once (outside line) (block first body last) more further is it same =
    absurd (outside_is_no_begin line first is it.0 (same_first line first more ((body ++ last ∷ []) ++ further) same))
first_piece_once (block first body last) (outside line) more further is it same =
    absurd (outside_is_no_begin line first it is.0
    (same_first line first further ((body ++ last ∷ []) ++ more) (sym same)))
first_piece_once (block first body last) (block begins other ends) more further is it same =
    let later : (body ++ last ∷ []) ++ more ≡ (other ++ ends ∷ []) ++ further =
    same_later first begins ((body ++ last ∷ []) ++ more) ((other ++ ends ∷ []) ++ further) same in
    let both : (body ≡ other) × (last ∷ more ≡ ends ∷ further) =
    blocks_stop_once body other last ends more further is.1 (closes is.2) it.1 (closes it.2)
    (sym (block_lines body last more) ∙ later ∙ block_lines other ends further) in (
      same_block first begins body other last ends
          (same_first first begins ((body ++ last ∷ []) ++ more) ((other ++ ends ∷ []) ++ further) same) both.0
          (same_first last ends more further both.1),
      same_later last ends more further both.1,
    )

-- a rest begins with no piece
rest_is_no_piece : (at_end : Bool) (number : ℕ) (rest : List (List ℕ)) (fault : Option MgfFault) (piece : Piece)
    (more : List (List ℕ)) → Rest at_end number rest fault → IsPiece piece → rest ≡ piece_lines piece ++ more → ⊥
rest_is_no_piece at_end number rest fault (outside line) more (nothing is told) it same =
    not_empty line more (sym is ∙ same)
rest_is_no_piece at_end number rest fault (outside line) more (stray other behind kind is bad told) it same =
    outside_is_not_stray line other kind it bad (same_first other line behind more (sym is ∙ same))
rest_is_no_piece at_end number rest fault (outside line) more
    (refused first body other behind kind is begins inside bad told) it same =
    outside_is_no_begin line first it begins (same_first line first more (body ++ other ∷ behind) (sym same ∙ is))
rest_is_no_piece at_end number rest fault (outside line) more (open_block first body is begins inside told) it same =
    outside_is_no_begin line first it begins (same_first line first more body (sym same ∙ is))
rest_is_no_piece at_end number rest fault (block opens lines last) more (nothing is told) it same =
    not_empty opens ((lines ++ last ∷ []) ++ more) (sym is ∙ same)
rest_is_no_piece at_end number rest fault (block opens lines last) more (stray other behind kind is bad told) it same =
    stray_is_no_begin other opens kind bad it.0
    (same_first other opens behind ((lines ++ last ∷ []) ++ more) (sym is ∙ same))
rest_is_no_piece at_end number rest fault (block opens lines last) more
    (refused first body other behind kind is begins inside bad told) it same =
    let later : body ++ other ∷ behind ≡ (lines ++ last ∷ []) ++ more =
    same_later first opens (body ++ other ∷ behind) ((lines ++ last ∷ []) ++ more) (sym is ∙ same) in
    let both : (body ≡ lines) × (other ∷ behind ≡ last ∷ more) =
    blocks_stop_once body lines other last behind more inside (fails kind bad) it.1 (closes it.2) (later
    ∙ block_lines lines last more) in
    end_is_no_fault (length (peaks_of 0 body)) other last kind bad it.2 (same_first other last behind more both.1)
rest_is_no_piece at_end number rest fault (block opens lines last) more
    (open_block first body is begins inside told) it same =
    let later : body ≡ (lines ++ last ∷ []) ++ more =
    same_later first opens body ((lines ++ last ∷ []) ++ more) (sym is ∙ same) in
    no_stop_in_body lines body last more (closes it.2) inside (later ∙ block_lines lines last more)

-- the lines of some pieces and a rest, as those of the first piece and what follows
first_apart : (piece : Piece) (pieces : List Piece) (rest : List (List ℕ))
    → flat_map piece_lines (piece ∷ pieces) ++ rest ≡ piece_lines piece ++ (flat_map piece_lines pieces ++ rest)
first_apart piece pieces rest = append_assoc (piece_lines piece) (flat_map piece_lines pieces) rest

-- lines are cut into one list of pieces only
pieces_once : (at_end : Bool) (n m : ℕ) (pieces others : List Piece) (rest left : List (List ℕ))
    (fault another : Option MgfFault)
    → AllByRecursion IsPiece pieces → Rest at_end n rest fault → AllByRecursion IsPiece others
    → Rest at_end m left another
    → flat_map piece_lines pieces ++ rest ≡ flat_map piece_lines others ++ left → (pieces ≡ others) × (rest ≡ left)
pieces_once at_end n m [] [] rest left fault another are ends be stays same = (refl, same)
pieces_once at_end n m [] (other ∷ others) rest left fault another are ends be stays same =
    absurd (rest_is_no_piece at_end n rest fault other (flat_map piece_lines others ++ left) ends be.0 (same
    ∙ first_apart other others left))
pieces_once at_end n m (piece ∷ pieces) [] rest left fault another are ends be stays same =
    absurd (rest_is_no_piece at_end m left another piece (flat_map piece_lines pieces ++ rest) stays are.0 (sym same
    ∙ first_apart piece pieces rest))
pieces_once at_end n m (piece ∷ pieces) (other ∷ others) rest left fault another are ends be stays same =
    let first : (piece ≡ other) × (flat_map piece_lines pieces ++ rest ≡ flat_map piece_lines others ++ left) =
    first_piece_once piece other (flat_map piece_lines pieces ++ rest) (flat_map piece_lines others ++ left) are.0 be.0
    (sym (first_apart piece pieces rest) ∙ same ∙ first_apart other others left) in
    let later : (pieces ≡ others) × (rest ≡ left) =
    pieces_once at_end n m pieces others rest left fault another are.1 ends be.1 stays first.1 in
    (same_lists piece other pieces others first.0 later.0, later.1)

-- the same kind at the same line is the same fault

same_fault : (n m : ℕ) (kind other : MgfKind) (fault another : Option MgfFault) → n ≡ m → kind ≡ other
    → fault ≡ Some (record { line = n; kind = kind }) → another ≡ Some (record { line = m; kind = other })
    → fault ≡ another
same_fault n m kind other fault another line what told said = cc

same_open : (at_end : Bool) (n m : ℕ) (fault another : Option MgfFault) → n ≡ m
    → fault ≡ (if at_end then Some (record { line = n; kind = OpenBlock }) else None)
    → another ≡ (if at_end then Some (record { line = m; kind = OpenBlock }) else None) → fault ≡ another
same_open at_end n m fault another line told said = cc

same_line : (n m a b : ℕ) → n ≡ m → a ≡ b → n + 1 + a ≡ m + 1 + b
same_line n m a b one two = cc

same_kind_outside : (line twin : List ℕ) (kind other : MgfKind) → line ≡ twin
    → fault_outside (line_form line) ≡ Some kind
    → fault_outside (line_form twin) ≡ Some other → kind ≡ other
same_kind_outside line twin kind other same bad wrong =
    same_kind kind other (sym bad ∙ ap (λ (l : List ℕ). fault_outside (line_form l)) same ∙ wrong)

same_kind_inside : (body lines : List (List ℕ)) (line twin : List ℕ) (kind other : MgfKind) → body ≡ lines → line ≡ twin
    → fault_inside (length (peaks_of 0 body)) (line_form line) ≡ Some kind
    → fault_inside (length (peaks_of 0 lines)) (line_form twin) ≡ Some other → kind ≡ other
same_kind_inside body lines line twin kind other same_body same bad wrong =
    same_kind kind other (sym bad ∙ ap (λ (b : List (List ℕ)). fault_inside (length (peaks_of 0 b)) (line_form line))
    same_body
    ∙ ap (λ (l : List ℕ). fault_inside (length (peaks_of 0 lines)) (line_form l)) same ∙ wrong)

-- a rest leads to one fault only
faults_once : (at_end : Bool) (n m : ℕ) (rest left : List (List ℕ)) (fault another : Option MgfFault) → n ≡ m
    → rest ≡ left → Rest at_end n rest fault → Rest at_end m left another → fault ≡ another
faults_once at_end n m rest left fault another place same (nothing is told) (nothing it said) = told ∙ sym said
faults_once at_end n m rest left fault another place same (nothing is told) (stray line more kind it bad said) =
    absurd (not_empty line more (sym is ∙ same ∙ it))
faults_once at_end n m rest left fault another place same (nothing is told)
    (refused first body line more kind it begins inside bad said) =
    absurd (not_empty first (body ++ line ∷ more) (sym is ∙ same ∙ it))
faults_once at_end n m rest left fault another place same (nothing is told)
    (open_block first body it begins inside said) =
    absurd (not_empty first body (sym is ∙ same ∙ it))
faults_once at_end n m rest left fault another place same (stray line more kind is bad told) (nothing it said) =
    absurd (not_empty line more (sym it ∙ sym same ∙ is))
faults_once at_end n m rest left fault another place same (stray line more kind is bad told)
    (stray twin further other it wrong said) =
    same_fault n m kind other fault another place
    (same_kind_outside line twin kind other (same_first line twin more further (sym is ∙ same ∙ it)) bad wrong) told
    said
faults_once at_end n m rest left fault another place same (stray line more kind is bad told)
    (refused first body twin further other it begins inside wrong said) =
    absurd (stray_is_no_begin line first kind bad begins
    (same_first line first more (body ++ twin ∷ further) (sym is ∙ same ∙ it)))
faults_once at_end n m rest left fault another place same (stray line more kind is bad told)
    (open_block first body it begins inside said) =
    absurd (stray_is_no_begin line first kind bad begins (same_first line first more body (sym is ∙ same ∙ it)))
faults_once at_end n m rest left fault another place same (refused first body line more kind is begins inside bad told)
    (nothing it said) =
    absurd (not_empty first (body ++ line ∷ more) (sym it ∙ sym same ∙ is))
faults_once at_end n m rest left fault another place same (refused first body line more kind is begins inside bad told)
    (stray twin further other it wrong said) =
    absurd (stray_is_no_begin twin first other wrong begins
    (same_first twin first further (body ++ line ∷ more) (sym it ∙ sym same ∙ is)))
faults_once at_end n m rest left fault another place same (refused first body line more kind is begins inside bad told)
    (refused opens lines twin further other it starts within wrong said) =
    let later : body ++ line ∷ more ≡ lines ++ twin ∷ further =
    same_later first opens (body ++ line ∷ more) (lines ++ twin ∷ further) (sym is ∙ same ∙ it) in
    let both : (body ≡ lines) × (line ∷ more ≡ twin ∷ further) =
    blocks_stop_once body lines line twin more further inside (fails kind bad) within (fails other wrong) later in
    same_fault (n + 1 + length body) (m + 1 + length lines) kind other fault another
    (same_line n m (length body) (length lines) place (ap length both.0))
    (same_kind_inside body lines line twin kind other both.0 (same_first line twin more further both.1) bad wrong) told
    said
faults_once at_end n m rest left fault another place same (refused first body line more kind is begins inside bad told)
    (open_block opens lines it starts within said) =
    absurd (no_stop_in_body body lines line more (fails kind bad) within
    (same_later opens first lines (body ++ line ∷ more) (sym it ∙ sym same ∙ is)))
faults_once at_end n m rest left fault another place same (open_block first body is begins inside told)
    (nothing it said) =
    absurd (not_empty first body (sym it ∙ sym same ∙ is))
faults_once at_end n m rest left fault another place same (open_block first body is begins inside told)
    (stray twin further other it wrong said) =
    absurd (stray_is_no_begin twin first other wrong begins
    (same_first twin first further body (sym it ∙ sym same ∙ is)))
faults_once at_end n m rest left fault another place same (open_block first body is begins inside told)
    (refused opens lines twin further other it starts within wrong said) =
    absurd (no_stop_in_body lines body twin further (fails other wrong) inside
    (same_later first opens body (lines ++ twin ∷ further) (sym is ∙ same ∙ it)))
faults_once at_end n m rest left fault another place same (open_block first body is begins inside told)
    (open_block opens lines it starts within said) =
    same_open at_end n m fault another place told said

pub lines_are_read_one_way : (at_end : Bool) (lines : List (List ℕ)) (spectra other : List SpectrumValue)
    (fault another : Option MgfFault)
    → ReadsLines at_end lines spectra fault → ReadsLines at_end lines other another
    → (spectra ≡ other) × (fault ≡ another)
lines_are_read_one_way at_end lines spectra other fault another one two =
    let n : ℕ = 1 + length (flat_map piece_lines one.pieces) in
    let m : ℕ = 1 + length (flat_map piece_lines two.pieces) in
    let same : (one.pieces ≡ two.pieces) × (one.rest ≡ two.rest) =
    pieces_once at_end n m one.pieces two.pieces one.rest two.rest fault another one.right one.is_fault two.right
    two.is_fault (sym one.whole ∙ two.whole) in (
      one.are_spectra ∙ ap (spectra_of [] 1) same.0 ∙ sym two.are_spectra,
      faults_once at_end n m one.rest two.rest fault another
          (ap (λ (pieces : List Piece). 1 + length (flat_map piece_lines pieces)) same.0) same.1 one.is_fault
          two.is_fault,
    )
