-- For `Judges`: what some lines leave in a reader, and how one more line is judged behind them.
use Rattle.std.proofs.Common.{◌≡◌, ℕ, ◌+◌, ◌≤◌, Bool, true, false, List, [], ◌∷◌, ◌++◌, length, Option, Some, None}
use Rattle.std.proofs.Common.{refl, sym, ◌∙◌, ap, subst, append_assoc, append-nil, length-append, arith}
use Rattle.std.specs.List.{AllByRecursion, flat_map}
use Rattle.std.proofs.lemmas.List.Concat.{flat_map-append}
use Rattle.mgf_reader.specs.declared.fault.MgfKind.{MgfKind}
use Rattle.mgf_reader.specs.declared.fault.MgfKind.TheVariants.{OpenBlock}
use Rattle.mgf_reader.specs.declared.fault.MgfFault.{MgfFault}
use Rattle.mgf_reader.specs.Spectrum.{SpectrumValue}
use Rattle.mgf_reader.specs.LineForm.{LineForm, begin, end, line_form}
use Rattle.mgf_reader.specs.Grammar.{greatest_peaks_of_a_block, fault_outside, fault_inside, peak_in, peaks_of}
use Rattle.mgf_reader.specs.Grammar.{IsInside, IsBlockBody, Piece, outside, block, piece_lines, IsPiece, spectrum_of}
use Rattle.mgf_reader.specs.Grammar.{spectra_of, Rest, nothing, stray, refused, open_block, ReadsLines}
use Rattle.mgf_reader.specs.Stands.{Defaults, defaults_of, outside_lines, block_of, answer_of}
use Rattle.mgf_reader.specs.inside.Judging.{set_by, block_with, block_after, Judged, fault_behind, left_outside}
use Rattle.mgf_reader.specs.inside.Judging.{left_inside, left_behind, counted, end_of}
use Rattle.mgf_reader.proofs.SpectraOf.{all-append, defaults-push, peaks_of-length, peaks_of-push, inside-right}
use Rattle.mgf_reader.proofs.SpectraOf.{inside-room, outside_lines-append, spectra_of-append}

-- the lines of a block that was begun, or none
abbrev pub IsOpen : List (List ℕ) → Type 0
IsOpen [] = Unit {0}
IsOpen (first ∷ body) = (line_form first ≡ begin) × IsBlockBody body

-- what some lines leave that are all right so far
pub record Follows (now : Judged) (lines : List (List ℕ)) (out : List SpectrumValue) : Type 0 where
  pub pieces : List Piece
  pub rest : List (List ℕ)
  pub whole : lines ≡ flat_map piece_lines pieces ++ rest
  pub right : AllByRecursion IsPiece pieces
  pub spectra : out ++ now.waiting ≡ spectra_of [] 1 pieces
  pub is_open : IsOpen rest
  pub judged : now.judged ≡ length lines
  pub defaults : now.defaults ≡ defaults_of (outside_lines pieces)
  pub open_block : now.block ≡ block_of (outside_lines pieces) (1 + length (flat_map piece_lines pieces)) rest

-- a list of lines that ends with a piece more
whole-push : (pieces : List Piece) (piece : Piece)
    → flat_map piece_lines (pieces ++ piece ∷ []) ≡ flat_map piece_lines pieces ++ piece_lines piece
whole-push pieces piece = flat_map-append piece_lines pieces (piece ∷ [])
    ∙ ap (λ lines. flat_map piece_lines pieces ++ lines) (append-nil (piece_lines piece))

-- a line outside is one piece more
follows-outside : (waiting : List SpectrumValue) (number : ℕ) (set : Defaults) (lines : List (List ℕ))
    (out : List SpectrumValue) (line : List ℕ) (form : LineForm) (pieces : List Piece)
    → line_form line ≡ form → fault_outside form ≡ None → (form ≡ begin → ⊥)
    → lines ≡ flat_map piece_lines pieces ++ [] → AllByRecursion IsPiece pieces
    → out ++ waiting ≡ spectra_of [] 1 pieces
    → number ≡ length lines → set ≡ defaults_of (outside_lines pieces)
    → Follows (record { waiting = waiting; judged = number + 1; defaults = set_by set form; block = None })
    (lines ++ line ∷ []) out
follows-outside waiting number set lines out line form pieces is sound no_begin whole right spectra judged defaults =
    record {
      pieces = pieces ++ outside line ∷ [];
      rest = [];
      whole = ap (λ l. l ++ line ∷ []) (whole ∙ append-nil (flat_map piece_lines pieces))
          ∙ sym (append-nil (flat_map piece_lines (pieces ++ outside line ∷ [])) ∙ whole-push pieces (outside line));
      right = all-append IsPiece pieces (outside line ∷ []) right
          (record { right = ap fault_outside is ∙ sound; no_begin = λ e. no_begin (sym is ∙ e) }, tt);
      spectra = spectra ∙ sym (spectra_of-append [] 1 pieces (outside line ∷ []) ∙ append-nil (spectra_of [] 1 pieces));
      is_open = tt;
      judged = omega (arith, judged, length-append lines (line ∷ []));
      defaults = ap (λ d. set_by d form) defaults
          ∙ sym (ap defaults_of (outside_lines-append pieces (outside line ∷ []))
          ∙ defaults-push (outside_lines pieces) line form is);
      open_block = refl;
    }

-- a begin line opens a block
follows-begin : (waiting : List SpectrumValue) (number : ℕ) (set : Defaults) (lines : List (List ℕ))
    (out : List SpectrumValue) (line : List ℕ) (pieces : List Piece)
    → line_form line ≡ begin
    → lines ≡ flat_map piece_lines pieces ++ [] → AllByRecursion IsPiece pieces
    → out ++ waiting ≡ spectra_of [] 1 pieces
    → number ≡ length lines → set ≡ defaults_of (outside_lines pieces)
    → Follows (record {
      waiting = waiting;
      judged = number + 1;
      defaults = set;
      block = Some (block_with (number + 1) set []);
    }) (lines ++ line ∷ []) out
follows-begin waiting number set lines out line pieces is whole right spectra judged defaults =
    let gathered : lines ≡ flat_map piece_lines pieces = whole ∙ append-nil (flat_map piece_lines pieces) in
    let place : number + 1 ≡ 1 + length (flat_map piece_lines pieces) = omega (arith, judged, ap length gathered) in
    let same : outside_lines pieces ++ [] ≡ outside_lines pieces = append-nil (outside_lines pieces) in
    record {
      pieces = pieces;
      rest = line ∷ [];
      whole = ap (λ l. l ++ line ∷ []) gathered;
      right = right;
      spectra = spectra;
      is_open = (is, record { lines = tt; peaks = omega arith });
      judged = omega (arith, judged, length-append lines (line ∷ []));
      defaults = defaults;
      open_block = ap Some (ap (λ n. block_with n set []) place
          ∙ ap (λ d. block_with (1 + length (flat_map piece_lines pieces)) d []) (defaults
          ∙ ap defaults_of (sym same)));
    }

-- a line in a block is one more of its lines
follows-inside : (waiting : List SpectrumValue) (number : ℕ) (set : Defaults) (now : SpectrumValue)
    (lines : List (List ℕ)) (out : List SpectrumValue) (line : List ℕ) (form : LineForm) (pieces : List Piece)
    (first : List ℕ) (body : List (List ℕ))
    → line_form line ≡ form → fault_inside (length now.peaks) form ≡ None → (form ≡ end → ⊥)
    → line_form first ≡ begin → IsBlockBody body
    → lines ≡ flat_map piece_lines pieces ++ first ∷ body → AllByRecursion IsPiece pieces
    → out ++ waiting ≡ spectra_of [] 1 pieces
    → number ≡ length lines → set ≡ defaults_of (outside_lines pieces)
    → now ≡ spectrum_of (outside_lines pieces) (1 + length (flat_map piece_lines pieces)) body
    → Follows (record {
      waiting = waiting;
      judged = number + 1;
      defaults = set;
      block = Some (block_after now (number + 1) form);
    }) (lines ++ line ∷ []) out
follows-inside waiting number set now lines out line form pieces first body is sound no_end begins is_body whole right
    spectra judged defaults block_is =
    let begun : ℕ = 1 + length (flat_map piece_lines pieces) in
    let before : List (List ℕ) = outside_lines pieces in
    let many : number ≡ length (flat_map piece_lines pieces) + (length body + 1) =
    omega (arith, judged, ap length whole, length-append (flat_map piece_lines pieces) (first ∷ body)) in
    let place : begun + 1 + length body ≡ number + 1 = omega (arith, many) in
    let set_more : defaults_of (before ++ (body ++ line ∷ [])) ≡ set_by (defaults_of (before ++ body)) form =
    ap defaults_of (sym (append_assoc before body (line ∷ []))) ∙ defaults-push (before ++ body) line form is in
    let peaks_more : peaks_of (begun + 1) (body ++ line ∷ []) ≡ peaks_of (begun + 1) body ++ peak_in (number + 1) form =
    peaks_of-push (begun + 1) body line form is ∙ ap (λ n. peaks_of (begun + 1) body ++ peak_in n form) place in
    let count : length now.peaks ≡ length (peaks_of 0 body) = ap (λ (b : SpectrumValue). length b.peaks) block_is
    ∙ peaks_of-length (begun + 1) 0 body in
    let sound_here : fault_inside (length (peaks_of 0 body)) form ≡ None = ap (λ n. fault_inside n form) (sym count)
    ∙ sound in
    record {
      pieces = pieces;
      rest = first ∷ (body ++ line ∷ []);
      whole = ap (λ l. l ++ line ∷ []) whole ∙ append_assoc (flat_map piece_lines pieces) (first ∷ body) (line ∷ []);
      right = right;
      spectra = spectra;
      is_open = (
        begins,
        record {
          lines = all-append IsInside body (line ∷ []) is_body.lines (
            record {
              right = ap (fault_inside 0) is ∙ inside-right (length now.peaks) form sound;
              no_end = λ e. no_end (sym is ∙ e);
            },
            tt,
          );
          peaks = subst (λ (n : ℕ). n ≤ greatest_peaks_of_a_block)
              (sym (ap length (peaks_of-push 0 body line form is)
              ∙ length-append (peaks_of 0 body) (peak_in (0 + length body) form)))
              (inside-room (length (peaks_of 0 body)) (0 + length body) form sound_here is_body.peaks);
        },
      );
      judged = omega (arith, judged, length-append lines (line ∷ []));
      defaults = defaults;
      open_block = ap Some (ap (λ b. block_after b (number + 1) form) block_is
          ∙ ap (λ d. block_with begun d (peaks_of (begun + 1) body ++ peak_in (number + 1) form)) (sym set_more)
          ∙ ap (block_with begun (defaults_of (before ++ (body ++ line ∷ [])))) (sym peaks_more));
    }

-- an end line makes a piece of the block
follows-end : (waiting : List SpectrumValue) (number : ℕ) (set : Defaults) (now : SpectrumValue) (lines : List (List ℕ))
    (out : List SpectrumValue) (line : List ℕ) (pieces : List Piece) (first : List ℕ) (body : List (List ℕ))
    → line_form line ≡ end
    → line_form first ≡ begin → IsBlockBody body
    → lines ≡ flat_map piece_lines pieces ++ first ∷ body → AllByRecursion IsPiece pieces
    → out ++ waiting ≡ spectra_of [] 1 pieces
    → number ≡ length lines → set ≡ defaults_of (outside_lines pieces)
    → now ≡ spectrum_of (outside_lines pieces) (1 + length (flat_map piece_lines pieces)) body
    → Follows (record { waiting = waiting ++ now ∷ []; judged = number + 1; defaults = set; block = None })
    (lines ++ line ∷ []) out
follows-end waiting number set now lines out line pieces first body is begins is_body whole right spectra judged
    defaults block_is =
    let piece : Piece = block first body line in
    record {
      pieces = pieces ++ piece ∷ [];
      rest = [];
      whole = ap (λ l. l ++ line ∷ []) whole ∙ append_assoc (flat_map piece_lines pieces) (first ∷ body) (line ∷ [])
          ∙ sym (append-nil (flat_map piece_lines (pieces ++ piece ∷ [])) ∙ whole-push pieces piece);
      right = all-append IsPiece pieces (piece ∷ []) right ((begins, is_body, is), tt);
      spectra = sym (append_assoc out waiting (now ∷ [])) ∙ ap (λ s. s ++ now ∷ []) spectra
          ∙ ap (λ b. spectra_of [] 1 pieces ++ b ∷ []) block_is ∙ sym (spectra_of-append [] 1 pieces (piece ∷ []));
      is_open = tt;
      judged = omega (arith, judged, length-append lines (line ∷ []));
      defaults = defaults ∙ ap defaults_of
          (sym (outside_lines-append pieces (piece ∷ []) ∙ append-nil (outside_lines pieces)));
      open_block = refl;
    }

-- a line outside that is right, whatever its form
next-outside : (waiting : List SpectrumValue) (number : ℕ) (set : Defaults) (lines : List (List ℕ))
    (out : List SpectrumValue) (line : List ℕ) (form : LineForm) (pieces : List Piece)
    → line_form line ≡ form → fault_outside form ≡ None
    → lines ≡ flat_map piece_lines pieces ++ [] → AllByRecursion IsPiece pieces
    → out ++ waiting ≡ spectra_of [] 1 pieces
    → number ≡ length lines → set ≡ defaults_of (outside_lines pieces)
    → Follows (left_outside (record { waiting = waiting; judged = number + 1; defaults = set; block = None }) form)
    (lines ++ line ∷ []) out
next-outside waiting number set lines out line begin pieces is sound whole right spectra judged defaults =
    follows-begin waiting number set lines out line pieces is whole right spectra judged defaults
next-outside waiting number set lines out line form pieces is sound whole right spectra judged defaults =
    follows-outside waiting number set lines out line form pieces is sound (λ e. cc) whole right spectra judged defaults

-- a line in a block that is right, whatever its form
next-inside : (waiting : List SpectrumValue) (number : ℕ) (set : Defaults) (now : SpectrumValue) (lines : List (List ℕ))
    (out : List SpectrumValue) (line : List ℕ) (form : LineForm) (pieces : List Piece) (first : List ℕ)
    (body : List (List ℕ))
    → line_form line ≡ form → fault_inside (length now.peaks) form ≡ None
    → line_form first ≡ begin → IsBlockBody body
    → lines ≡ flat_map piece_lines pieces ++ first ∷ body → AllByRecursion IsPiece pieces
    → out ++ waiting ≡ spectra_of [] 1 pieces
    → number ≡ length lines → set ≡ defaults_of (outside_lines pieces)
    → now ≡ spectrum_of (outside_lines pieces) (1 + length (flat_map piece_lines pieces)) body
    → Follows (left_inside (record { waiting = waiting; judged = number + 1; defaults = set; block = Some now }) now
    form) (lines ++ line ∷ []) out
next-inside waiting number set now lines out line end pieces first body is sound begins is_body whole right spectra
    judged defaults block_is = follows-end waiting number set now lines out line pieces first body is begins is_body
    whole right spectra judged defaults block_is
next-inside waiting number set now lines out line form pieces first body is sound begins is_body whole right spectra
    judged defaults block_is = follows-inside waiting number set now lines out line form pieces first body is sound
    (λ e. cc) begins is_body whole right spectra judged defaults block_is

next-by : (waiting : List SpectrumValue) (number : ℕ) (set : Defaults) (block : Option SpectrumValue)
    (lines : List (List ℕ)) (out : List SpectrumValue) (line : List ℕ) (form : LineForm) (pieces : List Piece)
    (rest : List (List ℕ))
    → line_form line ≡ form → fault_behind
    (record { waiting = waiting; judged = number; defaults = set; block = block })
    form ≡ None
    → IsOpen rest
    → lines ≡ flat_map piece_lines pieces ++ rest → AllByRecursion IsPiece pieces
    → out ++ waiting ≡ spectra_of [] 1 pieces
    → number ≡ length lines → set ≡ defaults_of (outside_lines pieces)
    → block ≡ block_of (outside_lines pieces) (1 + length (flat_map piece_lines pieces)) rest
    → Follows (left_behind (record { waiting = waiting; judged = number + 1; defaults = set; block = block }) form)
    (lines ++ line ∷ []) out
next-by waiting number set None lines out line form pieces [] is sound opened whole right spectra judged defaults
    block_is = next-outside waiting number set lines out line form pieces is sound whole right spectra judged defaults
next-by waiting number set None lines out line form pieces
    (first ∷ body) is sound opened whole right spectra judged defaults block_is = absurd cc
next-by waiting number set (Some now) lines out line form pieces [] is sound opened whole right spectra judged defaults
    block_is = absurd cc
next-by waiting number set (Some now) lines out line form pieces
    (first ∷ body) is sound opened whole right spectra judged defaults block_is =
    let same : now ≡ spectrum_of (outside_lines pieces) (1 + length (flat_map piece_lines pieces)) body = cc in
    next-inside waiting number set now lines out line form pieces first body is sound opened.0 opened.1 whole right
    spectra judged defaults same

-- a line that is right is followed by what it leaves
pub follows-next : (old : Judged) (lines : List (List ℕ)) (out : List SpectrumValue) (line : List ℕ)
    → fault_behind old (line_form line) ≡ None → Follows old lines out
    → Follows (left_behind (counted old) (line_form line)) (lines ++ line ∷ []) out
follows-next old lines out line sound follows =
    next-by old.waiting old.judged old.defaults old.block lines out line
    (line_form line) follows.pieces follows.rest refl sound follows.is_open follows.whole follows.right follows.spectra
    follows.judged follows.defaults follows.open_block

-- a line that has no place is the fault, whatever follows it
fault-by : (at_end : Bool) (waiting : List SpectrumValue) (number : ℕ) (set : Defaults) (block : Option SpectrumValue)
    (lines : List (List ℕ)) (out : List SpectrumValue) (line : List ℕ) (more : List (List ℕ)) (kind : MgfKind)
    (pieces : List Piece) (rest : List (List ℕ))
    → fault_behind (record { waiting = waiting; judged = number; defaults = set; block = block }) (line_form line)
    ≡ Some kind
    → IsOpen rest
    → lines ≡ flat_map piece_lines pieces ++ rest → AllByRecursion IsPiece pieces
    → out ++ waiting ≡ spectra_of [] 1 pieces
    → number ≡ length lines
    → block ≡ block_of (outside_lines pieces) (1 + length (flat_map piece_lines pieces)) rest
    → ReadsLines at_end (lines ++ line ∷ more) (out ++ waiting) (Some (record { line = number + 1; kind = kind }))
fault-by at_end waiting number set None lines out line more kind pieces [] bad opened whole right spectra judged
    block_is =
    let place : number + 1 ≡ 1 + length (flat_map piece_lines pieces) =
    omega (arith, judged, ap length (whole ∙ append-nil (flat_map piece_lines pieces))) in
    record {
      pieces = pieces;
      rest = line ∷ more;
      whole = ap (λ l. l ++ line ∷ more) (whole ∙ append-nil (flat_map piece_lines pieces));
      right = right;
      are_spectra = spectra;
      is_fault = stray line more kind refl bad
          (ap (λ n. let f : MgfFault = record { line = n; kind = kind } in Some f) place);
    }
fault-by at_end waiting number set None lines out line more kind pieces
    (first ∷ body) bad opened whole right spectra judged block_is = absurd cc
fault-by at_end waiting number set (Some now) lines out line more kind pieces [] bad opened whole right spectra judged
    block_is = absurd cc
fault-by at_end waiting number set (Some now) lines out line more kind pieces
    (first ∷ body) bad opened whole right spectra judged block_is =
    let same : now ≡ spectrum_of (outside_lines pieces) (1 + length (flat_map piece_lines pieces)) body = cc in
    let place : number + 1 ≡ 1 + length (flat_map piece_lines pieces) + 1 + length body =
    omega (arith, judged, ap length whole, length-append (flat_map piece_lines pieces) (first ∷ body)) in
    let count : length now.peaks ≡ length (peaks_of 0 body) = ap (λ (b : SpectrumValue). length b.peaks) same
    ∙ peaks_of-length (1 + length (flat_map piece_lines pieces) + 1) 0 body in
    record {
      pieces = pieces;
      rest = first ∷ (body ++ line ∷ more);
      whole = ap (λ l. l ++ line ∷ more) whole
          ∙ append_assoc (flat_map piece_lines pieces) (first ∷ body) (line ∷ more);
      right = right;
      are_spectra = spectra;
      is_fault = refused first body line more kind refl opened.0 opened.1
          (ap (λ n. fault_inside n (line_form line)) (sym count) ∙ bad)
          (ap (λ n. let f : MgfFault = record { line = n; kind = kind } in Some f) place);
    }

pub follows-fault : (at_end : Bool) (old : Judged) (lines : List (List ℕ)) (out : List SpectrumValue) (line : List ℕ)
    (more : List (List ℕ)) (kind : MgfKind) → fault_behind old (line_form line) ≡ Some kind → Follows old lines out
    → ReadsLines at_end (lines ++ line ∷ more) (out ++ old.waiting)
    (Some (record { line = old.judged + 1; kind = kind }))
follows-fault at_end old lines out line more kind bad follows =
    fault-by at_end old.waiting old.judged old.defaults old.block lines out line more kind follows.pieces follows.rest
    bad follows.is_open follows.whole follows.right follows.spectra follows.judged follows.open_block

-- a rest that may go on
pub open-rest : (number : ℕ) (rest : List (List ℕ)) → Rest false number rest None → IsOpen rest
open-rest number rest (nothing empty fault) = subst IsOpen (sym empty) tt
open-rest number rest (stray line more kind is bad fault) = absurd cc
open-rest number rest (refused first body line more kind is begins is_body bad fault) = absurd cc
open-rest number rest (open_block first body is begins is_body fault) = subst IsOpen (sym is) (begins, is_body)

pub rest-open : (number : ℕ) (rest : List (List ℕ)) → IsOpen rest → Rest false number rest None
rest-open number [] opened = nothing refl refl
rest-open number (first ∷ body) opened = open_block first body refl opened.0 opened.1 refl

-- some lines that are right so far, read as such
pub follows-so_far : (old : Judged) (lines : List (List ℕ)) (out : List SpectrumValue) → Follows old lines out
    → ReadsLines false lines (out ++ old.waiting) None
follows-so_far old lines out follows = record {
  pieces = follows.pieces;
  rest = follows.rest;
  whole = follows.whole;
  right = follows.right;
  are_spectra = follows.spectra;
  is_fault = rest-open (1 + length (flat_map piece_lines follows.pieces)) follows.rest follows.is_open;
}

-- and what any such reading leaves
pub reading-follows : (lines : List (List ℕ)) (spectra : List SpectrumValue)
    (reads : ReadsLines false lines spectra None)
    → Follows (record {
      waiting = spectra;
      judged = length lines;
      defaults = defaults_of (outside_lines reads.pieces);
      block = block_of (outside_lines reads.pieces) (1 + length (flat_map piece_lines reads.pieces)) reads.rest;
    }) lines
    []
reading-follows lines spectra reads = record {
  pieces = reads.pieces;
  rest = reads.rest;
  whole = reads.whole;
  right = reads.right;
  spectra = reads.are_spectra;
  is_open = open-rest (1 + length (flat_map piece_lines reads.pieces)) reads.rest reads.is_fault;
  judged = refl;
  defaults = refl;
  open_block = refl;
}

-- some lines that are right, at the end of the text
pub record IsEnd (lines : List (List ℕ)) (spectra : List SpectrumValue) (block : Option SpectrumValue) : Type 0 where
  pub fault : Option MgfFault
  pub reads : ReadsLines true lines spectra fault
  pub answer : end_of block ≡ answer_of fault

end-by : (block : Option SpectrumValue) (lines : List (List ℕ)) (spectra : List SpectrumValue) (pieces : List Piece)
    (rest : List (List ℕ))
    → IsOpen rest → lines ≡ flat_map piece_lines pieces ++ rest → AllByRecursion IsPiece pieces
    → spectra ≡ spectra_of [] 1 pieces
    → block ≡ block_of (outside_lines pieces) (1 + length (flat_map piece_lines pieces)) rest
    → IsEnd lines spectra block
end-by found lines spectra pieces [] opened whole right are_spectra block_is = record {
  fault = None;
  reads = record {
    pieces = pieces;
    rest = [];
    whole = whole;
    right = right;
    are_spectra = are_spectra;
    is_fault = nothing refl refl;
  };
  answer = ap end_of block_is;
}
end-by found lines spectra pieces (first ∷ body) opened whole right are_spectra block_is = record {
  fault = Some (record { line = 1 + length (flat_map piece_lines pieces); kind = OpenBlock });
  reads = record {
    pieces = pieces;
    rest = first ∷ body;
    whole = whole;
    right = right;
    are_spectra = are_spectra;
    is_fault = open_block first body refl opened.0 opened.1 refl;
  };
  answer = ap end_of block_is;
}

pub follows-end_of : (old : Judged) (lines : List (List ℕ)) (out : List SpectrumValue) → Follows old lines out
    → IsEnd lines (out ++ old.waiting) old.block
follows-end_of old lines out follows = end-by old.block lines
    (out ++ old.waiting) follows.pieces follows.rest follows.is_open follows.whole follows.right follows.spectra
    follows.open_block
