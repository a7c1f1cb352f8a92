-- For the clauses `answers` and `broken` of `Reader`: what a reader answers, from what it took in.
use Rattle.std.proofs.Common.{◌≡◌, ◌≢◌, ℕ, Bool, List, ◌++◌, Option, Some, None, Result, Ok, Err, refl, sym, ap, subst}
use Rattle.std.specs.Option.{option_map}
use Rattle.std.specs.Result.{result_err}
use Rattle.mgf_reader.specs.declared.fault.MgfFault.{MgfFault}
use Rattle.mgf_reader.specs.declared.fault.FeedFault.{FeedFault}
use Rattle.mgf_reader.specs.declared.fault.FeedFault.TheVariants.{Mgf, OutOfMemory}
use Rattle.mgf_reader.specs.Spectrum.{SpectrumValue}
use Rattle.mgf_reader.specs.Grammar.{Reads, SoFar}
use Rattle.mgf_reader.specs.Stands.{ReaderValue, Stands, Answers, Broken}
use Rattle.mgf_reader.specs.inside.Cutting.{Kept, TakesIn, Ends}
use Rattle.mgf_reader.proofs.TakesIn.{stands-reads}
use Rattle.mgf_reader.proofs.SoFar.{fault-ends}

-- a reader with its counts
abbrev pub reader_of : ℕ → Bool → Option FeedFault → Kept → ReaderValue
reader_of fed ended failed kept = record {
  fed = fed;
  ended = ended;
  waiting = kept.lines.waiting;
  failed = failed;
  unfinished = kept.unfinished;
  judged = kept.lines.judged;
  defaults = kept.lines.defaults;
  block = kept.lines.block;
}

-- what a reader stands for is no matter of them
pub restated : (fed fed' : ℕ) (ended ended' : Bool) (failed : Option FeedFault) (kept : Kept) (text : List ℕ)
    (out : List SpectrumValue) → Stands (reader_of fed ended failed kept) text out
    → Stands (reader_of fed' ended' failed kept) text out
restated fed fed' ended ended' failed kept text out stands = record {
  pieces = stands.pieces;
  rest = stands.rest;
  fault = stands.fault;
  whole = stands.whole;
  right = stands.right;
  spectra = stands.spectra;
  is_fault = stands.is_fault;
  failed = stands.failed;
  left = λ none. let is = stands.left none in
      record { unfinished = is.unfinished; judged = is.judged; defaults = is.defaults; open_block = is.open_block };
}

-- a piece that was taken in
pub fed-stands : (fed fed' : ℕ) (ended ended' : Bool) (failed : Option FeedFault) (old new : Kept) (piece text : List ℕ)
    (out : List SpectrumValue) (result : Result (Unit {0}) FeedFault) → result ≢ Err OutOfMemory
    → TakesIn old piece result new → failed ≡ result_err result → Stands (reader_of fed ended None old) text out
    → Stands (reader_of fed' ended' failed new) (text ++ piece) out
fed-stands fed fed' ended ended' failed old new piece text out (Ok done) memory takes is stands =
    subst (λ f. Stands (reader_of fed' ended' f new) (text ++ piece) out) (sym is)
    (restated _ fed' _ ended' None new (text ++ piece) out
    (takes text out (restated fed _ ended _ None old text out stands)))
fed-stands fed fed' ended ended' failed old new piece text out (Err (Mgf fault)) memory takes is stands =
    subst (λ f. Stands (reader_of fed' ended' f new) (text ++ piece) out) (sym is)
    (restated _ fed' _ ended' (Some (Mgf fault)) new (text ++ piece) out
    (takes text out (restated fed _ ended _ None old text out stands)))
fed-stands fed fed' ended ended' failed old new piece text out (Err OutOfMemory) memory takes is stands =
    absurd (memory refl)

-- what a reader that stands for a text answers for it
answers-by : (reader : ReaderValue) (text : List ℕ) (out : List SpectrumValue) (result : Result (Unit {0}) FeedFault)
    (found : Option MgfFault) → SoFar text (out ++ reader.waiting) found → reader.failed ≡ option_map Mgf found
    → reader.failed ≡ result_err result → result ≢ Err OutOfMemory → Answers (SoFar text) (out ++ reader.waiting) result
answers-by reader text out (Ok tt) None reads failed is memory = record { fault = None; reads = reads; answer = refl }
answers-by reader text out (Ok done) (Some fault) reads failed is memory = absurd cc
answers-by reader text out (Err (Mgf named)) None reads failed is memory = absurd cc
answers-by reader text out (Err (Mgf named)) (Some fault) reads failed is memory =
    record {
      fault = Some fault;
      reads = reads;
      answer = let same : named ≡ fault = cc in
          ap (λ f. let r : Result (Unit {0}) FeedFault = Err (Mgf f) in r) same;
    }
answers-by reader text out (Err OutOfMemory) found reads failed is memory = absurd (memory refl)

pub stands-answers : (reader : ReaderValue) (text : List ℕ) (out : List SpectrumValue)
    (result : Result (Unit {0}) FeedFault) → Stands reader text out → reader.failed ≡ result_err result
    → result ≢ Err OutOfMemory → Answers (SoFar text) (out ++ reader.waiting) result
stands-answers reader text out result stands is memory = let for_text = stands-reads reader text out stands in
    answers-by reader text out result for_text.fault for_text.reads for_text.failed is memory

pub fed-answers : (fed : ℕ) (ended : Bool) (old new : Kept) (piece text : List ℕ) (out : List SpectrumValue)
    (result : Result (Unit {0}) FeedFault) → result ≢ Err OutOfMemory → TakesIn old piece result new
    → Stands (reader_of fed ended None old) text out → Answers (SoFar (text ++ piece)) (out ++ new.lines.waiting) result
fed-answers fed ended old new piece text out result memory takes stands =
    stands-answers (reader_of fed ended (result_err result) new) (text ++ piece) out result
    (fed-stands fed fed ended ended (result_err result) old new piece text out result memory takes refl stands) refl
    memory

pub fed-broken : (fed : ℕ) (ended : Bool) (old new : Kept) (piece text : List ℕ) (out : List SpectrumValue)
    (result : Result (Unit {0}) FeedFault) → result ≡ Err OutOfMemory → TakesIn old piece result new
    → Stands (reader_of fed ended None old) text out → Broken (SoFar (text ++ piece)) (out ++ new.lines.waiting)
fed-broken fed ended old new piece text out result is takes stands =
    broken text out (restated fed _ ended _ None old text out stands) where
      broken : TakesIn old piece (Err OutOfMemory) new
      broken = subst (λ r. TakesIn old piece r new) is takes

-- a text that was ended
pub ended-answers : (fed : ℕ) (ended : Bool) (old new : Kept) (text : List ℕ) (out : List SpectrumValue)
    (result : Result (Unit {0}) FeedFault) → result ≢ Err OutOfMemory → Ends old result new
    → Stands (reader_of fed ended None old) text out → Answers (Reads text) (out ++ new.lines.waiting) result
ended-answers fed ended old new text out (Ok done) memory ends stands =
    ends text out (restated fed _ ended _ None old text out stands)
ended-answers fed ended old new text out (Err (Mgf fault)) memory ends stands =
    ends text out (restated fed _ ended _ None old text out stands)
ended-answers fed ended old new text out (Err OutOfMemory) memory ends stands = absurd (memory refl)

pub ended-broken : (fed : ℕ) (ended : Bool) (old new : Kept) (text : List ℕ) (out : List SpectrumValue)
    (result : Result (Unit {0}) FeedFault) → result ≡ Err OutOfMemory → Ends old result new
    → Stands (reader_of fed ended None old) text out → Broken (Reads text) (out ++ new.lines.waiting)
ended-broken fed ended old new text out result is ends stands =
    broken text out (restated fed _ ended _ None old text out stands) where
      broken : Ends old (Err OutOfMemory) new
      broken = subst (λ r. Ends old r new) is ends

-- a reader that failed before
failed-by : (reader : ReaderValue) (text : List ℕ) (out : List SpectrumValue) (fault : FeedFault)
    (found : Option MgfFault) → SoFar text (out ++ reader.waiting) found → reader.failed ≡ option_map Mgf found
    → reader.failed ≡ Some fault → Answers (Reads text) (out ++ reader.waiting) (Err fault)
failed-by reader text out fault None reads failed is = absurd cc
failed-by reader text out fault (Some named) reads failed is =
    record {
      fault = Some named;
      reads = fault-ends text (out ++ reader.waiting) named reads;
      answer = let same : fault ≡ Mgf named = cc in ap (λ f. let r : Result (Unit {0}) FeedFault = Err f in r) same;
    }

pub failed-ends : (reader : ReaderValue) (text : List ℕ) (out : List SpectrumValue) (fault : FeedFault)
    → reader.failed ≡ Some fault → Stands reader text out → Answers (Reads text) (out ++ reader.waiting) (Err fault)
failed-ends reader text out fault is stands = let for_text = stands-reads reader text out stands in
    failed-by reader text out fault for_text.fault for_text.reads for_text.failed is

pub none-left : (failed : Option FeedFault) → ((fault : FeedFault) → failed ≡ Some fault → ⊥) → failed ≡ None
none-left None none = refl
none-left (Some fault) none = absurd (none fault refl)

-- the reader before a call, by its parts
pub stood : (reader : ReaderValue) (fed : ℕ) (ended : Bool) (failed : Option FeedFault) (kept : Kept) (text : List ℕ)
    (out : List SpectrumValue) → reader_of fed ended failed kept ≡ reader
    → ((fault : FeedFault) → failed ≡ Some fault → ⊥) → Stands reader text out
    → Stands (reader_of fed ended None kept) text out
stood reader fed ended failed kept text out is none stands =
    subst (λ f. Stands (reader_of fed ended f kept) text out) (none-left failed none)
    (subst (λ r. Stands r text out) (sym is) stands)
