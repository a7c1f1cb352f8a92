-- `Reads`: how a text is read to its end.
use Rattle.std.proofs.Common.{◌≡◌, ◌≢◌, ◌++◌, ℕ, List, [], Option, Some, None, Result, Err, sym, ◌∙◌, subst, refl}
use Rattle.mgf_reader.specs.declared.fault.FeedFault.{FeedFault}
use Rattle.mgf_reader.specs.declared.fault.FeedFault.TheVariants.{OutOfMemory}
use Rattle.mgf_reader.specs.declared.fault.MgfFault.{MgfFault}
use Rattle.mgf_reader.specs.Spectrum.{SpectrumValue}
use Rattle.mgf_reader.specs.Grammar.{Reads}
use Rattle.mgf_reader.specs.Stands.{ReaderValue, Stands, Answers, answer_of}

-- two texts with the same answer have the same fault
same_fault : (one other : Option MgfFault) → answer_of one ≡ answer_of other → one ≡ other
same_fault None None same = refl
same_fault None (Some fault) same = cc
same_fault (Some fault) None same = cc
same_fault (Some fault) (Some other) same = cc

-- an answer of a reading is no want of memory
never_memory : (fault : Option MgfFault) → Err OutOfMemory ≡ answer_of fault → ⊥
never_memory None same = cc
never_memory (Some fault) same = cc

-- A new reader that is fed a text whole and ended has read it.
pub read_to_end : (before middle after : ReaderValue) (text : List ℕ) (fed ended : Result (Unit {0}) FeedFault) (fault
    : Option MgfFault)
    → Stands before [] []
    → (fed ≢ Err OutOfMemory → (t : List ℕ) (out : List SpectrumValue) → Stands before t out → Stands middle (t ++
    text) out)
    → (fed ≡ Err OutOfMemory → ended ≡ Err OutOfMemory)
    → (ended ≢ Err OutOfMemory → (t : List ℕ) (out : List SpectrumValue) → Stands middle t out → Answers (Reads t)
    (out ++ after.waiting) ended)
    → ended ≡ answer_of fault
    → Reads text after.waiting fault
read_to_end before middle after text fed ended fault new feeds breaks ends is =
    let no_memory : ended ≢ Err OutOfMemory = λ memory. never_memory fault (sym memory ∙ is) in
    let answers = ends no_memory text [] (feeds (λ memory. no_memory (breaks memory)) [] [] new) in
    subst (λ f. Reads text after.waiting f) (same_fault answers.fault fault (sym answers.answer ∙ is)) answers.reads
