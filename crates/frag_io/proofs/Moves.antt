-- For `Moves`: a read takes the next bytes of a file.
use Rattle.std.proofs.Common.{◌≡◌, ◌≤◌, ◌<◌, ◌↔◌, ◌+◌, ◌++◌, ℕ, List, [], ◌∷◌, Option, Some, None, Vec, String, length}
use Rattle.std.proofs.Common.{refl, sym, ap, ◌∙◌, take, drop, min, arith, take-append-drop}
use Rattle.std.specs.List.{slice_get}
use Rattle.std.specs.declared.alloc.Global.{Global}
use Rattle.std.proofs.Math.Seq.{drop-nil}
use Rattle.std.proofs.lemmas.List.{drop-drop, take_at, length-take-le}
use Rattle.frag_io.specs.declared.stage.Source.{Source}
use Rattle.frag_io.specs.Files.{Files}
use Rattle.frag_io.specs.inside.Stage.{rest_in, rest_of}

-- the same file with more bytes read
abbrev pub read_on : Source → ℕ → Source
read_on source n = record { place = source.place; done = source.done + n }

rest_in-more : (file : Option (String Global × Vec ℕ Global)) (done n : ℕ)
    → drop n (rest_in file done) ≡ rest_in file (done + n)
rest_in-more None done n = drop-nil n
rest_in-more (Some file) done n = drop-drop n done file.1.items

-- what stood at the front of the buffer after a read, and what is left after it, is what was left before it
pub read-moves : (files : Files) (source : Source) (n : ℕ) (copied behind : List ℕ) → n ≤ length (rest_of files source)
    → copied ≡ take n (rest_of files source)
    → rest_of files source ≡ take n (copied ++ behind) ++ rest_of files (read_on source n)
read-moves files source n copied behind fits is =
    let long : length copied ≡ n = ap length is ∙ length-take-le n (rest_of files source) fits in
    let front : take n (copied ++ behind) ≡ take n (rest_of files source) = take_at copied behind n long ∙ is in
    let more : drop n (rest_of files source) ≡ rest_of files (read_on source n) =
    rest_in-more (slice_get files source.place) source.done n in
    sym (take-append-drop n (rest_of files source))
    ∙ ap (λ (l : List ℕ). l ++ drop n (rest_of files source)) (sym front)
    ∙ ap (λ (l : List ℕ). take n (copied ++ behind) ++ l) more

-- a read takes nothing exactly where nothing is left
pub read_ends : (left : List ℕ) (n room piece : ℕ) → n ≡ min (min (length left) room) piece → 0 < room → 0 < piece
    → (n ≡ 0) ↔ (left ≡ [])
read_ends [] n room piece is some fits = (λ _. refl, λ _. omega arith)
read_ends (byte ∷ left) n room piece is some fits = (λ none. absurd (omega arith), λ empty. cc)
