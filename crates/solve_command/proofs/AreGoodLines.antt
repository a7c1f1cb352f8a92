-- `AreGoodLines`: lines of several parts, and the bytes of a title.
use Rattle.std.proofs.Common.{◌≡◌, ◌<◌, ◌++◌, ◌∷◌, [], ℕ, suc, true}
use Rattle.std.proofs.Common.{List, get_or, map, refl, arith}
use Rattle.std.proofs.lemmas.Bool.{and_from, lt-ltb}
use Rattle.std.specs.List.{All, flat_map}
use Rattle.tree_document.specs.Document.{AreGoodLines, IsGoodLine}
use Rattle.tree_document.specs.Line.{Line}
use Rattle.tree_document.specs.Title.{are_bytes}

pub good-append : (lines more : List Line) → AreGoodLines lines → AreGoodLines more → AreGoodLines (lines ++ more)
good-append [] more good others = others
good-append (line ∷ lines) more good others = (good.0, good-append lines more good.1 others)

pub good-map : {X : Type 0} (line_of : X → Line) (items : List X) → All (λ item. IsGoodLine (line_of item)) items
    → AreGoodLines (map line_of items)
good-map line_of [] good = tt
good-map line_of (item ∷ items) good =
    (good 0 item (omega arith), good-map line_of items (λ k d within. good (suc k) d (omega arith)))

pub good-flat_map : {X : Type 0} (lines_of : X → List Line) (items : List X)
    → All (λ item. AreGoodLines (lines_of item)) items
    → AreGoodLines (flat_map lines_of items)
good-flat_map lines_of [] good = tt
good-flat_map lines_of (item ∷ items) good =
    good-append (lines_of item) (flat_map lines_of items) (good 0 item (omega arith))
    (good-flat_map lines_of items (λ k d within. good (suc k) d (omega arith)))

-- a title that was read as bytes
pub title_is_bytes : (title : List ℕ) → ((place : ℕ) → get_or title place 0 < 256) → are_bytes title ≡ true
title_is_bytes [] fits = refl
title_is_bytes (byte ∷ title) fits =
    and_from _ _ (lt-ltb byte 256 (fits 0)) (title_is_bytes title (λ place. fits (suc place)))
