-- How far a slot of a desk in memory has come, and which file it is read from.
use Rattle.std.specs.Prelude.{◌≡◌, refl, ℕ, Bool, true, false, List, [], drop, slice_get}
use Rattle.std.specs.Prelude.{Option, Some, None, Vec, String}
use Rattle.std.specs.declared.alloc.Global.{Global}
use Rattle.frag_io.specs.Files.{Files}
use Rattle.frag_io.specs.declared.stage.Source.{Source}
use Rattle.frag_io.specs.declared.stage.Stage.{Stage}
use Rattle.frag_io.specs.declared.stage.Stage.TheVariants.{Fresh, Reading, Writing, Finished}

abbrev pub is_begun : Stage → Bool
is_begun Fresh = false
is_begun (Reading source) = true
is_begun Writing = true
is_begun Finished = true

abbrev pub is_finished : Stage → Bool
is_finished Fresh = false
is_finished (Reading source) = false
is_finished Writing = false
is_finished Finished = true

-- what a file has behind its first bytes
abbrev pub rest_in : Option (String Global × Vec ℕ Global) → ℕ → List ℕ
rest_in None done = []
rest_in (Some file) done = drop done file.1.items

-- what of a file was not read yet; of a file that is not there, nothing
abbrev pub rest_of : Files → Source → List ℕ
rest_of files source = rest_in (slice_get files source.place) source.done

-- what a slot that is read still has to give
abbrev pub left_at : Files → Stage → List ℕ
left_at files Fresh = []
left_at files (Reading source) = rest_of files source
left_at files Writing = []
left_at files Finished = []

-- what was written to a slot, of the bytes that are kept for it
abbrev pub written_at : Stage → List ℕ → List ℕ
written_at Fresh bytes = []
written_at (Reading source) bytes = bytes
written_at Writing bytes = bytes
written_at Finished bytes = bytes

pub finished_is_begun : (stage : Stage) → is_finished stage ≡ true → is_begun stage ≡ true
finished_is_begun Fresh is = is
finished_is_begun (Reading source) is = refl
finished_is_begun Writing is = refl
finished_is_begun Finished is = refl

pub fresh_is_empty : (stage : Stage) (bytes : List ℕ) → is_begun stage ≡ false → written_at stage bytes ≡ []
fresh_is_empty Fresh bytes is = refl
fresh_is_empty (Reading source) bytes is = absurd cc
fresh_is_empty Writing bytes is = absurd cc
fresh_is_empty Finished bytes is = absurd cc
