-- What a round does to a row, whose residues are those modulo its length.
use Rattle.std.specs.Prelude.{◌≡◌, ◌≤◌, ◌<◌, ◌+◌, ◌*◌, ◌%◌, ℕ, List, Bool, true, false, length, slice_index}
use Rattle.std.specs.Prelude.{slice_index_or}
use Rattle.residue_table.specs.inside.Entries.{nothing}

-- no entry is greater than that of a class without a sum
abbrev pub AreLow : List ℕ → Type 0
AreLow row = (residue : ℕ) → slice_index row residue ≤ nothing

-- an entry is one of an earlier row with so many masses added, in its residue class
pub record IsReached (mass : ℕ) (row : List ℕ) (residue entry : ℕ) : Type 0 where
  pub from : ℕ
  pub count : ℕ
  pub within : from < length row
  pub is : entry ≡ slice_index row from + count * mass
  pub class : (from + count * mass) % length row ≡ residue

-- entries that came from those of an earlier row by adding masses, none greater than it was
pub record AreReached (mass : ℕ) (before now : List ℕ) : Type 0 where
  pub size : length now ≡ length before
  pub lower : (residue : ℕ) → slice_index now residue ≤ slice_index before residue
  pub reached : (residue : ℕ) → residue < length before → IsReached mass before residue (slice_index now residue)

-- no entry is greater than that of a residue with one mass added
abbrev pub IsClosedAt : ℕ → List ℕ → ℕ → Type 0
IsClosedAt mass row residue = slice_index row ((residue + mass) % length row) ≤ slice_index row residue + mass

-- none that follows a seen residue is
abbrev pub AreClosed : ℕ → List ℕ → List Bool → Type 0
AreClosed mass row seen =
    (residue : ℕ) → residue < length row → slice_index_or seen residue false ≡ true → IsClosedAt mass row residue

-- the row of one mass more
pub record AreAdded (mass : ℕ) (before now : List ℕ) : Type 0 where
  pub reached : AreReached mass before now
  pub closed : (residue : ℕ) → residue < length now → IsClosedAt mass now residue

-- going round keeps what was seen and what was reached
pub record Keeps (mass : ℕ) (before : List ℕ) (seen : List Bool) (now : List ℕ) (seen_now : List Bool) : Type 0 where
  pub reached : AreReached mass before now
  pub size : length seen_now ≡ length seen
  pub still_seen : (residue : ℕ) → slice_index_or seen residue false ≡ true
      → slice_index_or seen_now residue false ≡ true
