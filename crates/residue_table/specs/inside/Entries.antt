-- What the entries of a table say.
use Rattle.std.specs.Prelude.{◌≡◌, ◌≤◌, ◌<◌, ◌+◌, ◌*◌, ◌^◌, ℕ, List, length, slice_index}
use Rattle.residue_table.specs.Least.{IsMember, greatest_mass}

-- where a residue class has no sum, the entry is this, which is greater than any that has one
abbrev pub nothing : ℕ
nothing = 2 ^ 62

-- an entry: the least member of its class, or nothing
pub record IsEntry (masses : List ℕ) (residue places entry : ℕ) : Type 0 where
  pub member : entry < nothing → IsMember masses residue places entry
  pub least : (number : ℕ) → IsMember masses residue places number → entry ≤ number
  pub small : (number : ℕ) → IsMember masses residue places number → entry ≤ places * (greatest_mass * greatest_mass)

-- the entries of all residues, for so many first masses
pub record IsRow (masses : List ℕ) (places : ℕ) (row : List ℕ) : Type 0 where
  pub size : length row ≡ slice_index masses 0
  pub entries : (residue : ℕ) → residue < length row → IsEntry masses residue places (slice_index row residue)

-- such rows one after another, the first for one mass
pub record AreEntries (masses : List ℕ) (rows : ℕ) (entries : List ℕ) : Type 0 where
  pub size : length entries ≡ rows * slice_index masses 0
  pub are : (row residue : ℕ) → row < rows → residue < slice_index masses 0
      → IsEntry masses residue (row + 1) (slice_index entries (row * slice_index masses 0 + residue))
