-- The classes of statuses: at which steps of its plan a run stops that ends so. A promise on any command tells statuses
-- apart by them alone.
use Rattle.std.specs.Prelude.{◌≡◌, ◌++◌, ◌⊎◌, ℕ, List, [], ◌∷◌, ⊤}
use Rattle.frag_io.specs.declared.desk.Slot.{Slot}
use Rattle.frag_io.specs.declared.desk.Slot.TheVariants.{Profile, CertIn}
use Rattle.run_plan.specs.Plan.{Step, begin, read, write, finish}
use Rattle.run_plan.specs.declared.status.Status.{Status}
use Rattle.run_plan.specs.declared.status.Status.TheVariants.{Done, Words, Memory, ReadFault, WriteFault}
use Rattle.run_plan.specs.declared.status.Status.TheVariants.{OpenFault, TooLong, MgfRefused, ProfileRefused}
use Rattle.run_plan.specs.declared.status.Status.TheVariants.{DocumentRefused, DocumentRejected}

pub data Class : Type 0 where
  -- the words are no order
  no_order : Class
  -- all work was done, and all that was made was written and finished
  ended : Class
  -- what this slot was read for is refused
  refused : Slot → Class
  -- there was no memory
  memory : Class
  -- this slot could not be begun
  open_fault : Slot → Class
  -- a read of this slot failed
  read_fault : Slot → Class
  -- a write to this slot failed, or its end
  write_fault : Slot → Class
  -- more was read from this slot than its limit allows
  too_long : Slot → Class

abbrev pub class_of : Status → Class
class_of Done = ended
class_of Words = no_order
class_of Memory = memory
class_of (MgfRefused fault) = ended
class_of (ProfileRefused fault) = refused Profile
class_of (DocumentRefused fault) = refused CertIn
class_of (DocumentRejected place) = refused CertIn
class_of (ReadFault slot) = read_fault slot
class_of (WriteFault slot) = write_fault slot
class_of (OpenFault slot) = open_fault slot
class_of (TooLong slot) = too_long slot

-- the first of these steps is that one
abbrev pub IsNext : Step → List Step → Type 0
IsNext step rest = (later : List Step) × (rest ≡ step ∷ later)

-- the last of these steps is that one
abbrev pub IsLast : Step → List Step → Type 0
IsLast step done = (earlier : List Step) × (done ≡ earlier ++ step ∷ [])

-- Where a run of this class stops, behind the steps that were done and before the rest. At the end of all work no
-- step is
-- left; what is refused was read in the last step; a fault is that of the next step; and memory may lack anywhere.
abbrev pub StopsAt : Class → List Step → List Step → Type 0
StopsAt no_order done rest = ⊥
StopsAt ended done rest = rest ≡ []
StopsAt (refused slot) done rest = IsLast (read slot) done
StopsAt memory done rest = ⊤
StopsAt (open_fault slot) done rest = (name : List ℕ) × IsNext (begin slot name) rest
StopsAt (read_fault slot) done rest = IsNext (read slot) rest
StopsAt (too_long slot) done rest = IsNext (read slot) rest
StopsAt (write_fault slot) done rest = IsNext (write slot) rest ⊎ IsNext (finish slot) rest

-- the classes of an answer to what was read
abbrev pub IsAnswer : Class → Type 0
IsAnswer ended = ⊤
IsAnswer (refused slot) = ⊤
IsAnswer class = ⊥

-- the classes that a profile alone leads to
abbrev pub IsOfProfile : Class → Type 0
IsOfProfile (refused Profile) = ⊤
IsOfProfile (open_fault Profile) = ⊤
IsOfProfile (read_fault Profile) = ⊤
IsOfProfile (too_long Profile) = ⊤
IsOfProfile class = ⊥
