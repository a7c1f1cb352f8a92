use Rattle.std.proofs.Common.{◌≡◌, drop}
use Rattle.profile.specs.Refusal.{first_fault}
use Rattle.profile.specs.inside.Searched.{fault_at, places_seen}
use Rattle.profile.proofs.refusal.search.Given as goal

abbrev pub invariant-loop-place : goal.invariant-loop-place
invariant-loop-place l = first_fault (fault_at l.sought) (places_seen (drop l.place-index l.places))
    ≡ first_fault (fault_at l.sought) (places_seen l.places)
