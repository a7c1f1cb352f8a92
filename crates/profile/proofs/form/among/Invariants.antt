use Rattle.std.proofs.Common.{◌≡◌, drop}
use Rattle.profile.specs.Form as spec
use Rattle.profile.specs.inside.Seen.{rows_seen}
use Rattle.profile.proofs.form.among.Given as goal

abbrev pub invariant-loop-name : goal.invariant-loop-name
invariant-loop-name l = spec.form_among (rows_seen (drop l.name-index l.keys)) l.key
    ≡ spec.form_among (rows_seen l.keys) l.key
