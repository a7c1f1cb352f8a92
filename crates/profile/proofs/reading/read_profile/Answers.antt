use Rattle.std.proofs.Common.{◌≡◌, ◌∙◌, sym}
use Rattle.std.proofs.lemmas.Result.{err_from_is_err_and}
use Rattle.toml.specs.View.{table_view}
use Rattle.profile.specs.Places.{places_of}
use Rattle.profile.specs.Refusal.{refusal_of}
use Rattle.profile.specs.inside.Searched.{places_seen}
use Rattle.profile.proofs.AnswerLaws.{profile_of-refused, profile_of-read, told}
use Rattle.profile.proofs.reading.read_profile.Goals as goal

pub returns-in_err-table-clause-refused : goal.returns-in_err-table-clause-refused
returns-in_err-table-clause-refused c =
    let p = err_from_is_err_and c.from_residual.result c.from_residual.ensures.1 in
    rw (p.1, p.2) c.in_err-table.ensures.refused

pub returns-in_err-search_all-clause-refused : goal.returns-in_err-search_all-clause-refused
returns-in_err-search_all-clause-refused c =
    let p = err_from_is_err_and c.from_residual-in_err-search_all.result c.from_residual-in_err-search_all.ensures.1 in
    let entries = table_view c.in_ok-table.table in
    let error = c.in_err-search_all.field-0.0 in
    let searched : refusal_of (places_seen c.deref.result.now) ≡ refusal_of (places_of entries) =
    rw (c.deref.ensures.value, c.in_ok-places.ensures) in
    rw (p.1, p.2) (λ fault same. profile_of-refused c.args.bytes.now entries fault c.in_ok-table.ensures.read
    (sym searched ∙ told error fault _ c.in_err-search_all.ensures same))

pub returns-clause-read : goal.returns-clause-read
returns-clause-read c =
    let entries = table_view c.in_ok-table.table in
    let searched : refusal_of (places_seen c.deref.result.now) ≡ refusal_of (places_of entries) =
    rw (c.deref.ensures.value, c.in_ok-places.ensures) in
    rw c.in_ok-profile_in.ensures (profile_of-read c.args.bytes.now entries c.in_ok-table.ensures.read (sym searched
    ∙ c.in_ok-search_all.ensures))
